-- What a closed store leaves is of the specification that its text gives, and so are the replies that its sessions were
-- told. (PLDI 2012, serializable transactions.)
use Rattle.std.proofs.Common.{◌≡◌, ℕ, zero, suc, ◌<◌, List, [], ◌∷◌, ◌++◌, length, take, Option, Some, None, ap, ◌∙◌, refl, subst, sym, arith}
use Rattle.rc_embed.specs.Imports.{slice_get, In, in_slice_get, slice_get_in, Pairs, Call, Reply, Spec, plain, embedded, SpecWithPlans, Entry, Placed, Step, AreLegalFrom, IsLegal, after_steps, placed, relation_at, replay, steps_of, StandsIn, own_stands, same_places, stands_in_other, after_steps-append, IsOfRelation, PassSeen, spec_of, ClosedSeen, HasClosed, RunningGroupSeen, calls_of, StoreSeen, Position}
use Rattle.std.proofs.lemmas.List.{append-nil}
use Rattle.std.proofs.lemmas.Option.{same_Some}
use Rattle.rc_embed.specs.declared.opening.Options as opening
use Rattle.rc_embed.specs.Asked.{AskedCall, calls_by}
use Rattle.rc_embed.specs.Entries.{HasEntry, HaveEntriesOf, StandsAt, entries_of}
use Rattle.rc_embed.specs.EntriesLaws.{calls_stand, commits_stand, prepared_uncommitted}
use Rattle.rc_embed.specs.OfText.{AreAnsweredAt, IsHistoryOfText}
use Rattle.rc_embed.specs.Opened.{IsStoreOfTexts, OpenSeen}
use Rattle.rc_embed.specs.OpenedLaws.{histories_are_of_the_text, opened_calls, store_spec}
use Rattle.rc_embed.specs.Session.{HasCalled, HasCommitted, HasPrepared, SessionSeen, calls_in, replies_of, uncommitted_in}

-- ---- what a store leaves that is closed

-- It is one history of the text's specification, in which each pass's entries are its own, and what is left are the
-- rows of its relation.
abbrev pub ClosedIsOfTheText : Type 0
ClosedIsOfTheText = (text shapes plans : List ℕ) (options : opening.Options) (opened : OpenSeen) (is : IsStoreOfTexts text shapes plans options opened)
    → (passes : List PassSeen) (closed : ClosedSeen) (has : HasClosed opened.store passes closed)
    → IsHistoryOfText is.spec opened.store passes closed has.history

pub closed_is_of_the_text : ClosedIsOfTheText
closed_is_of_the_text text shapes plans options opened is passes closed has =
    let both = histories_are_of_the_text text shapes plans options opened is (length passes) has.history has.leaves.good in
    record {
      good = both.0;
      keeps = ap (λ (compiled : SpecWithPlans). compiled.spec) has.compiled ∙ is.store.of_spec;
      relation =
          subst (λ (r : List Pairs). IsOfRelation (embedded is.spec) closed.instance r) both.1
          (subst (λ (s : Spec). IsOfRelation s closed.instance (replay (store_spec opened) has.history))
          is.store.of_spec has.leaves.relation);
      own = has.own;
      journal = has.journal;
      made = has.made;
    }

-- There is no other one: the passes' entries determine it.
abbrev pub HistoriesOfTextAreOne : Type 0
HistoriesOfTextAreOne = (spec : Spec) (store : StoreSeen) (passes : List PassSeen) (closed : ClosedSeen)
    (history other : List Entry)
    → IsHistoryOfText spec store passes closed history → IsHistoryOfText spec store passes closed other
    → history ≡ other

passes_at : (passes : List PassSeen) (k : ℕ) → k < length passes → (pass : PassSeen) × (slice_get passes k ≡ Some pass)
passes_at [] k below = absurd (omega (arith, below))
passes_at (pass ∷ passes) zero below = (pass, refl)
passes_at (pass ∷ passes) (suc k) below = passes_at passes k (omega (arith, below))

module _ (spec : Spec) (store : StoreSeen) (passes : List PassSeen) (closed : ClosedSeen) where
  stands_in_both : (history other : List Entry)
      → IsHistoryOfText spec store passes closed history → IsHistoryOfText spec store passes closed other
      → StandsIn history other
  stands_in_both history other is also i e at =
      let below : e.pass < length passes = (is.good.entries e (slice_get_in history i e at)).pass in
      let found = passes_at passes e.pass below in
      stands_in_other history other i e (sym (is.own e.pass found.0 found.1) ∙ also.own e.pass found.0 found.1) at

pub histories_of_text_are_one : HistoriesOfTextAreOne
histories_of_text_are_one spec store passes closed history other is also =
    same_places history other (stands_in_both spec store passes closed history other is also)
    (stands_in_both spec store passes closed other history also is)

-- ---- legal histories, place by place

legal_first : (spec : Spec) (r : List Pairs) (xs ys : List Step) → AreLegalFrom spec r (xs ++ ys) → AreLegalFrom spec r xs
legal_first spec r [] ys h = tt
legal_first spec r (x ∷ xs) ys h = (h.0, legal_first spec (plain spec r x.call).relation xs ys h.1)

legal_rest : (spec : Spec) (r : List Pairs) (xs ys : List Step) → AreLegalFrom spec r (xs ++ ys) → AreLegalFrom spec (after_steps spec r xs) ys
legal_rest spec r [] ys h = h
legal_rest spec r (x ∷ xs) ys h = legal_rest spec (plain spec r x.call).relation xs ys h.1

legal_from : (spec : Spec) (r : List Pairs) (history : List Entry) → AreLegalFrom spec r (steps_of history)
    → (place : ℕ) (entry : Entry) → slice_get history place ≡ Some entry
    → AreLegalFrom spec (after_steps spec r (steps_of (take place history))) entry.steps
    × (after_steps spec r (steps_of (take (suc place) history))
    ≡ after_steps spec (after_steps spec r (steps_of (take place history))) entry.steps)
legal_from spec r [] legal place entry at = absurd cc
legal_from spec r (e ∷ es) legal zero entry at =
    subst (λ (x : Entry). AreLegalFrom spec r x.steps × (after_steps spec r (e.steps ++ []) ≡ after_steps spec r x.steps))
    (same_Some e entry at)
    (legal_first spec r e.steps (steps_of es) legal, ap (after_steps spec r) (append-nil e.steps))
legal_from spec r (e ∷ es) legal (suc n) entry at =
    subst (λ (z : List Pairs × List Pairs). AreLegalFrom spec z.0 entry.steps × (z.1 ≡ after_steps spec z.0 entry.steps))
    (λ i. (sym (after_steps-append spec r e.steps (steps_of (take n es))) i, sym (after_steps-append spec r e.steps (steps_of (take (suc n) es))) i))
    (legal_from spec (after_steps spec r e.steps) es (legal_rest spec r e.steps (steps_of es) legal) n entry at)

-- In a legal history the replies of an entry are in turn the plain relation's from its place on, which is that of the next
-- place after the last of its calls.
legal_at_each_place : (spec : Spec) (history : List Entry) → IsLegal spec history
    → (place : ℕ) (entry : Entry) → slice_get history place ≡ Some entry
    → AreLegalFrom spec (relation_at spec history place) entry.steps
    × (relation_at spec history (suc place) ≡ after_steps spec (relation_at spec history place) entry.steps)
legal_at_each_place spec history legal place entry at = legal_from spec [] history legal place entry at

-- ---- the replies that sessions were told

-- Of each entry among a pass's own, the replies are in turn the plain relation's from its place on, and after the last of
-- its calls it is that of the next place.
abbrev pub EntriesArePlain : Type 0
EntriesArePlain = (spec : Spec) (store : StoreSeen) (passes : List PassSeen) (closed : ClosedSeen)
    (history : List Entry) → IsHistoryOfText spec store passes closed history
    → (w : Placed) → HasEntry passes w
    → AreLegalFrom spec (relation_at spec history w.place) w.entry.steps
    × (relation_at spec history (suc w.place) ≡ after_steps spec (relation_at spec history w.place) w.entry.steps)

-- where an entry of a pass stands
stands : (spec : Spec) (store : StoreSeen) (passes : List PassSeen) (closed : ClosedSeen) (history : List Entry)
    → IsHistoryOfText spec store passes closed history → (w : Placed) → HasEntry passes w
    → slice_get history w.place ≡ Some w.entry
stands spec store passes closed history is w has =
    let k = in_slice_get has.pass passes has.is in
    ((own_stands history k.0 w).0
    (subst (λ (l : List Placed). In w l) (is.own k.0 has.pass k.1) has.among)).0

pub entries_are_plain : EntriesArePlain
entries_are_plain spec store passes closed history is w has =
    legal_at_each_place spec history is.good.legal w.place w.entry
    (stands spec store passes closed history is w has)

-- calls that stand among the entries of a pass are answered so
pub answered : (spec : Spec) (store : StoreSeen) (passes : List PassSeen) (closed : ClosedSeen) (history : List Entry)
    → IsHistoryOfText spec store passes closed history
    → (entries : List Placed) → ((w : Placed) → In w entries → HasEntry passes w)
    → (place : ℕ) (calls : List Call) (replies : List Reply) → StandsAt entries place calls replies
    → AreAnsweredAt spec history place calls replies
answered spec store passes closed history is entries have place calls replies at =
    let has = have (placed place at.entry) at.among in
    let plainly = entries_are_plain spec store passes closed history is (placed place at.entry) has in
    record {
      entry = at.entry;
      at = stands spec store passes closed history is (placed place at.entry) has;
      count = at.count;
      steps_are = at.steps_are;
      answers = subst (AreLegalFrom spec (relation_at spec history place)) at.steps_are plainly.0;
      relation = plainly.1 ∙ ap (after_steps spec (relation_at spec history place)) at.steps_are;
    }

-- what is asked for are the same calls by the specification of a store as by that of the text which opened it
pub same_calls : (text shapes plans : List ℕ) (options : opening.Options) (opened : OpenSeen) (is : IsStoreOfTexts text shapes plans options opened)
    → (asked : List AskedCall) → calls_by (store_spec opened) asked ≡ calls_by is.spec asked
same_calls text shapes plans options opened is [] = refl
same_calls text shapes plans options opened is (call ∷ asked) = λ i.
    opened_calls text shapes plans options opened is call.op call.values i ∷ same_calls text shapes plans options opened is asked i

-- The replies that a session was told, of calls whose entry has come back to the store that is closed, are in turn the
-- plain relation's, by the specification that the text gives, at the place of the one history.
abbrev pub ToldRepliesArePlain : Type 0
ToldRepliesArePlain = (text shapes plans : List ℕ) (options : opening.Options) (opened : OpenSeen)
    (is : IsStoreOfTexts text shapes plans options opened) (passes : List PassSeen) (closed : ClosedSeen) (history : List Entry)
    → IsHistoryOfText is.spec opened.store passes closed history
    → (old new : SessionSeen) (asked : List AskedCall) (at : Position)
    → old.store ≡ opened.store → HasCalled old asked new at → HaveEntriesOf passes new
    → AreAnsweredAt is.spec history at.place (calls_by is.spec asked) (replies_of new)

pub told_replies_are_plain : ToldRepliesArePlain
told_replies_are_plain text shapes plans options opened is passes closed history of old new asked at same called have =
    let calls : calls_in old asked ≡ calls_by is.spec asked =
    ap (λ (store : StoreSeen). calls_by (spec_of store.row) asked) same
    ∙ same_calls text shapes plans options opened is asked in
    subst (λ (cs : List Call). AreAnsweredAt is.spec history at.place cs (replies_of new)) calls
    (answered is.spec opened.store passes closed history of (entries_of new.state) have at.place (calls_in old asked)
    (replies_of new) (calls_stand old new asked at called))

-- And so are those of calls that were prepared, once they are committed.
abbrev pub CommittedRepliesArePlain : Type 0
CommittedRepliesArePlain = (text shapes plans : List ℕ) (options : opening.Options) (opened : OpenSeen)
    (is : IsStoreOfTexts text shapes plans options opened) (passes : List PassSeen) (closed : ClosedSeen) (history : List Entry)
    → IsHistoryOfText is.spec opened.store passes closed history
    → (old begun ready new : SessionSeen) (asked : List AskedCall) (at : Position)
    → old.store ≡ opened.store → HasPrepared old asked begun → ready.state ≡ begun.state
    → HasCommitted ready new at → HaveEntriesOf passes new
    → AreAnsweredAt is.spec history at.place (calls_by is.spec asked) (replies_of new)

-- the calls that aren't committed yet
abbrev pub calls_or : List Call → Option RunningGroupSeen → List Call
calls_or d None = d
calls_or d (Some running) = calls_of running.steps

pub committed_replies_are_plain : CommittedRepliesArePlain
committed_replies_are_plain text shapes plans options opened is passes closed history of old begun ready new asked at same prepared still committed have =
    let these : calls_of committed.running.steps ≡ calls_of prepared.running.steps =
    ap (calls_or (calls_of prepared.running.steps))
    (sym committed.was ∙ ap uncommitted_in still ∙ prepared_uncommitted begun.state prepared.running prepared.is) in
    let calls : calls_of committed.running.steps ≡ calls_by is.spec asked =
    these ∙ prepared.begun.asked
    ∙ ap (λ (store : StoreSeen). calls_by (spec_of store.row) asked) same
    ∙ same_calls text shapes plans options opened is asked in
    subst (λ (cs : List Call). AreAnsweredAt is.spec history at.place cs (replies_of new)) calls
    (answered is.spec opened.store passes closed history of (entries_of new.state) have at.place
    (calls_of committed.running.steps) (replies_of new) (commits_stand ready new at committed))
