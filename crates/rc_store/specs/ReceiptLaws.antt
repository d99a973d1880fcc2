-- What receipts mean, from what they say.
use Rattle.std.specs.Prelude.{◌≡◌, ℕ, suc, List, [], ◌∷◌, ◌++◌, Some, length, take}
use Rattle.rc_store.specs.Imports.{slice_get, In, gather, append_in_left, append_in_right, in_contains, IsRelation, Satisfies, Pairs, Call, Reply, Spec, all_columns, EdgeRow, rows_on, plain, Statement, IsCompiled, plan_at, compiled_law, eval, touched, Serves, AreHeld, stripe_lock_cmp, stripes_of, Entry, Step, AreLegalFrom, IsLegal, IsPlain, IsPrefix, after_steps, replay, replay_in_states, states_are_relations, states_satisfy, legal_last, rows_held_are, next_of, rows_held, PassSeen, compiled_of, core_of, next_entry, spec_of}
use Rattle.std.proofs.Common.{refl, sym, ap, subst, ◌∙◌, inl}
use Rattle.std.proofs.lemmas.List.Elements.{All-contains}
use Rattle.rc_core.specs.State.{locks_of}
use Rattle.rc_store.specs.declared.receipt.Receipt.{Receipt}
use Rattle.rc_store.specs.Closed.{ClosedSeen, HasClosed}
use Rattle.rc_store.specs.Receipts.{ReceiptsAreOfTheClosed, ReceiptsArePlain, ReceiptsGoOn, TellingGoesOn, history_with}
use Rattle.rc_store.specs.Store.{HasMade, HasMadeEntry, StoreSeen, one_step}

-- ---- the last entry of a history, and those before it

last_there : (xs : List Entry) (y : Entry) (more : List Entry) → slice_get ((xs ++ y ∷ []) ++ more) (length xs) ≡ Some y
last_there [] y more = refl
last_there (x ∷ xs) y more = last_there xs y more

with_the_last : (xs : List Entry) (y : Entry) (more : List Entry) → take (suc (length xs)) ((xs ++ y ∷ []) ++ more) ≡ xs ++ y ∷ []
with_the_last [] y more = refl
with_the_last (x ∷ xs) y more = λ i. x ∷ with_the_last xs y more i

-- In a legal history the last entry, of one call, has the plain relation's reply after those before it, and leaves the plain relation.
pub plain_behind : (spec : Spec) (before : List Entry) (entry : Entry) (step : Step) → IsLegal spec (before ++ entry ∷ []) → entry.steps ≡ step ∷ []
    → (step.reply ≡ (plain spec (replay spec before) step.call).reply) × (replay spec (before ++ entry ∷ []) ≡ (plain spec (replay spec before) step.call).relation)
plain_behind spec before entry step legal one =
    let there = legal_last spec before entry legal in (
      (subst (AreLegalFrom spec (replay spec before)) one there.0).0,
      there.1 ∙ ap (after_steps spec (replay spec before)) one,
    )

-- ---- one receipt

-- the replies are the plain relation's in turn
pub entries_are_plain : (store : StoreSeen) (steps : List Step) (old new : PassSeen) (place nth : ℕ) (made : HasMadeEntry store steps old new place nth)
    → AreLegalFrom (spec_of store.row) (replay (spec_of store.row) made.before) steps
    × (replay (spec_of store.row) (history_with made.before old steps) ≡ after_steps (spec_of store.row) (replay (spec_of store.row) made.before) steps)
entries_are_plain store steps old new place nth made = legal_last (spec_of store.row) made.before (next_of (core_of old) steps) made.after.good.legal

module _ (store : StoreSeen) (ok : IsCompiled (spec_of store.row) (compiled_of store.row).plans) (call : Call) (reply : Reply) (old new : PassSeen) (receipt : Receipt)
    (made : HasMade store call reply old new receipt) where
  abbrev spec : Spec
  spec = spec_of store.row

  abbrev plan : List Statement
  plan = plan_at (compiled_of store.row).plans call.op

  abbrev entry : Entry
  entry = next_entry (core_of old) call reply

  abbrev history : List Entry
  history = history_with made.entry.before old (one_step call reply)

  abbrev state : List Pairs
  state = replay spec made.entry.before

  abbrev step : Step
  step = record { call = call; reply = reply }

  behind : (reply ≡ (plain spec state call).reply) × (replay spec history ≡ (plain spec state call).relation)
  behind = plain_behind spec made.entry.before entry step made.entry.after.good.legal refl

  plain_there : IsPlain spec state (replay spec history) entry
  plain_there = record { step = step; one = refl; reply = behind.0; relation = behind.1 }

  -- what is held has the rows of the state before
  rows_are : rows_held made.entry.at_commit ≡ rows_on spec state (stripes_of (locks_of made.entry.at_commit))
  rows_are = rows_held_are spec made.entry.before made.entry.at_commit made.entry.at.of.rows

  serves : Serves spec plan call state (locks_of made.entry.at_commit)
  serves =
      let is_relation : IsRelation (all_columns spec) state = states_are_relations spec made.entry.before made.entry.at.of.good.fit state (replay_in_states spec made.entry.before) in
      let satisfies : Satisfies state spec.deps = states_satisfy spec made.entry.before state (replay_in_states spec made.entry.before) in
      compiled_law (compiled_of store.row) ok call made.entry.allowed.fit.0 state is_relation satisfies (locks_of made.entry.at_commit)
      (subst (λ (rows : List EdgeRow). AreHeld (eval spec plan call rows).named (locks_of made.entry.at_commit)) rows_are made.entry.allowed.held.0)

  held_is : gather stripe_lock_cmp (locks_of made.entry.at_commit) ≡ touched spec plan call state
  held_is = made.exact ∙ ap (λ (rows : List EdgeRow). (eval spec plan call rows).named) rows_are ∙ serves.named

pub receipts_are_plain : ReceiptsArePlain
receipts_are_plain = record {
  entries = entries_are_plain;
  calls = λ store ok call reply old new receipt made. (
    plain_there store ok call reply old new receipt made,
    (behind store ok call reply old new receipt made).0,
    held_is store ok call reply old new receipt made,
  );
}

-- ---- one after another

pub receipts_go_on : ReceiptsGoOn
receipts_go_on store steps old new place nth made later_steps later_old later_new later_place later_nth later m =
    All-contains (λ (earlier : List Entry). IsPrefix earlier later.before) later_old.standing.known (history_with made.before old steps) later.at.goes_on
    (in_contains (history_with made.before old steps) later_old.standing.known m)

-- those told of, and one more
told_more : (known now : List (List Entry)) (history : List Entry) → now ≡ known ++ history ∷ [] → In history now × ((h : List Entry) → In h known → In h now)
told_more known now history e = (
  subst (In history) (sym e) (append_in_right history known (history ∷ []) (inl refl)),
  λ h m. subst (In h) (sym e) (append_in_left h known (history ∷ []) m),
)

pub telling_goes_on : TellingGoesOn
telling_goes_on = record {
  made = λ store steps old new place nth made. told_more old.standing.known new.standing.known (history_with made.before old steps) made.known;
  stopped = λ old new before history m. subst (In history) (sym before.known) m;
  looked = λ store old new length_is h.
      told_more old.standing.known new.standing.known h.history (ap (λ (q : PassSeen). q.standing.known) h.is);
  learned = λ note old. (
    λ history m. append_in_left history old.standing.known note.known m,
    λ history m. append_in_right history old.standing.known note.known m,
  );
}

-- ---- at the end

-- a history that a pass of the store was told of begins the one history, with its last entry at its place
pub begins_closed : (store : StoreSeen) (passes : List PassSeen) (closed : ClosedSeen) (h : HasClosed store passes closed) (k : ℕ) (pass : PassSeen) → slice_get passes k ≡ Some pass
    → (told : List Entry) → In told pass.standing.known → IsPrefix told h.history
begins_closed store passes closed h k pass is told m =
    All-contains (λ (earlier : List Entry). IsPrefix earlier h.history) pass.standing.known told (h.known k pass is) (in_contains told pass.standing.known m)

pub there_within : (one before : List Entry) (entry : Entry) (place : ℕ) → place ≡ length before → IsPrefix (before ++ entry ∷ []) one → slice_get one place ≡ Some entry
there_within one before entry place place_is begins = (λ i. slice_get (begins.1 i) (place_is i)) ∙ last_there before entry begins.0

pub receipts_are_of_the_closed : ReceiptsAreOfTheClosed
receipts_are_of_the_closed store passes closed h k pass is steps old new place nth made m =
    let begins : IsPrefix (history_with made.before old steps) h.history = begins_closed store passes closed h k pass is (history_with made.before old steps) m in
    let entry : Entry = next_of (core_of old) steps in (
      (λ i. take (suc (made.place_is i)) (begins.1 i)) ∙ with_the_last made.before entry begins.0,
      there_within h.history made.before entry place made.place_is begins,
    )
