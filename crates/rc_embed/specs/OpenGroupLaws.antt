-- What holds of the calls of open groups: they keep the session's pass and its entries, and once they are committed their
-- replies are the plain relation's. (PLDI 2012, serializable transactions.)
use Rattle.std.proofs.Common.{◌≡◌, ℕ, List, [], ◌∷◌, ◌++◌, refl, sym, ap, ◌∙◌, subst, append_assoc}
use Rattle.std.proofs.lemmas.List.{append-nil, map-append}
use Rattle.rc_embed.specs.Imports.{In, Call, StripeLock, Entry, Placed, Step, PassSeen, core_of, spec_of, ClosedSeen, OpenGroupSeen, declared_locks, calls_of, StoreSeen, call_of, Position}
use Rattle.rc_embed.specs.declared.fault.OpenCallFault.TheVariants as faults
use Rattle.rc_embed.specs.declared.opening.Options as opening
use Rattle.rc_embed.specs.declared.session.State.{State}
use Rattle.rc_embed.specs.declared.session.State.TheVariants.{Idle, Prepared, PreparedGroup, Open, Moving}
use Rattle.rc_embed.specs.Asked.{AskedCall, calls_by}
use Rattle.rc_embed.specs.Declaring.{IsDeclared, declared_in}
use Rattle.rc_embed.specs.Entries.{HaveEntriesOf, KeepsPass, entries_of, known_of, number_in}
use Rattle.rc_embed.specs.EntriesLaws.{commits_stand}
use Rattle.rc_embed.specs.OfText.{AreAnsweredAt, IsHistoryOfText}
use Rattle.rc_embed.specs.OpenGroups.{HasCalledOpen, HasOpenCause, HasOpenedGroup, IsUncoveredIn, call_in}
use Rattle.rc_embed.specs.Opened.{IsStoreOfTexts, OpenSeen}
use Rattle.rc_embed.specs.Session.{HasCommitted, SessionSeen, calls_in, replies_of, uncommitted_in}
use Rattle.rc_embed.specs.ToldLaws.{answered, calls_or, same_calls}

-- ---- the session keeps its pass, the entries of that, and what it was told of

-- while it opens a group,
abbrev pub OpeningKeepsPasses : Type 0
OpeningKeepsPasses = (old new : SessionSeen) (declared : List AskedCall)
    → HasOpenedGroup old declared new → KeepsPass old new

-- from one state to another with the same entries
kept_so : (old new : SessionSeen) (before after : State) → old.state ≡ before → new.state ≡ after
    → number_in after ≡ number_in before → entries_of after ≡ entries_of before → known_of after ≡ known_of before
    → KeepsPass old new
kept_so old new before after was is number entries known = record {
  number = ap number_in is ∙ number ∙ sym (ap number_in was);
  entries = λ w m.
      subst (λ (l : List Placed). In w l) (ap entries_of was ∙ sym entries ∙ sym (ap entries_of is)) m;
  knows = λ history m.
      subst (λ (l : List (List Entry)). In history l) (ap known_of was ∙ sym known ∙ sym (ap known_of is)) m;
}

pub opening_keeps : OpeningKeepsPasses
opening_keeps old new declared h =
    kept_so old new (Idle h.before) (Open h.group) h.was h.is
    (ap (λ (pass : PassSeen). number_in (Idle pass)) h.opened.begun)
    (ap (λ (pass : PassSeen). (core_of pass).own) h.opened.begun)
    (ap (λ (pass : PassSeen). pass.standing.known) h.opened.begun)

-- and while that makes a call
abbrev pub OpenCallsKeepPasses : Type 0
OpenCallsKeepPasses = (old new : SessionSeen) (asked : AskedCall) → HasCalledOpen old asked new → KeepsPass old new

pub open_calls_keep : OpenCallsKeepPasses
open_calls_keep old new asked h =
    kept_so old new (Open h.before) (Open h.after) h.was h.is
    (ap (λ (pass : PassSeen). number_in (Idle pass)) h.called.begun)
    (ap (λ (pass : PassSeen). (core_of pass).own) h.called.begun)
    (ap (λ (pass : PassSeen). pass.standing.known) h.called.begun)

-- ---- the calls of an open group, one after another

-- store and state are the same: calls may have been refused between, and replies picked
pub record IsStill (old new : SessionSeen) : Type 0 where
  pub store : new.store ≡ old.store
  pub state : new.state ≡ old.state

-- a session that was so, whatever it picks, has made the call of its open group
pub record HasCalledNext (old : SessionSeen) (asked : AskedCall) (new : SessionSeen) : Type 0 where
  pub from : SessionSeen
  pub still : IsStill old from
  pub store : new.store ≡ from.store
  pub called : HasCalledOpen from asked new

-- an open group has made the calls that were asked for, one after another
abbrev pub HaveCalledInTurn : SessionSeen → List AskedCall → SessionSeen → Type 0
HaveCalledInTurn old [] new = IsStill old new
HaveCalledInTurn old (asked ∷ rest) new = (next : SessionSeen) × HasCalledNext old asked next × HaveCalledInTurn next rest new

-- ---- what it declared

-- the locks that an open group holds
abbrev locks_in : State → List StripeLock
locks_in (Idle pass) = []
locks_in (Prepared running) = []
locks_in (PreparedGroup running) = []
locks_in (Open group) = group.locks
locks_in Moving = []

-- An open group has the locks of what it declared, whatever calls it has made.
abbrev pub OpenGroupsKeepTheirLocks : Type 0
OpenGroupsKeepTheirLocks = (old begun ready : SessionSeen) (declared asked : List AskedCall) (group : OpenGroupSeen)
    → HasOpenedGroup old declared begun → HaveCalledInTurn begun asked ready → ready.state ≡ Open group
    → group.locks ≡ declared_locks old.store.row (declared_in old declared)

still_locks : (old new : SessionSeen) (asked : AskedCall) → HasCalledNext old asked new → locks_in new.state ≡ locks_in old.state
still_locks old new asked h =
    ap locks_in h.called.is ∙ h.called.called.locks ∙ sym (ap locks_in h.called.was) ∙ ap locks_in h.still.state

all_locks : (old new : SessionSeen) (asked : List AskedCall) → HaveCalledInTurn old asked new → locks_in new.state ≡ locks_in old.state
all_locks old new [] h = ap locks_in h.state
all_locks old new (asked ∷ rest) h = all_locks h.0 new rest h.2 ∙ still_locks old h.0 asked h.1

pub open_groups_keep_their_locks : OpenGroupsKeepTheirLocks
open_groups_keep_their_locks old begun ready declared asked group opens on is =
    sym (ap locks_in is) ∙ all_locks begun ready asked on ∙ ap locks_in opens.is ∙ opens.opened.locks

-- So none of the calls that it declared is answered that what was declared doesn't suffice for it.
abbrev pub NoDeclaredCallIsUncovered : Type 0
NoDeclaredCallIsUncovered = (old begun ready new : SessionSeen) (declared asked : List AskedCall) (next : AskedCall)
    → begun.store ≡ old.store → HasOpenedGroup old declared begun → HaveCalledInTurn begun asked ready
    → IsDeclared (spec_of old.store.row) declared (call_in old next)
    → HasOpenCause ready new next faults.Uncovered → ⊥

all_stores : (old new : SessionSeen) (asked : List AskedCall) → HaveCalledInTurn old asked new → new.store ≡ old.store
all_stores old new [] h = h.store
all_stores old new (asked ∷ rest) h = all_stores h.0 new rest h.2 ∙ h.1.store ∙ h.1.still.store

pub no_declared_call_is_uncovered : NoDeclaredCallIsUncovered
no_declared_call_is_uncovered old begun ready new declared asked next began opens on is cause = go ready.state refl
  where
    same : ready.store ≡ old.store
    same = all_stores begun ready asked on ∙ began

    uncovered : IsUncoveredIn old.store ready.state (call_in old next)
    uncovered = subst (λ (store : StoreSeen). IsUncoveredIn store ready.state (call_of (spec_of store.row) next.op next.values)) same cause.1

    here : (state : State) → ready.state ≡ state → IsUncoveredIn old.store state (call_in old next)
    here state e = subst (λ (s : State). IsUncoveredIn old.store s (call_in old next)) e uncovered

    go : (state : State) → ready.state ≡ state → ⊥
    go (Idle pass) e = here (Idle pass) e
    go (Prepared running) e = here (Prepared running) e
    go (PreparedGroup running) e = here (PreparedGroup running) e
    go (Open group) e = (here (Open group) e).1 declared (open_groups_keep_their_locks old begun ready declared asked group opens on e) is
    go Moving e = here Moving e

-- ---- the replies that it was told

-- The replies that a session was told of the calls of an open group, once they are committed and their entry has come back
-- to the store that is closed, are in turn the plain relation's, by the specification that the text gives, at the place of
-- the one history.
abbrev pub OpenRepliesArePlain : Type 0
OpenRepliesArePlain = (text shapes plans : List ℕ) (options : opening.Options) (opened : OpenSeen)
    (is : IsStoreOfTexts text shapes plans options opened) (passes : List PassSeen) (closed : ClosedSeen) (history : List Entry)
    → IsHistoryOfText is.spec opened.store passes closed history
    → (old begun ready new : SessionSeen) (declared asked : List AskedCall) (at : Position)
    → old.store ≡ opened.store → begun.store ≡ old.store → HasOpenedGroup old declared begun → HaveCalledInTurn begun asked ready
    → HasCommitted ready new at → HaveEntriesOf passes new
    → AreAnsweredAt is.spec history at.place (calls_by is.spec asked) (replies_of new)

-- the calls that a session has made and not committed
abbrev made_in : SessionSeen → List Call
made_in session = calls_or [] (uncommitted_in session.state)

made_more : (old new : SessionSeen) (asked : AskedCall) → HasCalledOpen old asked new
    → made_in new ≡ made_in old ++ calls_in old (asked ∷ [])
made_more old new asked h =
    ap (λ (state : State). calls_or [] (uncommitted_in state)) h.is
    ∙ ap calls_of h.called.steps
    ∙ map-append (λ (s : Step). s.call) h.before.steps (record { call = call_in old asked; reply = h.called.reply } ∷ [])
    ∙ sym (ap (λ (state : State). calls_or [] (uncommitted_in state) ++ calls_in old (asked ∷ [])) h.was)

gone_more : (old new : SessionSeen) (asked : AskedCall) → HasCalledNext old asked new
    → made_in new ≡ made_in old ++ calls_in old (asked ∷ [])
gone_more old new asked h =
    made_more h.from new asked h.called
    ∙ ap (λ (state : State). calls_or [] (uncommitted_in state) ++ calls_in h.from (asked ∷ [])) h.still.state
    ∙ ap (λ (store : StoreSeen). made_in old ++ calls_by (spec_of store.row) (asked ∷ [])) h.still.store

all_made : (old new : SessionSeen) (asked : List AskedCall) → HaveCalledInTurn old asked new
    → made_in new ≡ made_in old ++ calls_in old asked
all_made old new [] h =
    ap (λ (state : State). calls_or [] (uncommitted_in state)) h.state ∙ sym (append-nil (made_in old))
all_made old new (asked ∷ rest) h =
    let next : SessionSeen = h.0 in
    let same : next.store ≡ old.store = h.1.store ∙ h.1.still.store in
    all_made next new rest h.2
    ∙ ap (λ (store : StoreSeen). made_in next ++ calls_by (spec_of store.row) rest) same
    ∙ ap (λ (calls : List Call). calls ++ calls_in old rest) (gone_more old next asked h.1)
    ∙ append_assoc (made_in old) (calls_in old (asked ∷ [])) (calls_in old rest)

none_made : (old new : SessionSeen) (declared : List AskedCall) → HasOpenedGroup old declared new → made_in new ≡ []
none_made old new declared h =
    ap (λ (state : State). calls_or [] (uncommitted_in state)) h.is ∙ ap calls_of h.opened.none

pub open_replies_are_plain : OpenRepliesArePlain
open_replies_are_plain text shapes plans options opened is passes closed history of old begun ready new declared asked at same began opens on committed have =
    let calls : calls_of committed.running.steps ≡ calls_by is.spec asked =
    sym (ap (calls_or []) committed.was)
    ∙ all_made begun ready asked on
    ∙ ap (λ (calls : List Call). calls ++ calls_in begun asked) (none_made old begun declared opens)
    ∙ ap (λ (store : StoreSeen). calls_by (spec_of store.row) asked) (began ∙ same)
    ∙ same_calls text shapes plans options opened is asked in
    subst (λ (cs : List Call). AreAnsweredAt is.spec history at.place cs (replies_of new)) calls
    (answered is.spec opened.store passes closed history of (entries_of new.state) have at.place
    (calls_of committed.running.steps) (replies_of new) (commits_stand ready new at committed))
