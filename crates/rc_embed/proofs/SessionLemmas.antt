-- A session that is the same is unchanged; and what is told of calls that were made.
use Rattle.std.proofs.Common.{◌≡◌, ℕ, ◌≤◌, List, [], ◌∷◌, length, Option, Some, None, refl, sym, ap, ◌∙◌, subst, arith}
use Rattle.rc_embed.proofs.Imports.{slice_get, Reply, PartEntries, Step, with_replies-parts, with_step, Keeping, Counts, IsMoreRoom, PassSeen, compiled_of, GroupReceipt, Receipt, HasBegun, HasBegunGroup, RunningGroupSeen, RunningSeen, calls_of, AreRepliesFor, HasMade, HasMadeEntry, HasMadeGroup, HoldsExactly, IsAsBefore, IsReplyFor, StoreSeen, receipt_at, Group, Position, State, Idle, PreparedGroup, Open, Moving, AskedCall, told_last, HasCalledOpen, call_in, HasCommitted, IsStateAsBefore, IsStateOf, IsUnchanged, SessionSeen, alone, receipt_of, replies_given, replies_in, reply_of, uncommitted_in}
use Rattle.rc_spec.specs.declared.call.Call.{Call as ACall}
use Rattle.rc_store.specs.Running.{replies_of as replies_with}
use Rattle.rc_embed.specs.declared.session.Last.{Last}
use Rattle.rc_embed.specs.declared.session.Last.TheVariants.{Call}
use Rattle.rc_embed.specs.declared.session.State.TheVariants.{Prepared}

same_room : (kept : Option PartEntries) → IsMoreRoom kept kept
same_room None = tt
same_room (Some part) = (refl, omega arith)

same_pass : (pass : PassSeen) → IsAsBefore pass pass
same_pass pass = record { core = refl; table = refl; held = refl; kept = same_room pass.kept; known = refl; refusals = (omega arith, λ _. refl) }

same_state : (store : StoreSeen) (state : State) → IsStateOf store state → IsStateAsBefore state state
same_state store (Idle pass) of = same_pass pass
same_state store (Prepared running) of = refl
same_state store (PreparedGroup running) of = refl
same_state store (Open group) of = refl
same_state store Moving of = absurd of

pub same_session : (session : SessionSeen) → IsStateOf session.store session.state → IsUnchanged session session
same_session session of = record { state = same_state session.store session.state of; last = refl; picked = refl }

abbrev pass_or : PassSeen → State → PassSeen
pass_or d (Idle pass) = pass
pass_or d (Prepared running) = d
pass_or d (PreparedGroup running) = d
pass_or d (Open group) = d
pass_or d Moving = d

-- an idle session has one pass
pub same_idle : (pass other : PassSeen) → Idle pass ≡ Idle other → pass ≡ other
same_idle pass other is = ap (pass_or pass) is

-- ---- a call as a group of one

pub told_alone : (keeping : Keeping) (reply : Reply) (given : Option Reply) → keeping ≡ Counts → IsReplyFor keeping reply given
    → replies_given (Call given) ≡ reply ∷ []
told_alone keeping reply given counts is =
    ap (λ (o : Option Reply). replies_given (Call o)) (subst (λ (k : Keeping). IsReplyFor k reply given) counts is)

pub made_alone : (store : StoreSeen) (call : ACall) (reply : Reply) (old new : PassSeen) (receipt : Receipt) → store.row.keeping ≡ Counts
    → HasMade store call reply old new receipt
    → HasMadeGroup store (call ∷ []) (reply ∷ []) old new (receipt_of (record { place = receipt.place; nth = receipt.nth }) (reply ∷ []))
made_alone store call reply old new receipt counts made = record {
  count = refl;
  entry = made.entry;
  exact = made.exact;
  given = subst (λ (k : Keeping). AreRepliesFor k (reply ∷ []) (Some (reply ∷ []))) (sym counts) refl;
}

-- the call that was asked for, whose reply was told into a place, was made alone
pub made_into : (within store : StoreSeen) → within ≡ store → (call asked : ACall) → call ≡ asked → (reply : Reply) (old new : PassSeen)
    (at : Position) → within.row.keeping ≡ Counts → HasMade within call reply old new (receipt_at at reply)
    → HasMadeGroup store (asked ∷ []) (reply ∷ []) old new (receipt_of at (reply ∷ []))
made_into within store here call asked same reply old new at counts made =
    subst (λ (x : StoreSeen × ACall). HasMadeGroup x.0 (x.1 ∷ []) (reply ∷ []) old new (receipt_of at (reply ∷ [])))
    (λ i. (here i, same i))
    (made_alone within call reply old new (receipt_at at reply) counts made)

-- what is told of a group that was made
pub told_group : (store : StoreSeen) (calls : List ACall) (replies : List Reply) (old new : PassSeen) (receipt : GroupReceipt) → store.row.keeping ≡ Counts
    → HasMadeGroup store calls replies old new receipt
    → let told : List Reply = replies_given (Group receipt.replies) in
    HasMadeGroup store calls told old new (receipt_of (record { place = receipt.place; nth = receipt.nth }) told)
told_group store calls replies old new receipt counts made =
    let given : receipt.replies ≡ Some replies = subst (λ (k : Keeping). AreRepliesFor k replies receipt.replies) counts made.given in
    subst (λ (told : List Reply). HasMadeGroup store calls told old new (receipt_of (record { place = receipt.place; nth = receipt.nth }) told))
    (sym (ap (λ (o : Option (List Reply)). replies_given (Group o)) given))
    (record {
      count = made.count;
      entry = made.entry;
      exact = made.exact;
      given = subst (λ (k : Keeping). AreRepliesFor k replies (Some replies)) (sym counts) refl;
    })

-- so it is where the last receipt is put where it stands
pub told_in : (store : StoreSeen) (calls : List ACall) (old new : PassSeen) (at : Position) (last given : Last) → last ≡ given
    → HasMadeGroup store calls (replies_given given) old new (receipt_of at (replies_given given))
    → HasMadeGroup store calls (replies_given last) old new (receipt_of at (replies_given last))
told_in store calls old new at last given is =
    subst (λ (l : Last). HasMadeGroup store calls (replies_given l) old new (receipt_of at (replies_given l))) (sym is)

-- a call that was begun is a group of one that was
pub begun_alone : (store : StoreSeen) (call : ACall) (pass : PassSeen) (running : RunningSeen) → HasBegun store call pass running
    → HasBegunGroup store (call ∷ []) pass (alone running)
begun_alone store call pass running begun = record {
  begun = begun.begun;
  asked = ap (λ (c : ACall). c ∷ []) begun.asked;
  runs = begun.runs;
}

-- what is told of what was prepared, once it is committed
pub told_committed : (store : StoreSeen) (running : RunningSeen) (new : PassSeen) (receipt : Receipt) → store.row.keeping ≡ Counts
    → HasMade store running.call running.reply running.begun new receipt → replies_given (Call receipt.reply) ≡ replies_with (alone running).steps
told_committed store running new receipt counts made = told_alone store.row.keeping running.reply receipt.reply counts made.given

pub told_group_committed : (store : StoreSeen) (running : RunningGroupSeen) (new : PassSeen) (receipt : GroupReceipt) → store.row.keeping ≡ Counts
    → HasMadeGroup store (calls_of running.steps) (replies_with running.steps) running.begun new receipt → replies_given (Group receipt.replies) ≡ replies_with running.steps
told_group_committed store running new receipt counts made =
    ap (λ (o : Option (List Reply)). replies_given (Group o)) (subst (λ (k : Keeping). AreRepliesFor k (replies_with running.steps) receipt.replies) counts made.given)

-- ---- calls that are committed

-- what the receipt says of prepared calls
pub record AreCommitted (store : StoreSeen) (running : RunningGroupSeen) (new : PassSeen) (place nth : ℕ) : Type 0 where
  pub entry : HasMadeEntry store running.steps running.begun new place nth
  pub exact : HoldsExactly (compiled_of store.row) entry.at_commit running.steps

abbrev IsExactEntry : StoreSeen → PassSeen → PassSeen → ℕ → ℕ → List Step → Type 0
IsExactEntry store old new place nth steps =
    (entry : HasMadeEntry store steps old new place nth) × HoldsExactly (compiled_of store.row) entry.at_commit steps

pub prepared_committed : (store : StoreSeen) (running : RunningGroupSeen) (new : PassSeen) (receipt : GroupReceipt)
    → HasMadeGroup store (calls_of running.steps) (replies_with running.steps) running.begun new receipt
    → AreCommitted store running new receipt.place receipt.nth
prepared_committed store running new receipt made =
    let both : IsExactEntry store running.begun new receipt.place receipt.nth running.steps =
    subst (IsExactEntry store running.begun new receipt.place receipt.nth) (with_replies-parts running.steps) (made.entry, made.exact) in
    record { entry = both.0; exact = both.1 }

-- what is told comes with the receipt of a store that keeps no entries
pub given_so : (store : StoreSeen) (told : List Reply) → store.row.keeping ≡ Counts → AreRepliesFor store.row.keeping told (Some told)
given_so store told counts = subst (λ (k : Keeping). AreRepliesFor k told (Some told)) (sym counts) refl

-- and is what an open group's calls were answered
pub told_open : (store : StoreSeen) (steps : List Step) (given : Option (List Reply)) → store.row.keeping ≡ Counts
    → AreRepliesFor store.row.keeping (replies_with steps) given → replies_given (Group given) ≡ replies_with steps
told_open store steps given counts is =
    ap (λ (o : Option (List Reply)). replies_given (Group o)) (subst (λ (k : Keeping). AreRepliesFor k (replies_with steps) given) counts is)

-- ---- how many replies there are

some_first : (steps : List Step) → 1 ≤ length steps → (reply : Reply) × (slice_get (replies_with steps) 0 ≡ Some reply)
some_first [] some = absurd (omega (arith, some))
some_first (s ∷ steps) some = (s.reply, refl)

-- of calls that were committed the first reply is picked
pub committed_first : (old new : SessionSeen) (at : Position) → HasCommitted old new at → (reply : Reply) × (reply_of new ≡ Some reply)
committed_first old new at h =
    let first = some_first h.running.steps h.entry.allowed.some in (
      first.0,
      ap (λ (l : List Reply). slice_get l new.picked) (told_last new h.after h.is ∙ h.told)
          ∙ ap (slice_get (replies_with h.running.steps)) h.picked
          ∙ first.1,
    )

-- ---- calls of an open group

last_of : (steps : List Step) (call : ACall) (reply : Reply) → slice_get (replies_with (with_step steps call reply)) (length steps) ≡ Some reply
last_of [] call reply = refl
last_of (s ∷ steps) call reply = last_of steps call reply

-- the reply to the call that it has made last is picked
pub called_last : (old new : SessionSeen) (asked : AskedCall) → HasCalledOpen old asked new → (reply : Reply) × (reply_of new ≡ Some reply)
called_last old new asked h = (
  h.called.reply,
  ap (λ (state : State). slice_get (replies_in (uncommitted_in state) new.last) new.picked) h.is
      ∙ ap (λ (steps : List Step). slice_get (replies_with steps) new.picked) h.called.steps
      ∙ ap (slice_get (replies_with (with_step h.before.steps (call_in old asked) h.called.reply))) h.picked
      ∙ last_of h.before.steps (call_in old asked) h.called.reply,
)
