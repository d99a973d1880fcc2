-- What receipts mean: one history. Each law is named by the contract of a function. (PLDI 2012, serializable transactions.)
use Rattle.std.specs.Prelude.{◌≡◌, ℕ, suc, List, [], ◌∷◌, ◌++◌, Some, take}
use Rattle.rc_store.specs.Imports.{slice_get, In, gather, Call, Reply, plain, IsCompiled, plan_at, touched, stripe_lock_cmp, Entry, Step, AreLegalFrom, IsPlain, IsPrefix, after_steps, replay, next_of, HasLookedAt, NoteSeen, PassSeen, compiled_of, core_of, next_entry, spec_of, with_note}
use Rattle.rc_core.specs.State.{locks_of}
use Rattle.rc_store.specs.declared.receipt.Receipt.{Receipt}
use Rattle.rc_store.specs.Closed.{ClosedSeen, HasClosed}
use Rattle.rc_store.specs.Store.{HasMade, HasMadeEntry, IsAsBefore, StoreSeen, one_step}

-- ---- one receipt

-- the history up to the entry of a receipt, and with it
abbrev pub history_with : List Entry → PassSeen → List Step → List Entry
history_with before old steps = before ++ next_of (core_of old) steps ∷ []

-- Each reply is the plain relation's after the calls before it, and the relation goes on as the plain one does. Of a call alone what was held
-- at the commit are exactly the stripes that it touches there, each in its mode.
pub record AreReceiptsPlain : Type 0 where
  pub entries : (store : StoreSeen) (steps : List Step) (old new : PassSeen) (place nth : ℕ) (made : HasMadeEntry store steps old new place nth)
      → AreLegalFrom (spec_of store.row) (replay (spec_of store.row) made.before) steps
      × (replay (spec_of store.row) (history_with made.before old steps) ≡ after_steps (spec_of store.row) (replay (spec_of store.row) made.before) steps)
  pub calls : (store : StoreSeen) → IsCompiled (spec_of store.row) (compiled_of store.row).plans
      → (call : Call) (reply : Reply) (old new : PassSeen) (receipt : Receipt) (made : HasMade store call reply old new receipt)
      → IsPlain (spec_of store.row) (replay (spec_of store.row) made.entry.before) (replay (spec_of store.row) (history_with made.entry.before old (one_step call reply))) (next_entry (core_of old) call reply)
      × (reply ≡ (plain (spec_of store.row) (replay (spec_of store.row) made.entry.before) call).reply)
      × (gather stripe_lock_cmp (locks_of made.entry.at_commit) ≡ touched (spec_of store.row) (plan_at (compiled_of store.row).plans call.op) call (replay (spec_of store.row) made.entry.before))

abbrev pub ReceiptsArePlain : Type 0
ReceiptsArePlain = AreReceiptsPlain

-- ---- one after another

-- A receipt goes on from each that its pass had been told of.
abbrev pub ReceiptsGoOn : Type 0
ReceiptsGoOn = (store : StoreSeen)
    → (steps : List Step) (old new : PassSeen) (place nth : ℕ) (made : HasMadeEntry store steps old new place nth)
    → (later_steps : List Step) (later_old later_new : PassSeen) (later_place later_nth : ℕ)
    → (later : HasMadeEntry store later_steps later_old later_new later_place later_nth)
    → In (history_with made.before old steps) later_old.standing.known
    → IsPrefix (history_with made.before old steps) later.before

-- what the first pass was told of the second was told of too
abbrev pub KnowsAll : PassSeen → PassSeen → Type 0
KnowsAll old new = (history : List Entry) → In history old.standing.known → In history new.standing.known

-- A pass was told of its own receipts, stays told, and learns by a note what the note's pass was told of.
pub record TellingGoesOn : Type 0 where
  pub made : (store : StoreSeen) (steps : List Step) (old new : PassSeen) (place nth : ℕ) (made : HasMadeEntry store steps old new place nth)
      → In (history_with made.before old steps) new.standing.known × KnowsAll old new
  pub stopped : (old new : PassSeen) → IsAsBefore old new → KnowsAll old new
  pub looked : (store : StoreSeen) (old new : PassSeen) (length_is : ℕ) (h : HasLookedAt store.row old new length_is) → In h.history new.standing.known × KnowsAll old new
  pub learned : (note : NoteSeen) (old : PassSeen) → KnowsAll old (with_note note old) × ((history : List Entry) → In history note.known → In history (with_note note old).standing.known)

-- ---- at the end

-- Of a store that is closed a receipt that a pass was told of is a beginning of the one history, with its entry at its place.
abbrev pub ReceiptsAreOfTheClosed : Type 0
ReceiptsAreOfTheClosed = (store : StoreSeen) (passes : List PassSeen) (closed : ClosedSeen) (h : HasClosed store passes closed)
    → (k : ℕ) (pass : PassSeen) → slice_get passes k ≡ Some pass
    → (steps : List Step) (old new : PassSeen) (place nth : ℕ) (made : HasMadeEntry store steps old new place nth)
    → In (history_with made.before old steps) pass.standing.known
    → (take (suc place) h.history ≡ history_with made.before old steps) × (slice_get h.history place ≡ Some (next_of (core_of old) steps))
