-- THE HEADLINE OF A STORE: what receipts mean, in one place.
--
--   Behind each receipt stands one history: good, that is legal from the empty relation, of calls that fit, and numbered by pass. Its entries
--   are calls, or groups of calls that were made as one. It goes on from every history that the receipt's pass had been told of, and has all
--   entries of that pass, at their places. The entry of the receipt is its next: the place is the number of entries before, and each reply is
--   the plain relation's after the calls before it. From then on the pass was told of the longer history; others are told of it by notes.
--   Where a store is closed, there is one good history, and it begins with each history that a pass of the store was told of.
--
-- Read this file from top to bottom, and then what its words stand on:
--   the relation   rc_spec: Plain; rc_tuple: Relation (Satisfies, Follows), Tuple
--   histories      rc_rel: History (IsLegal, AreLegalFrom, AllFit, IsNumbered, own_placed, IsPrefix, replay); rc_core: Good (IsGoodHistory)
--   receipts       rc_store: Store (HasMadeEntry, HasMade, HasMadeGroup, IsAsBefore), Receipts (how a pass was told); rc_row: Passes (HasLookedAt, with_note)
--   the end        rc_store: Closed (HasClosed, Leaves)
use Rattle.std.specs.Prelude.{◌≡◌, ℕ, List, [], ◌∷◌, ◌++◌, All, Some, length}
use Rattle.rc_store.specs.Imports.{slice_get, In, Pairs, Satisfies, Spec, Entry, Step, AreLegalFrom, IsPrefix, after_steps, own_placed, replay, states, next_of, IsGoodHistory, PassState, PassSeen, core_of, spec_of, Call, Reply, with_replies}
use Rattle.rc_store.specs.Closed.{ClosedSeen, HasClosed}
use Rattle.rc_store.specs.declared.receipt.GroupReceipt.{GroupReceipt}
use Rattle.rc_store.specs.declared.receipt.Receipt.{Receipt}
use Rattle.rc_store.specs.Receipts.{TellingGoesOn}
use Rattle.rc_store.specs.Store.{HasMade, HasMadeEntry, HasMadeGroup, StoreSeen, one_step}

-- ---- one receipt

-- Calls of a pass with these replies stand at this place of a history as one entry. `told` are the histories that the pass had been told of.
pub record IsAtPlace (spec : Spec) (passes : ℕ) (pass : PassState) (told : List (List Entry)) (steps : List Step) (place : ℕ) : Type 0 where
  pub before : List Entry
  pub place_is : place ≡ length before
  pub good : IsGoodHistory spec passes (before ++ next_of pass steps ∷ [])
  -- it goes on from all that the pass had been told of, and has all that the pass had made
  pub goes_on : All (λ earlier. IsPrefix earlier before) told
  pub own : pass.own ≡ own_placed before pass.number
  -- the replies are the plain relation's in turn, which goes on as the plain one does, and every state up to the last call, also one
  -- between calls of the entry, satisfies the dependencies
  pub replies : AreLegalFrom spec (replay spec before) steps
  pub relation : replay spec (before ++ next_of pass steps ∷ []) ≡ after_steps spec (replay spec before) steps
  pub satisfies : (r : List Pairs) → In r (states spec (before ++ next_of pass steps ∷ [])) → Satisfies r spec.deps

-- the history up to the calls, and with them
abbrev pub history_of : {spec : Spec} {passes : ℕ} {pass : PassState} {told : List (List Entry)} {steps : List Step} {place : ℕ}
    → IsAtPlace spec passes pass told steps place → List Entry
history_of {pass = pass} {steps = steps} at = at.before ++ next_of pass steps ∷ []

-- The calls of the receipt stand at the receipt's place, and its pass was told of the history with them.
pub record IsReceipt (store : StoreSeen) (steps : List Step) (old new : PassSeen) (place : ℕ) : Type 0 where
  pub at : IsAtPlace (spec_of store.row) store.row.key.passes (core_of old) old.standing.known steps place
  pub told : new.standing.known ≡ old.standing.known ++ history_of at ∷ []

-- ---- the headline

-- what closing leaves: the one history begins with that of the receipt, and has its entry at its place
pub record IsInHistory (one earlier : List Entry) (entry : Entry) (place : ℕ) : Type 0 where
  pub begins : IsPrefix earlier one
  pub there : slice_get one place ≡ Some entry

-- Each receipt is so. A later one of whoever was told of it goes on from it. And of a store that is closed the one history begins with that
-- of each receipt that a pass of it was told of.
pub record AreOneHistory : Type 0 where
  pub receipts : (store : StoreSeen) (steps : List Step) (old new : PassSeen) (place nth : ℕ) → HasMadeEntry store steps old new place nth → IsReceipt store steps old new place
  pub later : (store : StoreSeen)
      → (steps : List Step) (old new : PassSeen) (place : ℕ) (first : IsReceipt store steps old new place)
      → (later_steps : List Step) (later_old later_new : PassSeen) (later_place : ℕ) (later : IsReceipt store later_steps later_old later_new later_place)
      → In (history_of first.at) later_old.standing.known → IsPrefix (history_of first.at) later.at.before
  pub closed : (store : StoreSeen) (passes : List PassSeen) (closed : ClosedSeen) (h : HasClosed store passes closed)
      → (k : ℕ) (pass : PassSeen) → slice_get passes k ≡ Some pass
      → (steps : List Step) (old new : PassSeen) (place : ℕ) (r : IsReceipt store steps old new place) → In (history_of r.at) pass.standing.known
      → IsInHistory h.history (history_of r.at) (next_of (core_of old) steps) place
  -- a pass is told of each of its receipts, stays told whatever a call leaves, and is told by a note of all that the note's pass was told of
  pub telling : TellingGoesOn
  -- what calls and groups answer are such receipts
  pub calls : (store : StoreSeen) (call : Call) (reply : Reply) (old new : PassSeen) (receipt : Receipt)
      → HasMade store call reply old new receipt → IsReceipt store (one_step call reply) old new receipt.place
  pub groups : (store : StoreSeen) (calls : List Call) (replies : List Reply) (old new : PassSeen) (receipt : GroupReceipt)
      → HasMadeGroup store calls replies old new receipt → IsReceipt store (with_replies calls replies) old new receipt.place

abbrev pub ReceiptsMeanOneHistory : Type 0
ReceiptsMeanOneHistory = AreOneHistory
