-- A store that goes on from a closed one. (PLDI 2012, serializable transactions: its calls go on with the one legal history.)
use Rattle.std.specs.Prelude.{◌≡◌, ℕ, ◌<◌, ◌≤◌, All, List, [], Option, Some, None, length, map}
use Rattle.rc_store.specs.Imports.{range_with_len, slice_get, unwrap_or, Entry, Step, IsPrefix, own_placed, In, PartEntries, EndedPass, Keeping, Counts, Entries, history_by, AreOwnKept, AreIdlePasses, KeepsAs, PassSeen, RowSeen, resumed_pass}
use Rattle.rc_store.specs.Closed.{ClosedSeen, HasClosed}
use Rattle.rc_store.specs.Headline.{IsReceipt, history_of}
use Rattle.rc_store.specs.Receipts.{KnowsAll}
use Rattle.rc_store.specs.Store.{IsFree, StoreSeen}

-- The pass k of a store that goes on: it has made its own entries of the history, and keeps them where the store's passes do; it has seen
-- all of the history and was told of it, and it holds and wants nothing.
pub record IsResumedPass (row : RowSeen) (k : ℕ) (pass : PassSeen) : Type 0 where
  pub kept : Option PartEntries
  pub keeps : KeepsAs row.keeping kept
  pub own : AreOwnKept kept (own_placed (history_by row.key) k)
  pub is : pass ≡ resumed_pass row k kept

-- The store goes on from the history that was closed, with at least as many passes, by number.
pub record HasResumed (closed : ClosedSeen) (store : StoreSeen) (passes : List PassSeen) : Type 0 where
  pub history : history_by store.row.key ≡ closed.history
  pub many : length closed.made ≤ store.row.key.passes
  pub count : length passes ≡ store.row.key.passes
  pub each : (k : ℕ) (pass : PassSeen) → slice_get passes k ≡ Some pass → IsResumedPass store.row k pass

-- all passes of a store, by number, with which calls may be made
pub record AreFreePasses (store : StoreSeen) (passes : List PassSeen) : Type 0 where
  pub idle : AreIdlePasses store.row passes
  pub free : All (IsFree store) passes

-- ---- what passes leave to those that go on

-- they keep their entries where those were kept on which they go on
abbrev pub keeping_of : Option (List Entry) → Keeping
keeping_of (Some journal) = Entries
keeping_of None = Counts

-- how many entries the pass of this number has made; a further pass has made none
abbrev pub made_by_pass : List ℕ → ℕ → ℕ
made_by_pass made k = unwrap_or (slice_get made k) 0

-- what a pass leaves that made so many entries and kept none
abbrev pub counted : ℕ → EndedPass
counted n = record { made = n; entries = None }

abbrev pub counted_passes : List ℕ → ℕ → List EndedPass
counted_passes made passes = map (λ k. counted (made_by_pass made k)) (range_with_len 0 passes)

-- what a pass leaves that kept these entries
abbrev pub kept_pass : PartEntries → EndedPass
kept_pass part = record { made = length part.list; entries = Some part }

-- a part for each pass, with room for the entries that it has made
pub record HaveRoomFor (made : List ℕ) (passes : ℕ) (parts : List PartEntries) : Type 0 where
  pub count : length parts ≡ passes
  pub each : (k : ℕ) (part : PartEntries) → slice_get parts k ≡ Some part → (part.list ≡ []) × (made_by_pass made k ≤ part.spare)

-- the entries of the history are of so many passes, each of which has made so many
pub record HavePasses (made : List ℕ) (passes : ℕ) (history : List Entry) : Type 0 where
  pub passes_are : (e : Entry) → In e history → e.pass < passes
  pub made_are : (k : ℕ) → made_by_pass made k ≡ length (own_placed history k)

-- so many passes leave their own entries of the history
pub record AreKeptParts (history : List Entry) (passes : ℕ) (ended : List EndedPass) : Type 0 where
  pub count : length ended ≡ passes
  pub each : (k : ℕ) (e : EndedPass) → slice_get ended k ≡ Some e → (part : PartEntries) × (part.list ≡ own_placed history k) × (e ≡ kept_pass part)

-- ---- what it means

-- THE ONE HISTORY GOES ON. A store is closed, and goes on, over its specification or one with further operations. The closed history begins
-- with the history of each receipt of which a pass had been told. Each receipt of the store that goes on stands behind the closed history,
-- where its pass knows what one of the passes knew that were handed out. And where that store is closed too, its one history begins with
-- the closed history.
pub record HistoriesAreOne : Type 0 where
  pub earlier : (store : StoreSeen) (passes : List PassSeen) (closed : ClosedSeen) → HasClosed store passes closed
      → (k : ℕ) (pass : PassSeen) → slice_get passes k ≡ Some pass
      → (steps : List Step) (old new : PassSeen) (place : ℕ) (r : IsReceipt store steps old new place) → In (history_of r.at) pass.standing.known
      → IsPrefix (history_of r.at) closed.history
  pub receipts : (closed : ClosedSeen) (store : StoreSeen) (passes : List PassSeen) → HasResumed closed store passes
      → (k : ℕ) (first : PassSeen) → slice_get passes k ≡ Some first
      → (steps : List Step) (old new : PassSeen) (place : ℕ) (r : IsReceipt store steps old new place) → KnowsAll first old
      → IsPrefix closed.history r.at.before
  pub closed : (closed : ClosedSeen) (store : StoreSeen) (passes : List PassSeen) → HasResumed closed store passes
      → (last : List PassSeen) (later : ClosedSeen) → HasClosed store last later
      → IsPrefix closed.history later.history

abbrev pub ResumedHistoriesAreOne : Type 0
ResumedHistoriesAreOne = HistoriesAreOne
