-- What clauses see of a row, a pass and a note, and what the calls of a row make of a pass.
use Rattle.std.specs.Prelude.{◌≡◌, ℕ, suc, ◌+◌, ◌*◌, IfSome, ◌-◌, ◌<◌, ◌≤◌, ◌^◌, ◌==◌, not, List, [], ◌∷◌, ◌++◌, map, filter, length, Option, Some, None, All, IsSome, cond}
use Rattle.rc_row.specs.Imports.{range_with_len, Pairs, Call, Mode, Reply, Spec, EdgeRow, SpecWithPlans, HasColumns, HasNoRowOf, HasRowOf, edge_row, edge_table, FragmentRows, rolled_back, settled, IsAtRest, ArePartlyAdded, CanAddTuple, HasTuple, IsFirstKept, changed_by, changes_of_class, PartEntries, Entry, Placed, placed, Hold, PassState, hold, IsOfHistory, next_of, took, released, TableId, Found}
use Rattle.rc_row.specs.declared.law.Key.{Key}
use Rattle.rc_row.specs.declared.law.Standing.{Standing}
use Rattle.rc_row.specs.declared.keeping.Keeping.{Keeping}
use Rattle.rc_row.specs.declared.keeping.Keeping.TheVariants.{Entries, Counts}
use Rattle.rc_row.specs.HeldRows.{HeldRows, just_held}
use Rattle.rc_row.specs.Law.{compiled_by, history_by, spec_by, stripes_by, kept_of}
use Rattle.rc_row.specs.Standings.{HaveOneRelation, IsAtHistory, KeepsOut, after_entry, after_learn, after_look, resumed_standing, start, wish_after, with_core}

-- ---- what is seen

-- a row: which table it is, what that was told, and what its passes keep of their entries
pub record RowSeen : Type 0 where
  pub table : TableId
  pub key : Key
  pub keeping : Keeping

-- a pass: whose it is, all that the core has of it with its refused steps, the fragments of what it holds as they are, and the
-- entries that it keeps in memory, where it keeps them
pub record PassSeen : Type 0 where
  pub table : TableId
  pub standing : Standing
  pub held : List HeldRows
  pub kept : Option PartEntries

-- a note: whose it is, the length of the history that it tells, and the histories that its pass was told of
pub record NoteSeen : Type 0 where
  pub table : TableId
  pub told : ℕ
  pub known : List (List Entry)

abbrev pub core_of : PassSeen → PassState
core_of pass = pass.standing.core

abbrev pub compiled_of : RowSeen → SpecWithPlans
compiled_of row = compiled_by row.key

abbrev pub spec_of : RowSeen → Spec
spec_of row = spec_by row.key

-- how many stripes a row has
abbrev pub stripes_of : RowSeen → ℕ
stripes_of row = stripes_by row.key

-- ---- whose a pass is

-- it keeps entries where the row's passes do
abbrev pub KeepsAs : Keeping → Option PartEntries → Type 0
KeepsAs Entries None = ⊥
KeepsAs Entries (Some part) = Unit {0}
KeepsAs Counts None = Unit {0}
KeepsAs Counts (Some part) = ⊥

-- a pass of the row: it holds stripes and fragments of the row's specification
pub record IsPassOf (row : RowSeen) (pass : PassSeen) : Type 0 where
  pub table : pass.table ≡ row.table
  pub inside : All (λ h. h.stripe < stripes_of row) pass.held
  pub shapes : All (λ h. h.fragment.table ≡ edge_table (spec_of row)) pass.held
  pub keeps : KeepsAs row.keeping pass.kept

-- ---- what is held

-- the holds with the rows as taken, and as they are
abbrev pub holds_taken : List HeldRows → List Hold
holds_taken held = map (λ h. hold h.stripe h.mode h.fragment.taken) held

abbrev pub holds_now : List HeldRows → List Hold
holds_now held = map (λ h. hold h.stripe h.mode h.fragment.now) held

-- what holds of the fragment of the stripe, where it is held
abbrev pub OfHeld : List HeldRows → ℕ → (FragmentRows → Type 0) → Type 0
OfHeld held p fact = All (λ h. h.stripe ≡ p → fact h.fragment) held

-- no change of what is held is pending
abbrev pub AreAtRest : List HeldRows → Type 0
AreAtRest held = All (λ h. IsAtRest h.fragment) held

abbrev pub with_fragment : (HeldRows → FragmentRows) → HeldRows → HeldRows
with_fragment fragment h = record h { fragment = fragment h }

-- the fragment of the stripe changed
abbrev pub held_with : ℕ → (FragmentRows → FragmentRows) → List HeldRows → List HeldRows
held_with p change held = map (with_fragment (λ h. cond (h.stripe == p) (change h.fragment) h.fragment)) held

-- the fragment of each changed
abbrev pub all_with : (FragmentRows → FragmentRows) → List HeldRows → List HeldRows
all_with change held = map (with_fragment (λ h. change h.fragment)) held

abbrev pub held_without : List HeldRows → ℕ → List HeldRows
held_without held p = filter (λ h. not (h.stripe == p)) held

-- ---- what calls make of a pass

-- it holds the stripe too, with the rows that lay home
abbrev pub with_taken : Spec → Mode → ℕ → List EdgeRow → PassSeen → PassSeen
with_taken spec mode p rows pass = record pass {
  standing = with_core pass.standing (took mode (core_of pass) p rows);
  held = pass.held ++ just_held p mode (kept_of spec rows) ∷ [];
}

-- it holds the stripe no more
abbrev pub without_stripe : ℕ → PassSeen → PassSeen
without_stripe p pass = record pass { standing = with_core pass.standing (released (core_of pass) p); held = held_without pass.held p }

-- it holds nothing
abbrev pub idle : PassSeen → PassSeen
idle pass = record pass { standing = with_core pass.standing (record (core_of pass) { held = [] }); held = [] }

abbrev pub with_standing : Standing → PassSeen → PassSeen
with_standing standing pass = record pass { standing = standing }

-- the fragment of one held stripe changed
abbrev pub with_held : ℕ → (FragmentRows → FragmentRows) → PassSeen → PassSeen
with_held p change pass = record pass { held = held_with p change pass.held }

-- all changes that aren't committed are taken back
abbrev pub reverted : PassSeen → PassSeen
reverted pass = record pass { held = all_with rolled_back pass.held }

-- one entry more, where entries are kept
abbrev pub with_entry : Option PartEntries → Placed → Option PartEntries
with_entry None w = None
with_entry (Some part) w = Some (record { list = part.list ++ w ∷ []; spare = part.spare - 1 })

-- the entry is committed behind this history, and what was changed counts as taken
abbrev pub with_commit : SpecWithPlans → List Entry → Entry → PassSeen → PassSeen
with_commit compiled before e pass = record pass {
  standing = after_entry compiled before e pass.standing;
  held = all_with settled pass.held;
  kept = with_entry pass.kept (placed (length before) e);
}

-- The entry was committed at the place behind the history of that moment: it goes on from all that the pass was told of, has all that the
-- pass made, and leaves the rows that it held. The longer history has the entry too, and leaves the rows as they are now.
pub record HasAdded (row : RowSeen) (e : Entry) (old new : PassSeen) (place : ℕ) : Type 0 where
  pub before : List Entry
  pub place_is : place ≡ length before
  pub small : place < 255 * 2 ^ 48
  pub at : IsAtHistory (spec_of row) row.key.passes before old.standing
  pub after : IsOfHistory (spec_of row) row.key.passes (before ++ e ∷ []) (core_of new)
  pub one : HaveOneRelation (spec_of row) (core_of new).held
  pub is : new ≡ with_commit (compiled_of row) before e old

-- The history of that moment has this length, and the pass has seen all of it.
pub record HasLookedAt (row : RowSeen) (old new : PassSeen) (length_is : ℕ) : Type 0 where
  pub history : List Entry
  pub long : length_is ≡ length history
  pub at : IsAtHistory (spec_of row) row.key.passes history old.standing
  pub is : new ≡ with_standing (after_look history old.standing) old

-- the note tells what the pass has seen
abbrev pub note_of : PassSeen → NoteSeen
note_of pass = record { table = pass.table; told = (core_of pass).seen; known = pass.standing.known }

-- the pass has seen what the note tells too
abbrev pub with_note : NoteSeen → PassSeen → PassSeen
with_note note pass = with_standing (after_learn note.told note.known pass.standing) pass

-- the next entry of a pass, where it is of one call
abbrev pub next_entry : PassState → Call → Reply → Entry
next_entry u call reply = next_of u (record { call = call; reply = reply } ∷ [])

-- there is room for one more entry, where entries are kept
abbrev pub HasSpare : Option PartEntries → Type 0
HasSpare None = Unit {0}
HasSpare (Some part) = 1 ≤ part.spare

-- the same entries, with as much room for more at least
abbrev pub IsMoreRoom : Option PartEntries → Option PartEntries → Type 0
IsMoreRoom None None = Unit {0}
IsMoreRoom None (Some new) = ⊥
IsMoreRoom (Some old) None = ⊥
IsMoreRoom (Some old) (Some new) = (new.list ≡ old.list) × (old.spare ≤ new.spare)

-- what a pass hands out of its entries: all of its own, or nothing where it keeps none
abbrev pub AreEntriesOf : PassSeen → Option (List Placed) → Type 0
AreEntriesOf pass None = pass.kept ≡ None
AreEntriesOf pass (Some list) = (list ≡ (core_of pass).own) × IsSome pass.kept

-- only the room for entries is another, and it isn't smaller
pub record HasReserved (old new : PassSeen) : Type 0 where
  pub kept : Option PartEntries
  pub is : new ≡ record old { kept = kept }
  pub more : IsMoreRoom old.kept kept

-- A pass that waited for the stripe p in the mode: it is as before where no step was refused; else so many steps more and one were,
-- the last of which found this.
abbrev pub waited_so : Mode → Standing → ℕ → Option (ℕ × Found) → Standing
waited_so mode s p None = s
waited_so mode s p (Some (n, found)) = record s {
  core = record s.core { wish = wish_after found p };
  refusals = suc (n + s.refusals);
  last_refusal = Some (record { stripe = p; mode = mode; found = found; held = s.core.held });
}

-- while it waited nothing but its wish and its refused steps changed, and the last of these kept it out of this stripe
pub record HasWaited (mode : Mode) (passes p : ℕ) (old new : PassSeen) : Type 0 where
  pub steps : Option (ℕ × Found)
  pub is : new ≡ with_standing (waited_so mode old.standing p steps) old
  pub found : IfSome steps (λ x. KeepsOut mode passes (core_of old).number x.1)

-- ---- changes of a fragment

-- the tuple's row can be added to each edge of the class, or its count raised, and there is room for the changes, and for one at least, as `HasRoomFor` asks
pub record CanAddTo (class : ℕ) (t : Pairs) (f : FragmentRows) : Type 0 where
  pub owned : changes_of_class f.table class ≤ f.room
  pub some : 0 < f.room
  pub can : CanAddTuple f.table f.now class t

-- the edge has no row, or it has one, with the tuple's values of source and key
abbrev pub HasNoRowIn : ℕ → Pairs → FragmentRows → Type 0
HasNoRowIn e t f = HasNoRowOf f.table f.now e t

abbrev pub HasRowIn : ℕ → Pairs → FragmentRows → Type 0
HasRowIn e t f = HasRowOf f.table f.now e t

-- where the edge, the first of the class whose rows are kept, has no row with the tuple's values of source and key, the tuple can be added; and there is room for the changes, and for one at least
pub record CanAddNewTo (class e : ℕ) (t : Pairs) (f : FragmentRows) : Type 0 where
  pub known : e < length f.table
  pub first : IsFirstKept f.table class e
  pub owned : changes_of_class f.table class ≤ f.room
  pub some : 0 < f.room
  pub columns : HasColumns f.table e (edge_row f.table e t)
  pub can : HasNoRowOf f.table f.now e t → CanAddTuple f.table f.now class t

-- each edge of the class has the tuple's row, and there is room for the changes, and for one at least, as `HasRoomFor` asks
pub record CanSubFrom (class : ℕ) (t : Pairs) (f : FragmentRows) : Type 0 where
  pub owned : changes_of_class f.table class ≤ f.room
  pub some : 0 < f.room
  pub there : HasTuple f.table f.now class t

-- some of the tuple's rows were added to the held fragment of the stripe p, by no more changes than the whole tuple takes, for which room was promised
pub record ArePartlyAddedOn (p class : ℕ) (t : Pairs) (old new : List HeldRows) : Type 0 where
  pub changes : ℕ
  pub few : OfHeld old p (λ f. changes ≤ changes_of_class f.table class)
  pub rows : List EdgeRow
  pub added : OfHeld old p (λ f. ArePartlyAdded f.table class t f.now rows)
  pub value : new ≡ held_with p (changed_by changes (λ _. rows)) old

-- the same of the pass that holds it, of which nothing else is another
pub record IsPartlyAddedOn (p class : ℕ) (t : Pairs) (old new : PassSeen) : Type 0 where
  pub held : ArePartlyAddedOn p class t old.held new.held
  pub value : new ≡ record old { held = new.held }

-- ---- new and ended rows

-- what a pass keeps before its first entry
abbrev pub none_kept : Keeping → Option PartEntries
none_kept Entries = Some (record { list = []; spare = 0 })
none_kept Counts = None

-- the pass k of a new row
abbrev pub new_pass : RowSeen → ℕ → PassSeen
new_pass row k = record { table = row.table; standing = start k; held = []; kept = none_kept row.keeping }

-- the passes of a new row, by number
abbrev pub new_passes : RowSeen → List PassSeen
new_passes row = map (new_pass row) (range_with_len 0 row.key.passes)

-- the pass k of a row that goes on from a history, with what it keeps of its entries
abbrev pub resumed_pass : RowSeen → ℕ → Option PartEntries → PassSeen
resumed_pass row k kept = record { table = row.table; standing = resumed_standing (history_by row.key) k; held = []; kept = kept }

-- all passes of a row, by number, holding nothing
pub record AreIdlePasses (row : RowSeen) (passes : List PassSeen) : Type 0 where
  pub numbers : map (λ pass. (core_of pass).number) passes ≡ range_with_len 0 row.key.passes
  pub idle : All (λ pass. IsPassOf row pass × (pass.held ≡ [])) passes
