-- What is seen of a fragment that keeps no row which another edge's rows tell, and what is done with a tuple's rows of a class.
use Rattle.std.specs.Prelude.{◌≡◌, ℕ, ◌+◌, ◌-◌, ◌<◌, ◌≤◌, ◌^◌, ◌⊎◌, Bool, true, false, List, filter, length}
use Rattle.rc_fragment.specs.Imports.{Pairs, count_at, raised, EdgeRow}
use Rattle.rc_fragment.specs.Fragment.{HasAlone, HasColumns, HasNoRowOf, HasRowOf, HasShape, HasSingle, IsThere, edge_row}
use Rattle.rc_fragment.specs.FragmentRows.{FragmentRows, changed}
use Rattle.rc_fragment.specs.Implied.{lowered_all, raised_all}
use Rattle.rc_fragment.specs.ImpliedTables.{IsTable, class_rows, full_rows, is_kept_of_class}
use Rattle.rc_fragment.specs.declared.fragment.Fragment.TheInside.{Inside}
use Rattle.rc_fragment.specs.declared.shape.EdgeShape.{EdgeShape}

-- ---- what is seen of a fragment

-- the fragment with the rows of all edges
abbrev pub full_fragment : FragmentRows → FragmentRows
full_fragment f = record { table = f.table; now = full_rows f.table f.now; taken = full_rows f.table f.taken; room = f.room; changes = f.changes }

abbrev pub full_seen : Inside → FragmentRows
full_seen a = full_fragment a.stored

-- the table tells of each edge whose rows aren't kept which other edge's rows tell them
abbrev pub IsTabled : Inside → Type 0
IsTabled a = IsTable a.stored.table

-- ---- a tuple's rows of the edges of a class

-- the row can be added to the edge, or its count raised: its count is small, it has the columns of the edge's target, no other row has its source and key, and in a singleton none with its source has another key
pub record CanAddRow (table : List EdgeShape) (rows : List EdgeRow) (e : ℕ) (row : Pairs) : Type 0 where
  pub small : count_at e row rows < 2 ^ 63
  pub columns : HasColumns table e row
  pub alone : HasAlone table rows e row
  pub single : HasSingle table rows e row

-- the tuple's row was added to the edge, as none had its source and key; or one had them, and nothing changed
abbrev pub IsNewRow : List EdgeShape → List EdgeRow → List EdgeRow → ℕ → Pairs → Bool → Type 0
IsNewRow table old new e t true = HasNoRowOf table old e t × (new ≡ raised e (edge_row table e t) old)
IsNewRow table old new e t false = HasRowOf table old e t × (new ≡ old)

-- the same of a fragment, where there was room for the change
abbrev pub IsNewRowIn : FragmentRows → FragmentRows → ℕ → Pairs → Bool → Type 0
IsNewRowIn old new e t true = HasNoRowOf old.table old.now e t × (new ≡ changed (raised e (edge_row old.table e t)) old)
IsNewRowIn old new e t false = HasRowOf old.table old.now e t × (new ≡ old)

-- a row of the edge has the tuple's values of source and key, or none has
abbrev pub IsRowOf : List EdgeShape → List EdgeRow → ℕ → Pairs → Bool → Type 0
IsRowOf table rows e t true = HasRowOf table rows e t
IsRowOf table rows e t false = HasNoRowOf table rows e t

-- the tuple's row can be added to each edge of the class
abbrev pub CanAddTuple : List EdgeShape → List EdgeRow → ℕ → Pairs → Type 0
CanAddTuple table rows class t = (e : ℕ) (shape : EdgeShape) → HasShape table e shape → shape.class ≡ class → CanAddRow table rows e (edge_row table e t)

-- each edge of the class has the tuple's row
abbrev pub HasTuple : List EdgeShape → List EdgeRow → ℕ → Pairs → Type 0
HasTuple table rows class t = (e : ℕ) (shape : EdgeShape) → HasShape table e shape → shape.class ≡ class → IsThere rows e (edge_row table e t)

-- the edge is the first of its class whose rows are kept
pub record IsFirstKept (table : List EdgeShape) (class e : ℕ) : Type 0 where
  pub kept : (shape : EdgeShape) → HasShape table e shape → is_kept_of_class class shape ≡ true
  pub none_before : (k : ℕ) (shape : EdgeShape) → k < e → HasShape table k shape → is_kept_of_class class shape ≡ false

-- how many changes a tuple of the class takes: one of each edge of the class whose rows are kept
abbrev pub changes_of_class : List EdgeShape → ℕ → ℕ
changes_of_class table class = length (filter (is_kept_of_class class) table)

-- after so many changes of the rows now, for which room was promised
abbrev pub changed_by : ℕ → (List EdgeRow → List EdgeRow) → FragmentRows → FragmentRows
changed_by n change f = record { table = f.table; now = change f.now; taken = f.taken; room = f.room - n; changes = f.changes + n }

-- with the tuple's row of each edge of the class once more, and once less
abbrev pub with_tuple : ℕ → Pairs → FragmentRows → FragmentRows
with_tuple class t f = changed_by (changes_of_class f.table class) (raised_all (class_rows f.table class t)) f

abbrev pub without_tuple : ℕ → Pairs → FragmentRows → FragmentRows
without_tuple class t f = changed_by (changes_of_class f.table class) (lowered_all (class_rows f.table class t)) f

-- the row is the tuple's row of the edge, and the edge is of the class
pub record IsTupleRow (table : List EdgeShape) (class : ℕ) (t : Pairs) (e : ℕ) (row : Pairs) : Type 0 where
  pub shape : EdgeShape
  pub has : HasShape table e shape
  pub of_class : shape.class ≡ class
  pub row_is : row ≡ edge_row table e t

-- some of the tuple's rows of the edges of the class were added, each once, and no other row: which, isn't told
pub record ArePartlyAdded (table : List EdgeShape) (class : ℕ) (t : Pairs) (old new : List EdgeRow) : Type 0 where
  pub some : (e : ℕ) (row : Pairs) → IsTupleRow table class t e row → (count_at e row new ≡ count_at e row old) ⊎ (count_at e row new ≡ count_at e row old + 1)
  pub others : (e : ℕ) (row : Pairs) → (IsTupleRow table class t e row → ⊥) → count_at e row new ≡ count_at e row old

-- some of the tuple's rows were added, by no more changes than the whole tuple takes, for which room was promised
pub record IsPartlyAdded (class : ℕ) (t : Pairs) (old new : FragmentRows) : Type 0 where
  pub changes : ℕ
  pub few : changes ≤ changes_of_class old.table class
  pub rows : List EdgeRow
  pub added : ArePartlyAdded old.table class t old.now rows
  pub value : new ≡ changed_by changes (λ _. rows) old
