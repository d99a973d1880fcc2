-- What is seen of a fragment that lies in a slot. (PLDI 2012, shared locks.)
use Rattle.std.specs.Prelude.{◌≡◌, List}
use Rattle.rc_fragment.specs.Imports.{arc_value, EdgeRow}
use Rattle.rc_fragment.specs.FragmentRows.{FragmentRows}
use Rattle.rc_fragment.specs.declared.keep.Keep.TheInside.{Inside}
use Rattle.rc_fragment.specs.declared.keep.Ownership.{Ownership}
use Rattle.rc_fragment.specs.declared.keep.Ownership.TheVariants.{Sole, Shared}
use Rattle.rc_fragment.specs.declared.shape.EdgeShape.{EdgeShape}

-- the shape of each edge, and the rows
pub record KeptRows : Type 0 where
  pub table : List EdgeShape
  pub rows : List EdgeRow

-- what a slot keeps of a fragment
abbrev pub kept_rows : FragmentRows → KeptRows
kept_rows f = record { table = f.table; rows = f.now }

-- the fragment as it comes out of a slot: no change is pending, and no room is promised
abbrev pub at_rest : KeptRows → FragmentRows
at_rest k = record { table = k.table; now = k.rows; taken = k.rows; room = 0; changes = 0 }

-- no change of the fragment is pending
pub record IsAtRest (f : FragmentRows) : Type 0 where
  pub taken : f.taken ≡ f.now
  pub changes : f.changes ≡ 0

-- no change is pending, and no room is promised
abbrev pub IsKeptFragment : FragmentRows → Type 0
IsKeptFragment f = f ≡ at_rest (kept_rows f)

-- the fragment that is had
abbrev pub had_by : Ownership → FragmentRows
had_by (Sole fragment) = fragment
had_by (Shared pointer) = arc_value pointer

-- what is seen of a slot
abbrev pub kept_seen : Inside → KeptRows
kept_seen a = kept_rows (had_by a.ownership)

-- what a slot keeps has no change pending
abbrev pub KeepsAtRest : Inside → Type 0
KeepsAtRest a = IsKeptFragment (had_by a.ownership)
