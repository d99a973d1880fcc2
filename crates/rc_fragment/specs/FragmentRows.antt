-- What is seen of a fragment.
use Rattle.std.specs.Prelude.{ℕ, ◌+◌, pred, max, List, []}
use Rattle.rc_spec.specs.Fragments.{EdgeRow}
use Rattle.rc_fragment.specs.declared.shape.EdgeShape.{EdgeShape}

-- the shape of each edge; the rows now and as they were taken, rising; how many further changes are promised to find room; and how many were made
-- since the rows were taken
pub record FragmentRows : Type 0 where
  pub table : List EdgeShape
  pub now : List EdgeRow
  pub taken : List EdgeRow
  pub room : ℕ
  pub changes : ℕ

-- the fragment with these edges and no row
abbrev pub no_rows : List EdgeShape → FragmentRows
no_rows table = record { table = table; now = []; taken = []; room = 0; changes = 0 }

-- with room promised for at least so many changes
abbrev pub with_promise : ℕ → FragmentRows → FragmentRows
with_promise n f = record { table = f.table; now = f.now; taken = f.taken; room = max f.room n; changes = f.changes }

-- with no room promised
abbrev pub without_promise : FragmentRows → FragmentRows
without_promise f = record { table = f.table; now = f.now; taken = f.taken; room = 0; changes = f.changes }

-- after one change of the rows now, for which room was promised
abbrev pub changed : (List EdgeRow → List EdgeRow) → FragmentRows → FragmentRows
changed change f = record { table = f.table; now = change f.now; taken = f.taken; room = pred f.room; changes = f.changes + 1 }

-- with the rows as they were taken: no change is left
abbrev pub rolled_back : FragmentRows → FragmentRows
rolled_back f = record { table = f.table; now = f.taken; taken = f.taken; room = f.room; changes = 0 }

-- with the rows now as those taken: no change is left
abbrev pub settled : FragmentRows → FragmentRows
settled f = record { table = f.table; now = f.now; taken = f.now; room = f.room; changes = 0 }
