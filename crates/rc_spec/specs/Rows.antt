-- The rows that a set of them has.
use Rattle.rc_spec.specs.Imports.{ℕ, List, map, BTreeSet}
use Rattle.std.proofs.Common.{Vec, Global}

abbrev pub rows_in : BTreeSet (Vec ℕ Global) → List (List ℕ)
rows_in rows = map (λ row. row.items) rows.keys
