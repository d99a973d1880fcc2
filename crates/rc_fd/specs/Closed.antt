-- Sets of columns that are closed under functional dependencies.
use Rattle.std.specs.Prelude.{ℕ, List}
use Rattle.rc_tuple.specs.RisingSet.{In}
use Rattle.rc_tuple.specs.ColSet.{Within}
use Rattle.rc_tuple.specs.declared.dep.Dep.{Dep}

-- each dependency whose left side lies in the columns has its right side there too
abbrev pub IsClosed : List Dep → List ℕ → Type 0
IsClosed deps cs = (d : Dep) → In d deps → Within d.left cs → Within d.right cs
