-- What a plain relation keeps.
use Rattle.rc_rel.specs.Imports.{List, IsRising, Pairs, tuple_cmp, Satisfies, Dep}

-- the tuples rise, and satisfy the dependencies that are known of them
pub record IsKnownToSatisfy (tuples : List Pairs) (known : List Dep) : Type 0 where
  pub rising : IsRising tuple_cmp tuples
  pub satisfies : Satisfies tuples known
