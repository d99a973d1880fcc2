-- For which specification a group's holder is sound, and whose it is.
use Rattle.std.specs.Prelude.{◌≡◌, List, Option, Some, None}
use Rattle.rc_multi.specs.Imports.{Pairs, Spec, Holding, held_of}
use Rattle.rc_multi.specs.Group.{AreNowOf}

-- where a plan of a group starts: the specification, and what the group's holder tells, which holds stripes that now are of one relation
pub record Start : Type 0 where
  pub spec : Spec
  pub told : Holding

-- the holder was made there
pub record IsFrom (start : Start) (begun : Holding) (spec : Spec) : Type 0 where
  pub spec_is : spec ≡ start.spec
  pub told_is : begun ≡ start.told
  pub relation : List Pairs
  pub now : AreNowOf spec (held_of begun) relation

abbrev pub IsFromSo : Option Start → Holding → Spec → Type 0
IsFromSo None begun spec = ⊥
IsFromSo (Some start) begun spec = IsFrom start begun spec
