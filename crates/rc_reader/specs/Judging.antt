-- Tests in their order, each with the rule that it tests.
use Rattle.std.specs.Prelude.{Bool, if◌then◌else◌, List, [], ◌∷◌, Option, None, Some, Result, Ok, Err}

-- the rule of the first test that fails, of which each says whether it does
abbrev pub first_broken : {R : Type 0} → List (R × Bool) → Option R
first_broken [] = None
first_broken (test ∷ tests) = if test.1 then Some test.0 else first_broken tests

abbrev pub unless_broken : {R X : Type 0} → Option R → X → Result X R
unless_broken None x = Ok x
unless_broken (Some rule) x = Err rule

-- that rule, or what is let through where none fails
abbrev pub judged : {R X : Type 0} → List (R × Bool) → X → Result X R
judged tests x = unless_broken (first_broken tests) x
