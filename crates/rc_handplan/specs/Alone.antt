-- What is so of plans that stand alone.
use Rattle.std.specs.Prelude.{◌≡◌, [], Ok}
use Rattle.rc_spec.specs.declared.spec.Spec.{Spec}
use Rattle.rc_handplan.specs.HandGrammar.{plans_of}

-- a text without a byte has no plan, and is not refused
abbrev pub NoTextNoPlans : Type 0
NoTextNoPlans = (spec : Spec) → plans_of spec [] ≡ Ok []
