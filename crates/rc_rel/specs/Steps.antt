-- The steps of an entry.
use Rattle.std.specs.Prelude.{List, [], ◌∷◌}
use Rattle.rc_rel.specs.declared.entry.Step.{Step}
use Rattle.rc_rel.specs.declared.steps.Kept.{Kept}
use Rattle.rc_rel.specs.declared.steps.Kept.TheVariants.{One, Many}

-- the steps that stand there, in order
abbrev pub steps_of : Kept → List Step
steps_of (One step) = step ∷ []
steps_of (Many steps) = steps.items
