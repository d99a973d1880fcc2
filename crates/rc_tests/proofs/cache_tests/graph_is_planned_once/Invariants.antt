use Rattle.std.specs.Prelude.{Some}
use Rattle.rc_tests.proofs.cache_tests.graph_is_planned_once.Given as goal

-- the caches are of the specification that is given
abbrev pub ghosts-is_planned_once : goal.ghosts-is_planned_once
ghosts-is_planned_once g a = record { base = Some a.base.now }
