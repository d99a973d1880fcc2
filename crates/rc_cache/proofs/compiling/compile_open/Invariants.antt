use Rattle.std.specs.Prelude.{Some}
use Rattle.rc_cache.proofs.compiling.compile_open.Given as goal

-- the cache is of the specification that is given
abbrev pub ghosts-plans_beside : goal.ghosts-plans_beside
ghosts-plans_beside g a = record { base = Some a.base.now }
