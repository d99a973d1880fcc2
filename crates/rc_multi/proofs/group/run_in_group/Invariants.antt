use Rattle.std.specs.Prelude.{Some}
use Rattle.rc_multi.proofs.group.run_in_group.Given as goal

abbrev pub ghosts-run_lent : goal.ghosts-run_lent
ghosts-run_lent g a = record { start = Some (record { spec = a.compiled.now.spec; told = g.H.Holder.seen a.holder.now }) }
