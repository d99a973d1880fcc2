use Rattle.rc_mutate.proofs.Imports.{subst, In}
use Rattle.rc_mutate.proofs.insert.push_probe.Goals as goal

pub push_locks_and_reads-requires-clause-edges : goal.push_locks_and_reads-requires-clause-edges
push_locks_and_reads-requires-clause-edges c = λ e m. c.requires.edges e (subst (In e) c.list.ensures m)
