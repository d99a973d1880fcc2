use Rattle.rc_store.proofs.Imports.{subst, sym, locks_of, Suffice, PassSeen, held_stripes}
use Rattle.rc_store.proofs.group_run.run_calls.Goals as goal

pub run_lent-ran-requires-clause-suffice : goal.run_lent-ran-requires-clause-suffice
run_lent-ran-requires-clause-suffice g c =
    subst (λ (q : PassSeen). Suffice c.args.compiled.now c.args.calls.now (locks_of (held_stripes q.held))) (sym c.take_space.ensures) c.requires.suffice
