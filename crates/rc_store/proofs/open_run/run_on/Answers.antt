use Rattle.rc_store.proofs.Imports.{subst, sym, locks_of, Covers, PassSeen, held_stripes}
use Rattle.rc_store.proofs.open_run.run_on.Goals as goal

pub run_lent-ran-requires-clause-covered : goal.run_lent-ran-requires-clause-covered
run_lent-ran-requires-clause-covered g c =
    subst (λ (q : PassSeen). Covers c.args.compiled.now c.args.call.now (locks_of (held_stripes q.held))) (sym c.take_space.ensures) c.requires.covered
