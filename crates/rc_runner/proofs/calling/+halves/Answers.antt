use Rattle.rc_runner.proofs.Imports.{both_made, number_of, stand_of, share_of}
use Rattle.rc_runner.proofs.calling.+halves.Goals as goal

pub make_shares-returns-clause-made : goal.make_shares-returns-clause-made
make_shares-returns-clause-made g t c =
    let parts = c.split_at_mut-left in
    both_made number_of stand_of (share_of c.args.shares.now) c.make_both.result c.args.passes.now parts.result.0.now parts.result.1.now
    c.make_both.new.left c.make_both.new.right parts.ensures.value c.make_both.ensures.made
