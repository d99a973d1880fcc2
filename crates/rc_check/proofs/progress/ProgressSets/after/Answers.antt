use Rattle.std.proofs.Common.{◌<◌, ◌≤◌, length, arith}
use Rattle.rc_check.proofs.Imports.{Edge, IsEdgeAmong}
use Rattle.rc_check.proofs.progress.ProgressSets.after.Goals as goal

pub after_read-requires-clause-few : goal.after_read-requires-clause-few
after_read-requires-clause-few c =
    let spec = c.args.spec.now in
    let e : Edge = c.edge.result.now in
    let known : IsEdgeAmong (length spec.nodes) (length spec.columns) e =
    c.edge.ensures.known c.requires.range in
    let to : e.to < length spec.nodes = known.to in
    let few : length spec.nodes ≤ 16 = c.requires.range.nodes in omega arith

pub after_read-requires-clause-known : goal.after_read-requires-clause-known
after_read-requires-clause-known c =
    let spec = c.args.spec.now in
    let e : Edge = c.edge.result.now in
    let known : IsEdgeAmong (length spec.nodes) (length spec.columns) e =
    c.edge.ensures.known c.requires.range in
    let to : e.to < length spec.nodes = known.to in
    omega arith
