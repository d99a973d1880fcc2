use Rattle.rc_place.proofs.Imports.{bound, source_and_key, follows_at}
use Rattle.rc_place.proofs.adequacy.keeps_a4.Goals as goal

pub returns : goal.returns
returns c =
    follows_at c.list.result.now c.args.spec.now.deps c.source_and_key.result (source_and_key c.args.spec.now c.args.edge.now) c.bound.result (bound c.args.spec.now c.args.edge.now.to)
    c.determines.result c.list.ensures c.source_and_key.ensures c.bound.ensures c.determines.ensures
