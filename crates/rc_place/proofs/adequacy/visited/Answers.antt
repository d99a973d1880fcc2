use Rattle.std.proofs.Common.{◌<◌, length, sym, ap, ◌∙◌, arith}
use Rattle.rc_place.proofs.Imports.{union, Edge, visited, bound, visited_more}
use Rattle.rc_place.proofs.adequacy.visited.Goals as goal

pub loop-number-preserved : goal.loop-number-preserved
loop-number-preserved c =
    let spec = c.args.spec.now in
    let below : c.loop-number.number < length spec.edges = omega (arith, c.loop-number-test.true, c.requires.known) in
    c.union-cols.ensures.value ∙ ap (λ l. union l c.bound.result) c.loop-number.invariant
    ∙ ap (union (visited spec c.loop-number.number)) (c.bound.ensures ∙ ap (λ (e : Edge). bound spec e.to) c.edge.ensures.value)
    ∙ sym (visited_more spec c.loop-number.number below)
