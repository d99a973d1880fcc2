use Rattle.std.proofs.Common.{◌≡◌, ◌<◌, length, arith, sym, ap, ◌∙◌}
use Rattle.rc_route.proofs.Imports.{Class, Edge, class_at, class_of, class_of_known}
use Rattle.rc_route.proofs.EdgeLemmas.{lock_all}
use Rattle.rc_route.proofs.costs.lock_cost.Goals as goal

pub class-class-requires : goal.class-class-requires
class-class-requires c =
    let known : class_of c.args.spec.now c.args.edge < length c.args.spec.now.classes = class_of_known c.args.spec.now c.args.edge c.requires.range (c.requires.placed.p1 c.args.edge c.requires.known) in
    omega (arith, c.class_of.ensures)

pub returns-else-within : goal.returns-else-within
returns-else-within c =
    let spec = c.args.spec.now in
    let class : Class = c.class-class.result.now in
    let known : class_of spec c.args.edge < length spec.classes = class_of_known spec c.args.edge c.requires.range (c.requires.placed.p1 c.args.edge c.requires.known) in
    let same : class_at spec (class_of spec c.args.edge) ≡ class =
    ap (class_at spec) (sym c.class_of.ensures) ∙ sym c.class-class.ensures.value in
    c.from.ensures
    ∙ lock_all spec c.args.pattern c.args.edge class _ c.bound-source.result c.union.result c.within.result same
    (ap (λ (e : Edge). e.from) c.edge.ensures.value)
    c.bound-source.ensures c.union.ensures.value c.within.ensures.found c.if-within.false
