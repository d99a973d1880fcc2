use Rattle.std.proofs.Common.{◌≡◌, sym, ap, subst, ◌∙◌}
use Rattle.rc_machine.proofs.Imports.{In, cols_of, Op, OpKind, Query, Spec, bound, edge_at, EdgeRow, op_at, plain, shape_of, held_of, AsksFor, extra_of, plan_at, HasListed, HasLookedUp, leaving}
use Rattle.rc_machine.proofs.AccessRunLemmas.{lent_over, lent_rows, row_served, rows_served}
use Rattle.rc_machine.proofs.ReadLemmas.{is_held}
use Rattle.rc_machine.proofs.edge_query.answer_by_edge.Given.{Over}
use Rattle.rc_machine.proofs.edge_query.answer_by_edge.Goals.{After-fragment-fragment, After-of-read}
use Rattle.rc_machine.proofs.edge_query.answer_by_edge.Goals as goal

-- the operation is the specification's
kind_is : (g : Over) (c : After-of-read g) → (op_at c.args.compiled.now.spec c.args.call.now.op).kind ≡ Query c.in-Query.outs c.in-Query.ranges
kind_is g c =
    ap (λ (s : Spec). (op_at s c.args.call.now.op).kind) (sym (c.spec.ensures.value ∙ c.accepted.ensures.value)) ∙ ap (λ (z : Op). z.kind) (sym c.op.ensures.value) ∙ c.in-Query.is

-- the rows of the stripe have their edges' columns
columns : (g : Over) (c : After-fragment-fragment g) (w : EdgeRow) → In w c.fragment-fragment.result.now.now → cols_of w.1 ≡ bound c.of-read.result.spec.now (edge_at c.of-read.result.spec.now w.0).to
columns g c w m =
    subst (λ (s : Spec). cols_of w.1 ≡ bound s (edge_at s w.0).to) (sym c.of-read.ensures.spec)
    (lent_over c.args.compiled.now c.args.call.now c.args.path c.args.stripe (g.H.Holder.seen c.args.holder.now) c.requires.locked c.fragment-fragment.result.now c.fragment-fragment.ensures c.requires.one w m)

pub fragment-fragment-requires : goal.fragment-fragment-requires
fragment-fragment-requires g c = is_held (held_of (g.H.Holder.seen c.args.holder.now)) c.args.stripe c.requires.locked.held

pub look_up-requires-clause-columns : goal.look_up-requires-clause-columns
look_up-requires-clause-columns g c = columns g (goal.at.look_up-requires-clause-columns g c).After-fragment-fragment

pub look_up-requires-clause-alone : goal.look_up-requires-clause-alone
look_up-requires-clause-alone g c alone =
    let at = (goal.at.look_up-requires-clause-alone g c).After-of-read in
    let spec = c.args.compiled.now.spec in
    let edge = c.args.path.edge in
    let read = c.of-read.result in
    let outs : c.in-Query.outs ≡ extra_of spec (edge_at spec edge) =
    subst (λ (kind : OpKind). AsksFor kind (extra_of spec (edge_at spec edge))) (kind_is g at) (c.requires.locked.path.extra.0 alone) in
    outs ∙ ap (λ (s : Spec). extra_of s (edge_at s edge)) (sym c.of-read.ensures.spec)
    ∙ ap (λ e. extra_of read.spec.now (edge_at read.spec.now e)) (sym c.of-read.ensures.edge)

pub list-requires-clause-columns : goal.list-requires-clause-columns
list-requires-clause-columns g c = columns g (goal.at.list-requires-clause-columns g c).After-fragment-fragment

pub returns-in_ok-look_up-in-Lookup-clause-answered : goal.returns-in_ok-look_up-in-Lookup-clause-answered
returns-in_ok-look_up-in-Lookup-clause-answered g c r a =
    let at = (goal.at.returns-in_ok-look_up-in-Lookup-clause-answered g c).After-fragment-fragment in
    let spec = c.args.compiled.now.spec in
    let rows = c.fragment-fragment.result.now.now in
    let reply = c.look_up.new.reply in
    row_served spec c.requires.locked.sealed c.args.call.now c.requires.locked.fits (plan_at c.args.compiled.now.plans c.args.call.now.op) c.args.path c.requires.locked.path c.in-Query.outs c.in-Query.ranges (kind_is g at.before)
    rows r a.relation (lent_rows c.args.compiled.now c.args.call.now c.args.path c.args.stripe (g.H.Holder.seen c.args.holder.now) c.requires.locked c.fragment-fragment.result.now c.fragment-fragment.ensures r a) reply c.in-Lookup.is
    (subst (λ e. HasLookedUp (shape_of spec e) rows e c.args.call.now.args c.in-Query.outs reply) c.of-read.ensures.edge
    (subst (λ (s : Spec). HasLookedUp (shape_of s c.of-read.result.edge) rows c.of-read.result.edge c.args.call.now.args c.in-Query.outs reply) c.of-read.ensures.spec c.in_ok-look_up-in-Lookup.ensures.answered))

pub returns-in_ok-told-in-Scan-clause-answered : goal.returns-in_ok-told-in-Scan-clause-answered
returns-in_ok-told-in-Scan-clause-answered g c r a =
    let at = (goal.at.returns-in_ok-told-in-Scan-clause-answered g c).After-fragment-fragment in
    let spec = c.args.compiled.now.spec in
    let rows = c.fragment-fragment.result.now.now in
    let reply = c.in_ok-told-in-Scan.told in
    subst (λ told. plain spec r c.args.call.now ≡ leaving told r) (sym c.tell.ensures)
    (rows_served spec c.requires.locked.sealed c.args.call.now c.requires.locked.fits (plan_at c.args.compiled.now.plans c.args.call.now.op) c.args.path c.requires.locked.path c.in-Query.outs c.in-Query.ranges (kind_is g at.before)
    rows r a.relation (lent_rows c.args.compiled.now c.args.call.now c.args.path c.args.stripe (g.H.Holder.seen c.args.holder.now) c.requires.locked c.fragment-fragment.result.now c.fragment-fragment.ensures r a) reply c.in-Scan.is
    (subst (λ e. HasListed (shape_of spec e) rows e c.args.call.now.args c.in-Query.outs spec.most_rows reply) c.of-read.ensures.edge
    (subst (λ (s : Spec). HasListed (shape_of s c.of-read.result.edge) rows c.of-read.result.edge c.args.call.now.args c.in-Query.outs s.most_rows reply) c.of-read.ensures.spec c.in_ok-told-in-Scan.ensures)))
