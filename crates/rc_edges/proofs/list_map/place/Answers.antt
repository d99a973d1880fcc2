use Rattle.std.proofs.Common.{◌≡◌, length, sym, ap, subst, ◌∙◌, arith}
use Rattle.rc_edges.proofs.Imports.{drop_all, Values, values_cmp, IsGap, Counted, past_at, past_gap, past_more, past_all}
use Rattle.rc_edges.proofs.list_map.place.Goals as goal

pub returns-in-Equal-clause-found : goal.returns-in-Equal-clause-found
returns-in-Equal-clause-found c = past_at c.args.key.now c.args.items.now c.loop-at.at c.index-items-at.result c.loop-at-test.true
    (ap (λ (z : Values × Counted). values_cmp z.0 c.args.key.now) (sym c.index-items-at.is) ∙ sym c.in-Equal.ensures) c.loop-at.invariant

pub returns-in-Greater-clause-gap : goal.returns-in-Greater-clause-gap
returns-in-Greater-clause-gap c = past_gap c.args.key.now c.args.items.now c.loop-at.at c.index-items-at.result c.loop-at-test.true
    (ap (λ (z : Values × Counted). values_cmp z.0 c.args.key.now) (sym c.index-items-at.is) ∙ sym c.in-Greater.ensures) c.loop-at.invariant

pub loop-at-preserved : goal.loop-at-preserved
loop-at-preserved c = past_more c.args.key.now c.args.items.now c.loop-at.at c.index-items-at.result c.loop-at-test.true
    (ap (λ (z : Values × Counted). values_cmp z.0 c.args.key.now) (sym c.index-items-at.is) ∙ sym c.in-Less.ensures) c.loop-at.invariant

pub returns-clause-gap : goal.returns-clause-gap
returns-clause-gap c =
    let e : c.loop-at.at ≡ length c.args.items.now = omega arith in
    subst (IsGap c.args.key.now c.args.items.now) e
    (past_all c.args.key.now c.args.items.now c.loop-at.at (drop_all c.loop-at.at c.args.items.now (omega arith)) c.loop-at.invariant)
