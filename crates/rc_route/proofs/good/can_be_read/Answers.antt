use Rattle.std.proofs.Common.{inl, inr, refl, sym, ◌∙◌}
use Rattle.rc_route.proofs.Imports.{false≢true, eq-eqb, in_has, has_in, bound, lossless_at}
use Rattle.rc_route.proofs.good.can_be_read.Goals as goal
use Rattle.rc_route.proofs.good.can_be_read.Goals.{then-edge-eq0, else-edge-eq0}

pub returns-then-has : goal.returns-then-has
returns-then-has c =
    let lossless =
    lossless_at c.list.result.now c.args.spec.now.deps c.args.visited c.args.visited c.bound.result (bound c.args.spec.now c.args.edge.now.to)
    c.is_lossless.result c.list.ensures refl c.bound.ensures c.is_lossless.ensures in (
      λ h. (
        elim c.if-edge-eq0.branch [
          | then-edge-eq0 w ↦ inl w.if-edge-eq0.true
          | else-edge-eq0 w ↦ inr (in_has c.args.reached c.args.edge.now.from (sym w.has.ensures.found ∙ sym w.value-is ∙ c.if-has.true))
        ],
        lossless.0 h,
      ),
      λ k. lossless.1 k.1,
    )

pub returns-else-has : goal.returns-else-has
returns-else-has c = (
  (λ h. absurd (false≢true (sym c.if-has.false ∙ h))),
  λ k. elim c.if-edge-eq0.branch [
    | then-edge-eq0 w ↦ w.value-is ∙ eq-eqb c.args.edge.now.from 0 w.if-edge-eq0.true
    | else-edge-eq0 w ↦ elim k.0 [
      | inl z ↦ absurd (w.if-edge-eq0.false z)
      | inr m ↦ w.value-is ∙ w.has.ensures.found ∙ has_in c.args.reached c.args.edge.now.from m
    ]
  ],
)
