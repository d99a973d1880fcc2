use Rattle.std.proofs.Common.{sym, ◌∙◌}
use Rattle.std.proofs.lemmas.Bool.{false≢true}
use Rattle.rc_place.proofs.AdequacyLemmas.{a3_found, a3_apart, a3_inside}
use Rattle.rc_place.proofs.adequacy.keeps_a3.Goals as goal

pub returns-then-is_empty : goal.returns-then-is_empty
returns-then-is_empty c = (
  λ h. a3_found c.args.spec.now c.args.edge.now c.inter.result c.bound.result c.source_and_key.result c.bound-then-is_empty.result c.is_empty.result c.within.result
      c.inter.ensures.value c.bound.ensures c.is_empty.ensures c.source_and_key.ensures c.bound-then-is_empty.ensures c.within.ensures.found c.if-is_empty.true h,
  λ k. a3_inside c.args.spec.now c.args.edge.now c.source_and_key.result c.bound-then-is_empty.result c.within.result c.source_and_key.ensures c.bound-then-is_empty.ensures
      c.within.ensures.found k,
)

pub returns-else-is_empty : goal.returns-else-is_empty
returns-else-is_empty c = (
  λ h. absurd (false≢true (sym c.if-is_empty.false ∙ h)),
  λ k. a3_apart c.args.spec.now c.args.edge.now c.inter.result c.bound.result c.is_empty.result c.inter.ensures.value c.bound.ensures c.is_empty.ensures k,
)
