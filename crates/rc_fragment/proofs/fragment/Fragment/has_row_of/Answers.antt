use Rattle.std.proofs.Common.{Some, subst, ◌∙◌}
use Rattle.rc_fragment.proofs.Imports.{HasShape, FragmentRows}
use Rattle.rc_fragment.proofs.FirstLemmas.{looked_so}
use Rattle.rc_fragment.proofs.fragment.Fragment.has_row_of.Goals as goal

pub returns-in-Some : goal.returns-in-Some
returns-in-Some c = (
  c.in-Some.field-0.now,
  looked_so c.args.self.now.table c.args.self.now.now c.args.edge c.args.tuple.now c.shape-shape.result
      (subst (λ (z : FragmentRows). HasShape z.table c.args.edge c.shape-shape.result) c.self.view_is c.shape-shape.ensures)
      c.deref.result.now c.deref-2.result.now (c.deref.ensures.value ∙ c.in_ok-source.ensures) (c.deref-2.ensures.value ∙ c.in_ok-key.ensures) (Some c.in-Some.field-0.now) c.in-Some.ensures,
)
