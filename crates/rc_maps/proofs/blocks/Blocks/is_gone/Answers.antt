use Rattle.std.proofs.Common.{◌≡◌, sym, subst, ◌∙◌}
use Rattle.std.specs.Prelude.{◌↔◌}
use Rattle.rc_maps.proofs.Imports.{IsTrue, eqb-true, Rows, gone_alone, gone_none}
use Rattle.std.specs.FinMap as fin
use Rattle.rc_maps.proofs.blocks.Blocks.is_gone.Goals as goal

pub returns-then-len-eq1 : goal.returns-then-len-eq1
returns-then-len-eq1 g c =
    subst (λ (m : Rows). IsTrue c.is_gone.result ↔ (m ≡ fin.empty))
    (gone_alone c.self.inside.blocks.items c.args.self.now c.index.result.now c.self.view_is
    (sym (c.len.ensures ∙ c.self.inside.blocks.ok.0) ∙ c.if-len-eq1.true) c.index.ensures)
    c.is_gone.ensures

pub returns-else-len-eq1 : goal.returns-else-len-eq1
returns-else-len-eq1 g c = (
  λ t. absurd (c.if-len-eq1.false (eqb-true c.len.result 1 t)),
  λ e. absurd (gone_none c.self.inside.blocks.items c.args.self.now c.self.invariant c.self.view_is
      (λ one. c.if-len-eq1.false (c.len.ensures ∙ c.self.inside.blocks.ok.0 ∙ one)) e),
)
