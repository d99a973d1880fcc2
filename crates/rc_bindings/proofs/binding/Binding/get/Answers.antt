use Rattle.std.proofs.Common.{cond, None, Some, ap, sym, ◌∙◌}
use Rattle.rc_bindings.proofs.Imports.{in_has, get, OneBinding, register, get-tuple_in}
use Rattle.rc_bindings.proofs.binding.Binding.get.Goals as goal

pub bounds-self-inside-col : goal.bounds-self-inside-col
bounds-self-inside-col c = c.self.invariant.columns.below c.args.col (in_has c.self.inside.cols c.args.col (sym c.has.ensures.found ∙ c.if-has.true))

pub returns-then-has : goal.returns-then-has
returns-then-has c =
    let values = c.self.inside.registers.now in
    sym (ap (λ (z : OneBinding). get z.tuple c.args.col) (sym c.self.view_is) ∙ get-tuple_in c.self.inside.cols values c.args.col
    ∙ ap (λ b. cond b (Some (register values c.args.col)) None) (sym c.has.ensures.found ∙ c.if-has.true))

pub returns-else-has : goal.returns-else-has
returns-else-has c =
    let values = c.self.inside.registers.now in
    sym (ap (λ (z : OneBinding). get z.tuple c.args.col) (sym c.self.view_is) ∙ get-tuple_in c.self.inside.cols values c.args.col
    ∙ ap (λ b. cond b (Some (register values c.args.col)) None) (sym c.has.ensures.found ∙ c.if-has.false))
