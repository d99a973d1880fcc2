use Rattle.std.proofs.Common.{cond, None, Some, ap, sym, ◌∙◌}
use Rattle.rc_bindings.proofs.Imports.{unwrap_or, in_has, value, OneBinding, register, get-tuple_in}
use Rattle.rc_bindings.proofs.binding.Binding.value.Goals as goal

pub bounds-self-inside-col : goal.bounds-self-inside-col
bounds-self-inside-col c = c.self.invariant.columns.below c.args.col (in_has c.self.inside.cols c.args.col (sym c.has.ensures.found ∙ c.if-has.true))

pub returns-then-has : goal.returns-then-has
returns-then-has c =
    let values = c.self.inside.registers.now in
    sym (ap (λ (z : OneBinding). value z.tuple c.args.col) (sym c.self.view_is) ∙ ap (λ o. unwrap_or o 0) (get-tuple_in c.self.inside.cols values c.args.col)
    ∙ ap (λ b. unwrap_or (cond b (Some (register values c.args.col)) None) 0) (sym c.has.ensures.found ∙ c.if-has.true))

pub returns-else-has : goal.returns-else-has
returns-else-has c =
    let values = c.self.inside.registers.now in
    sym (ap (λ (z : OneBinding). value z.tuple c.args.col) (sym c.self.view_is) ∙ ap (λ o. unwrap_or o 0) (get-tuple_in c.self.inside.cols values c.args.col)
    ∙ ap (λ b. unwrap_or (cond b (Some (register values c.args.col)) None) 0) (sym c.has.ensures.found ∙ c.if-has.false))
