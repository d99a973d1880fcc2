use Rattle.std.proofs.Common.{◌++◌, ap, map, subst, sym, ◌∙◌}
use Rattle.rc_bindings.proofs.Imports.{In, in_inter, inter, project, OneBinding, register, values_of, on_ok, project-tuple_in, values_of-tuple_in}
use Rattle.rc_bindings.proofs.binding.Binding.push_values.Goals as goal

pub push_registers-requires-clause-below : goal.push_registers-requires-clause-below
push_registers-requires-clause-below c = record {
  set = c.inter.ensures.set;
  below = λ n m. c.self.invariant.columns.below n (in_inter c.self.inside.cols c.args.cols n (subst (λ xs. In n xs) c.inter.ensures.value m)).0;
}

pub returns : goal.returns
returns c =
    let values = c.self.inside.registers.now in
    on_ok c.push_registers.result (λ e. e
    ∙ ap (λ xs. c.args.values.now.items ++ map (register values) xs) c.inter.ensures.value
    ∙ ap (λ z. c.args.values.now.items ++ z) (sym (values_of-tuple_in (inter c.self.inside.cols c.args.cols) values)
    ∙ ap values_of (sym (project-tuple_in c.args.cols c.self.inside.cols values)) ∙ ap (λ (z : OneBinding). values_of (project c.args.cols z.tuple)) c.self.view_is)) c.push_registers.ensures
