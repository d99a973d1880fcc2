use Rattle.std.proofs.Common.{◌≡◌, subst}
use Rattle.rc_bindings.proofs.Imports.{IsTuple, cols_of, OneBinding, IsTuple-tuple_in, cols_of-tuple_in}
use Rattle.rc_bindings.proofs.binding.Binding.cols.Goals as goal

pub returns-clause-of_tuple : goal.returns-clause-of_tuple
returns-clause-of_tuple c = subst (λ (z : OneBinding). cols_of z.tuple ≡ z.columns) c.self.view_is (cols_of-tuple_in c.self.inside.cols c.self.inside.registers.now)

pub returns-clause-tuple : goal.returns-clause-tuple
returns-clause-tuple c = subst (λ (z : OneBinding). IsTuple z.tuple) c.self.view_is (IsTuple-tuple_in c.self.inside.cols c.self.inside.registers.now c.self.invariant.columns c.self.invariant.words)
