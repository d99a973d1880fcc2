use Rattle.std.proofs.Common.{◌≡◌, subst}
use Rattle.rc_bindings.proofs.Imports.{In, Pairs, cols_of, BindingList, in_tuples_in}
use Rattle.rc_bindings.proofs.bindings.Bindings.cols.Goals as goal

pub returns-clause-tuples : goal.returns-clause-tuples
returns-clause-tuples c =
    subst (λ (z : BindingList). (t : Pairs) → In t z.tuples → cols_of t ≡ z.columns) c.self.view_is
    (in_tuples_in c.self.inside.cols c.self.inside.width c.self.inside.count c.self.inside.registers.items)
