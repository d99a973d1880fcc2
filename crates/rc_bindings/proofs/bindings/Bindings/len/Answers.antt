use Rattle.std.proofs.Common.{◌≡◌, length, subst, sym}
use Rattle.rc_bindings.proofs.Imports.{BindingList, length-tuples_in}
use Rattle.rc_bindings.proofs.bindings.Bindings.len.Goals as goal

pub returns : goal.returns
returns c =
    subst (λ (z : BindingList). c.self.inside.count ≡ length z.tuples) c.self.view_is
    (sym (length-tuples_in c.self.inside.cols c.self.inside.width c.self.inside.count c.self.inside.registers.items))
