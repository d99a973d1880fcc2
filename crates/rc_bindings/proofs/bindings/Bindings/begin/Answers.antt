use Rattle.rc_bindings.proofs.Imports.{subst, sym, AreBelow, BindingList}
use Rattle.rc_bindings.proofs.bindings.Bindings.begin.Goals as goal

pub invariant_of-self : goal.invariant_of-self
invariant_of-self c = record {
  columns = record {
    set = c.within.ensures.set;
    below = subst (λ (z : BindingList). AreBelow z.width c.args.cols) (sym c.self.view_is) c.requires;
  };
  some = c.self.invariant.some;
  few = c.self.invariant.few;
  rows = c.clear.ensures.items;
}
