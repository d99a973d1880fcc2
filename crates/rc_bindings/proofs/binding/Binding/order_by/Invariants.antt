use Rattle.std.proofs.Common.{◌≡◌, drop}
use Rattle.rc_bindings.proofs.Imports.{pick, row_cmp}
use Rattle.rc_bindings.proofs.binding.Binding.order_by.Given as goal

-- what is left decides
abbrev pub invariant-loop-col : goal.invariant-loop-col
invariant-loop-col l = row_cmp (pick (drop l.col-index l.outs) l.self.tuple) (pick (drop l.col-index l.outs) l.other.tuple) ≡ row_cmp (pick l.outs l.self.tuple) (pick l.outs l.other.tuple)
