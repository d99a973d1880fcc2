use Rattle.std.proofs.Common.{◌≡◌, ℕ, ◌<◌}
use Rattle.rc_handplan.proofs.Imports.{flat_map, range_with_len, plan_at, HaveSets, op_text}
use Rattle.rc_handplan.proofs.printing.print_plans.Given as goal

-- the plans of the operations so far
abbrev pub invariant-loop-op : goal.invariant-loop-op
invariant-loop-op l = record {
  text : l.text.items ≡ flat_map (op_text l.compiled.spec l.compiled.plans) (range_with_len 0 l.op);
  sets : (op : ℕ) → op < l.op → HaveSets (plan_at l.compiled.plans op);
}
