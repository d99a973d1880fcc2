use Rattle.std.proofs.Common.{◌≡◌, IfSome, None, take}
use Rattle.rc_plan.proofs.Imports.{In, IsAccessPath, AccessPath, ReadMode, Read}
use Rattle.rc_plan.proofs.access.access_path.Given as goal

abbrev pub invariant-loop-statement : goal.invariant-loop-statement
invariant-loop-statement l = record {
  some : IfSome l.path (IsAccessPath l.spec l.op l.plan);
  none : l.path ≡ None → (p : AccessPath) (mode : ReadMode) → In (Read p.edge mode) (take l.statement-index l.plan) → IsAccessPath l.spec l.op l.plan p → ⊥;
}
