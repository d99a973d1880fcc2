use Rattle.std.proofs.Common.{◌≡◌, ℕ, ◌++◌, List, drop}
use Rattle.rc_query.proofs.Imports.{Within, Mode, Spec, Statement, locks_and_reads, left_after}
use Rattle.rc_query.proofs.statements.push_locks_and_reads.Given as goal

-- what is there and what is still to come make the whole
pub record Continues (spec : Spec) (mode : Mode) (columns classes rest : List ℕ) (now : List Statement) (columns0 classes0 route : List ℕ) (before : List Statement) : Type 0 where
  pub plan : now ++ locks_and_reads spec mode columns classes rest ≡ before ++ locks_and_reads spec mode columns0 classes0 route
  pub left : left_after spec classes rest ≡ left_after spec classes0 route
  pub within : Within classes classes0

abbrev pub invariant-loop-edge : goal.invariant-loop-edge
invariant-loop-edge l = Continues l.spec l.fn.mode l.columns l.left (drop l.edge-index l.route) l.plan l.fn.columns l.fn.classes l.fn.route l.fn.plan
