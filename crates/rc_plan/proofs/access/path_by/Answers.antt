use Rattle.std.proofs.Common.{◌≡◌, ◌-◌, List, ℕ, ap, drop, length, sym, subst, take, ◌∙◌}
use Rattle.std.specs.Prelude.{◌↔◌, IsTrue}
use Rattle.rc_plan.proofs.Imports.{false≢true, length-drop, take-length, edge_at, AsksFor, extra_of, IsResolvedEdge}
use Rattle.rc_plan.proofs.LateLemmas.{path_is_found}
use Rattle.rc_plan.proofs.ResolvedLemmas.{at_number}
use Rattle.rc_plan.proofs.access.path_by.Goals as goal

pub returns-then-is_locked_first-clause-some : goal.returns-then-is_locked_first-clause-some
returns-then-is_locked_first-clause-some c =
    let spec = c.args.spec.now in
    let edge = c.args.edge in
    let resolved = at_number (IsResolvedEdge spec) c.args.edges.now (length spec.edges) edge c.index-edges-edge.result c.requires.resolved c.requires.edge in
    record {
      locks = c.is_locked_first.ensures.0 c.if-is_locked_first.true;
      asks = c.in_ok-mode.ensures.some;
      extra = subst (λ cols. IsTrue c.asks_for.result ↔ AsksFor c.args.op.now.kind cols) resolved.extra c.asks_for.ensures;
    }

pub returns-else-is_locked_first-clause-none : goal.returns-else-is_locked_first-clause-none
returns-else-is_locked_first-clause-none c e p same path =
    let plan = c.args.plan.now in
    let n = c.first_locks-locks.result in
    let m = c.late_statements-late.result in
    let locks = c.first_locks-locks.ensures in
    let late = c.late_statements-late.ensures in
    let rest : take (length plan - n) (drop n plan) ≡ drop n plan = ap (λ k. take k (drop n plan)) (sym (length-drop n plan)) ∙ take-length (drop n plan) in
    absurd (false≢true (sym c.if-is_locked_first.false ∙ c.is_locked_first.ensures.1
    (path_is_found c.args.spec.now c.args.op.now plan p path.locks n locks.within locks.locks locks.most m (rw rest at late.within) (rw rest at late.none) (rw rest at late.least) c.args.edge c.in_ok-mode.mode c.asks_for.result same)))
