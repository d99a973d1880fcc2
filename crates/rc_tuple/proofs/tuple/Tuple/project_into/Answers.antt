use Rattle.std.proofs.Common.{◌≡◌, ◌++◌, ℕ, sym, ◌∙◌, ap, subst}
use Rattle.rc_tuple.proofs.Imports.{has, IsTuple, project, IsTuple-filter}
use Rattle.rc_tuple.proofs.tuple.Tuple.project_into.Goals as goal

pub invariant_of-out-2 : goal.invariant_of-out-2
invariant_of-out-2 c =
    let whole : c.push_projected.new.pairs.items ≡ project c.args.cols c.deref.result.now =
    c.push_projected.ensures.items ∙ ap (λ l. l ++ project c.args.cols c.deref.result.now) (c.in_ok-reserve.ensures.items ∙ c.clear.ensures.items) in
    subst IsTuple (sym whole)
    (IsTuple-filter (λ (p : ℕ × ℕ). has c.args.cols p.0) c.deref.result.now (subst IsTuple (sym c.deref.ensures.value) c.self.invariant))
