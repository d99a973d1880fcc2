use Rattle.std.proofs.Common.{◌≡◌, ◌↔◌, true, List, ℕ, ap, subst}
use Rattle.rc_check.proofs.Imports.{lossless_at, bound, IsFindable, ProgressSets}
use Rattle.rc_check.proofs.steps.can_be_joined.Goals as goal

pub returns-then-is_findable : goal.returns-then-is_findable
returns-then-is_findable c = λ p e.
    let spec = c.args.spec.now in
    let findable = subst (λ (xs : List ℕ). (c.is_findable.result ≡ true) ↔ IsFindable c.args.mode c.args.edge.now.key xs) (ap (λ (s : ProgressSets). s.columns) e) c.is_findable.ensures in
    let lossless =
    lossless_at c.list.result.now spec.deps c.args.before.now.visited p.visited c.bound.result (bound spec c.args.edge.now.to)
    c.is_lossless.result c.list.ensures (ap (λ (s : ProgressSets). s.visited) e) c.bound.ensures c.is_lossless.ensures in
    ((λ h. (findable.0 c.if-is_findable.true, lossless.0 h)), λ k. lossless.1 k.1)
