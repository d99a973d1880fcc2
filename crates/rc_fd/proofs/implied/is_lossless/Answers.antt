use Rattle.std.proofs.Common.{◌≡◌, ◌↔◌, Bool, true, List, ℕ, inl, inr, sym, subst, ◌∙◌}
use Rattle.std.proofs.lemmas.Bool.{false≢true}
use Rattle.rc_tuple.specs.Relation.{Follows}
use Rattle.rc_fd.proofs.implied.is_lossless.Goals as goal

pub returns-else-determines : goal.returns-else-determines
returns-else-determines c =
    let exact : (b : Bool) (ys : List ℕ) → (b ≡ true) ↔ Follows c.args.deps.now c.inter-common.result ys → (b ≡ true) ↔ Follows c.args.deps.now _ ys =
    λ b ys h. subst (λ xs. (b ≡ true) ↔ Follows c.args.deps.now xs ys) c.inter-common.ensures.value h in
    let left = exact c.determines.result c.args.left c.determines.ensures in
    let right = exact c.determines-else-determines.result c.args.right c.determines-else-determines.ensures in (
      λ h. inr (right.0 h),
      λ k. elim k [ inl a ↦ absurd (false≢true (sym c.if-determines.false ∙ left.1 a)) | inr b ↦ right.1 b ],
    )
