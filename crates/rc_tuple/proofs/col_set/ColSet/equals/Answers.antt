use Rattle.std.proofs.Common.{◌≡◌, ℕ, sym, ap, ◌∙◌}
use Rattle.rc_tuple.proofs.Imports.{eqb-true, eq-eqb, columns_of, mask_of, mask_of-columns_of}
use Rattle.rc_tuple.proofs.col_set.ColSet.equals.Goals as goal

same_masks : (a b : ℕ) → columns_of a ≡ columns_of b → mask_of (columns_of a) ≡ a → mask_of (columns_of b) ≡ b → a ≡ b
same_masks a b e f g = sym f ∙ ap mask_of e ∙ g

pub returns : goal.returns
returns c = (
  (λ h. sym c.self.view_is ∙ ap columns_of (eqb-true c.self.inside.mask c.other.inside.mask h) ∙ c.other.view_is),
  (λ e. eq-eqb c.self.inside.mask c.other.inside.mask
      (same_masks c.self.inside.mask c.other.inside.mask (c.self.view_is ∙ e ∙ sym c.other.view_is)
      (mask_of-columns_of c.self.inside.mask c.self.invariant) (mask_of-columns_of c.other.inside.mask c.other.invariant))),
)
