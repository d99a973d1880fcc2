-- Laws of ranges: of projections.
use Rattle.std.specs.Prelude.{◌≡◌, ℕ, nat_le, List, [], ◌∷◌, ◌&&◌, map}
use Rattle.std.proofs.Common.{inl, inr, refl, ap, ◌∙◌}
use Rattle.rc_spec.specs.Imports.{Within, Pairs, project, value, value-project}
use Rattle.rc_spec.specs.declared.range.Range.{Range}
use Rattle.rc_spec.specs.Ranges.{range_column, is_within_range, in_ranges}

-- a projection on columns that hold the ranges' is between the bounds where the tuple is
pub in_ranges-project : (ranges : List Range) (xs : List ℕ) (t : Pairs) → Within (map range_column ranges) xs → in_ranges ranges (project xs t) ≡ in_ranges ranges t
in_ranges-project [] xs t w = refl
in_ranges-project (range ∷ ranges) xs t w =
    let e : value (project xs t) range.col ≡ value t range.col = value-project xs t range.col (w range.col (inl refl)) in
    ap (λ v. (nat_le range.lo v && nat_le v range.hi) && in_ranges ranges (project xs t)) e
    ∙ ap (λ b. is_within_range t range && b) (in_ranges-project ranges xs t (λ c m. w c (inr m)))
