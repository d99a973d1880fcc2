-- A row over its edge's columns is determined by its values at source, key and the extra columns.
use Rattle.std.specs.Prelude.{◌≡◌, ℕ, suc, List, [], ◌∷◌, map, length}
use Rattle.rc_fragment.specs.Imports.{zip, nat_cmp, In, IsRising, gather-rising, rising_filter, in_has, has_in, IsColSet, Within, has, union, union_left, union_right, in_minus, minus_in, IsColSet-filter, Pairs, cols_of, project, merge, pair_cmp, pair_order, cols-project, rising_cols, project_all, merge-merge}
use Rattle.std.proofs.Common.{refl, sym, ap, subst, ◌∙◌, inl, inr}
use Rattle.std.proofs.lemmas.Bool.{false≢true, cases_Bool}
use Rattle.rc_fragment.specs.RowValues.{values_at, extra_columns, row_from, HasValues, IsParted}
use Rattle.rc_fragment.specs.declared.shape.EdgeShape.{EdgeShape}

-- ---- columns and values

pub zip_pairs : (t : Pairs) → zip (cols_of t) (map (λ p. p.1) t) ≡ t
zip_pairs [] = refl
zip_pairs (p ∷ t) = ap (λ l. p ∷ l) (zip_pairs t)

-- a projection is its columns with its values
pub zip_values : (columns cols : List ℕ) (t : Pairs) → IsRising nat_cmp columns → IsRising nat_cmp cols → Within cols columns → cols_of t ≡ columns → zip cols (values_at cols t) ≡ project cols t
zip_values columns cols t r s w over = ap (λ z. zip z (values_at cols t)) (sym (cols-project columns cols t r s w over)) ∙ zip_pairs (project cols t)

pub length_values : (columns cols : List ℕ) (t : Pairs) → IsRising nat_cmp columns → IsRising nat_cmp cols → Within cols columns → cols_of t ≡ columns → length (values_at cols t) ≡ length cols
length_values columns cols t r s w over =
    length_seconds (project cols t) ∙ ap length (cols-project columns cols t r s w over)
  where
    length_seconds : (t : Pairs) → length (map (λ (p : ℕ × ℕ). p.1) t) ≡ length (cols_of t)
    length_seconds [] = refl
    length_seconds (p ∷ t) = ap suc (length_seconds t)

pub zip_from_values : (columns cols vals : List ℕ) (t : Pairs) → IsRising nat_cmp columns → IsRising nat_cmp cols → Within cols columns → cols_of t ≡ columns → values_at cols t ≡ vals → project cols t ≡ zip cols vals
zip_from_values columns cols vals t r s w over e = sym (zip_values columns cols t r s w over) ∙ ap (zip cols) e

-- rows over the same columns with the same values have the same projection
pub same_projection : (columns cols : List ℕ) (t u : Pairs) → IsRising nat_cmp columns → IsRising nat_cmp cols → Within cols columns → cols_of t ≡ columns → cols_of u ≡ columns
    → values_at cols t ≡ values_at cols u → project cols t ≡ project cols u
same_projection columns cols t u r s w a b e = sym (zip_values columns cols t r s w a) ∙ ap (zip cols) e ∙ zip_values columns cols u r s w b

-- ---- source, key and extra columns part the target's

module _ (shape : EdgeShape) (parted : IsParted shape) where
  pub extra_set : IsColSet (extra_columns shape)
  extra_set = IsColSet-filter _ shape.target parted.target

  pub extra_within : Within (extra_columns shape) shape.target
  extra_within c m = (in_minus shape.target (union shape.source shape.key) c m).0

  all_columns : Within shape.target (union (union shape.source shape.key) (extra_columns shape))
  all_columns c m = elim (cases_Bool (has (union shape.source shape.key) c)) [
    | inl e ↦ union_left (union shape.source shape.key) (extra_columns shape) c (in_has (union shape.source shape.key) c e)
    | inr e ↦ union_right (union shape.source shape.key) (extra_columns shape) c (minus_in shape.target (union shape.source shape.key) c m (λ n. false≢true (sym e ∙ has_in (union shape.source shape.key) c n)))
  ]

  rising_row : (t : Pairs) → cols_of t ≡ shape.target → IsRising pair_cmp t
  rising_row t over = rising_cols t (subst (IsRising nat_cmp) (sym over) parted.target.rising)

  merge_first : (t : Pairs) → IsRising pair_cmp t → merge [] t ≡ t
  merge_first t r = gather-rising pair_cmp pair_order t r

  -- a row over the target's columns is the one with its values
  pub row_from_values : (t : Pairs) → cols_of t ≡ shape.target → row_from shape (values_at shape.source t) (values_at shape.key t) (values_at (extra_columns shape) t) ≡ t
  row_from_values t over =
      let S : List ℕ = shape.source in
      let K : List ℕ = shape.key in
      let X : List ℕ = extra_columns shape in
      let r : IsRising pair_cmp t = rising_row t over in
      let a : zip S (values_at S t) ≡ project S t = zip_values shape.target S t parted.target.rising parted.source.rising parted.source_within over in
      let b : zip K (values_at K t) ≡ project K t = zip_values shape.target K t parted.target.rising parted.key.rising parted.key_within over in
      let d : zip X (values_at X t) ≡ project X t = zip_values shape.target X t parted.target.rising extra_set.rising extra_within over in
      let first : merge [] (project S t) ≡ project S t = merge_first (project S t) (rising_filter pair_cmp (λ (p : ℕ × ℕ). has S p.0) t r) in
      let whole : merge [] (project (union (union S K) X) t) ≡ t =
      ap (merge []) (project_all (union (union S K) X) t r (λ c m. all_columns c (subst (In c) over m))) ∙ merge_first t r in
      (λ i. merge (merge (a i) (b i)) (d i)) ∙ ap (λ z. merge (merge z (project K t)) (project X t)) (sym first)
      ∙ ap (λ z. merge z (project X t)) (merge-merge [] t S K) ∙ merge-merge [] t (union S K) X ∙ whole

  -- and is made of its part at source and key and of its extra values
  pub row_of_parts : (u : Pairs) → cols_of u ≡ shape.target
      → merge (project (union shape.source shape.key) u) (zip (extra_columns shape) (values_at (extra_columns shape) u)) ≡ u
  row_of_parts u over =
      let S : List ℕ = shape.source in
      let K : List ℕ = shape.key in
      let part : (ys : List ℕ) → IsRising pair_cmp (project ys u) = λ ys. rising_filter pair_cmp (λ (p : ℕ × ℕ). has ys p.0) u (rising_row u over) in
      let first : merge [] (project S u) ≡ project S u = merge_first (project S u) (part S) in
      let both : merge [] (project (union S K) u) ≡ project (union S K) u = merge_first (project (union S K) u) (part (union S K)) in
      let two : project (union S K) u ≡ merge (zip S (values_at S u)) (zip K (values_at K u)) =
      sym both ∙ sym (merge-merge [] u S K) ∙ ap (λ z. merge z (project K u)) first
      ∙ (λ i. merge (sym (zip_values shape.target S u parted.target.rising parted.source.rising parted.source_within over) i) (sym (zip_values shape.target K u parted.target.rising parted.key.rising parted.key_within over) i)) in
      ap (λ z. merge z (zip (extra_columns shape) (values_at (extra_columns shape) u))) two ∙ row_from_values u over

  pub same_source : (t u : Pairs) → cols_of t ≡ shape.target → cols_of u ≡ shape.target → values_at shape.source t ≡ values_at shape.source u → project shape.source t ≡ project shape.source u
  same_source t u a b e = same_projection shape.target shape.source t u parted.target.rising parted.source.rising parted.source_within a b e

  pub same_key : (t u : Pairs) → cols_of t ≡ shape.target → cols_of u ≡ shape.target → values_at shape.key t ≡ values_at shape.key u → project shape.key t ≡ project shape.key u
  same_key t u a b e = same_projection shape.target shape.key t u parted.target.rising parted.key.rising parted.key_within a b e

  -- what is kept of a row over the target's columns
  pub values_of_row : (t : Pairs) → cols_of t ≡ shape.target → HasValues shape (row_from shape (values_at shape.source t) (values_at shape.key t) (values_at (extra_columns shape) t))
      (values_at shape.source t) (values_at shape.key t) (values_at (extra_columns shape) t)
  values_of_row t over = subst (λ z. HasValues shape z (values_at shape.source t) (values_at shape.key t) (values_at (extra_columns shape) t)) (sym (row_from_values t over))
      record { columns = over; source_is = refl; key_is = refl; extra_is = refl }
