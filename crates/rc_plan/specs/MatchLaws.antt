-- Laws of what a search finds: where the visited columns hold the pattern, its bindings are the projections of the matching tuples.
use Rattle.std.specs.Prelude.{◌≡◌, ℕ, true, List, [], ◌∷◌, filter, map}
use Rattle.rc_plan.specs.Imports.{nat_cmp, In, IsRising, same_rising, same_gather, rising_filter, in_filter, filter_in, in_map, map_in, number_lists_order, has, Within, Pairs, cols_of, value, project, pick, pair_cmp, tuple_cmp, merge, matches, Agree, pair_order, tuple_order, in_project, project_in, in_merge, merge_right, rising_merge, one_pair, same_from_test, test_from_same, value-project, project_all, IsRelation, rising_of, IsSeen, row_cmp, at_most, range_column, in_ranges, is_asked, in_ranges-project, Range}
use Rattle.std.proofs.Common.{inl, inr, refl, sym, ap, subst, ◌∙◌}
use Rattle.std.proofs.lemmas.Bool.{and_from, and_parts}
use Rattle.rc_plan.specs.Evaluation.{answer}

pub pick-project : (xs outs : List ℕ) (t : Pairs) → Within outs xs → pick outs (project xs t) ≡ pick outs t
pick-project xs [] t w = refl
pick-project xs (o ∷ outs) t w =
    let e : value (project xs t) o ≡ value t o = value-project xs t o (w o (inl refl)) in
    let f : pick outs (project xs t) ≡ pick outs t = pick-project xs outs t (λ c h. w c (inr h)) in λ i. e i ∷ f i

-- ---- agreement with a pattern

-- a tuple that agrees with s on columns that hold those of s matches it
agreeing_matches : (columns xs : List ℕ) (s t : Pairs) → IsRising pair_cmp s → IsRising pair_cmp t → cols_of t ≡ columns → Within (cols_of s) columns → Within (cols_of s) xs → Agree s (project xs t)
    → project (cols_of s) t ≡ s
agreeing_matches columns xs s t a b e u w f =
    same_rising pair_cmp pair_order (project (cols_of s) t) s (rising_filter pair_cmp (λ (p : ℕ × ℕ). has (cols_of s) p.0) t b) a
    (λ p h.
    let m : In p t × In p.0 (cols_of s) = in_project (cols_of s) p t h in
    let q : (q : ℕ × ℕ) × In q s × (p.0 ≡ q.0) = in_map (λ (q : ℕ × ℕ). q.0) p.0 s m.1 in
    subst (λ z. In z s) (f q.0 p q.1 (project_in xs p t m.0 (w p.0 m.1)) (sym q.2)) q.1)
    (λ p h.
    let c : In p.0 (cols_of s) = map_in (λ (q : ℕ × ℕ). q.0) p s h in
    let q : (q : ℕ × ℕ) × In q t × (p.0 ≡ q.0) = in_map (λ (q : ℕ × ℕ). q.0) p.0 t (subst (In p.0) (sym e) (u p.0 c)) in
    let g : p ≡ q.0 = f p q.0 h (project_in xs q.0 t q.1 (subst (λ z. In z xs) q.2 (w p.0 c))) q.2 in
    project_in (cols_of s) p t (subst (λ z. In z t) (sym g) q.1) c)

pub matching_agrees : (xs : List ℕ) (s t : Pairs) → IsRising nat_cmp (cols_of t) → project (cols_of s) t ≡ s → Agree s (project xs t)
matching_agrees xs s t b e p q h k c = one_pair t b p q (in_project (cols_of s) p t (subst (In p) (sym e) h)).0 (in_project xs q t k).0 c

-- s adds nothing to the projection of a tuple that matches it
merge-matching : (xs : List ℕ) (s t : Pairs) → IsRising pair_cmp t → Within (cols_of s) xs → project (cols_of s) t ≡ s → merge s (project xs t) ≡ project xs t
merge-matching xs s t b w e =
    same_rising pair_cmp pair_order (merge s (project xs t)) (project xs t) (rising_merge s (project xs t)) (rising_filter pair_cmp (λ (p : ℕ × ℕ). has xs p.0) t b)
    (λ p h. elim (in_merge s (project xs t) p h) [
      | inl m ↦ let q : In p t × In p.0 (cols_of s) = in_project (cols_of s) p t (subst (In p) (sym e) m) in project_in xs p t q.0 (w p.0 q.1)
      | inr m ↦ m
    ])
    (λ p h. merge_right s (project xs t) p h)

-- ---- the bindings

module _ (columns : List ℕ) (o : IsRising nat_cmp columns) (r : List Pairs) (i : IsRelation columns r) (s : Pairs) (up : IsRising pair_cmp s) (inside : Within (cols_of s) columns) where
  pub seen_matches : (xs : List ℕ) (bs : List Pairs) → IsSeen r s xs bs → Within (cols_of s) xs → (b : Pairs) → In b bs → (t : Pairs) × In t (filter (matches s) r) × (b ≡ project xs t)
  seen_matches xs bs seen w b h =
      let q : (t : Pairs) × In t r × Agree s (project xs t) × (b ≡ merge s (project xs t)) = seen.only b h in
      let t_up : IsRising pair_cmp q.0 = rising_of columns r o i q.0 q.1 in
      let m : project (cols_of s) q.0 ≡ s = agreeing_matches columns xs s q.0 up t_up (i.each q.0 q.1).over inside w q.2 in
      (q.0, filter_in (matches s) q.0 r q.1 (test_from_same (project (cols_of s) q.0) s m), q.3 ∙ merge-matching xs s q.0 t_up w m)

  pub matches_seen : (xs : List ℕ) (bs : List Pairs) → IsSeen r s xs bs → Within (cols_of s) xs → (t : Pairs) → In t (filter (matches s) r) → In (project xs t) bs
  matches_seen xs bs seen w t h =
      let f : In t r × (matches s t ≡ true) = in_filter (matches s) t r h in
      let m : project (cols_of s) t ≡ s = same_from_test (project (cols_of s) t) s f.1 in
      subst (λ z. In z bs) (merge-matching xs s t (rising_of columns r o i t f.0) w m)
      (seen.each t f.0 (matching_agrees xs s t (subst (IsRising nat_cmp) (sym (i.each t f.0).over) o) m))

  -- and from those between the bounds of some ranges as from the tuples that match a call with these
  pub answer-asked : (most : ℕ) (ranges : List Range) (xs outs : List ℕ) (bs : List Pairs) → IsSeen r s xs bs → Within (cols_of s) xs → Within outs xs → Within (map range_column ranges) xs
      → answer most outs (filter (in_ranges ranges) bs) ≡ answer most outs (filter (is_asked s ranges) r)
  answer-asked most ranges xs outs bs seen w v z =
      ap (at_most most) (same_gather row_cmp number_lists_order (map (pick outs) (filter (in_ranges ranges) bs)) (map (pick outs) (filter (is_asked s ranges) r))
      (λ y h. let b : (b : Pairs) × In b (filter (in_ranges ranges) bs) × (y ≡ pick outs b) = in_map (pick outs) y (filter (in_ranges ranges) bs) h in
      let k : In b.0 bs × (in_ranges ranges b.0 ≡ true) = in_filter (in_ranges ranges) b.0 bs b.1 in
      let t : (t : Pairs) × In t (filter (matches s) r) × (b.0 ≡ project xs t) = seen_matches xs bs seen w b.0 k.0 in
      let m : In t.0 r × (matches s t.0 ≡ true) = in_filter (matches s) t.0 r t.1 in
      let g : in_ranges ranges t.0 ≡ true = sym (in_ranges-project ranges xs t.0 z) ∙ ap (in_ranges ranges) (sym t.2) ∙ k.1 in
      subst (λ x. In x (map (pick outs) (filter (is_asked s ranges) r))) (sym (b.2 ∙ ap (pick outs) t.2 ∙ pick-project xs outs t.0 v))
      (map_in (pick outs) t.0 (filter (is_asked s ranges) r) (filter_in (is_asked s ranges) t.0 r m.0 (and_from (matches s t.0) (in_ranges ranges t.0) m.1 g))))
      (λ y h. let t : (t : Pairs) × In t (filter (is_asked s ranges) r) × (y ≡ pick outs t) = in_map (pick outs) y (filter (is_asked s ranges) r) h in
      let k : In t.0 r × (is_asked s ranges t.0 ≡ true) = in_filter (is_asked s ranges) t.0 r t.1 in
      let m : (matches s t.0 ≡ true) × (in_ranges ranges t.0 ≡ true) = and_parts (matches s t.0) (in_ranges ranges t.0) k.1 in
      subst (λ x. In x (map (pick outs) (filter (in_ranges ranges) bs))) (pick-project xs outs t.0 v ∙ sym t.2)
      (map_in (pick outs) (project xs t.0) (filter (in_ranges ranges) bs)
      (filter_in (in_ranges ranges) (project xs t.0) bs (matches_seen xs bs seen w t.0 (filter_in (matches s) t.0 r k.0 m.0)) (in_ranges-project ranges xs t.0 z ∙ m.1)))))

  -- where all columns are visited, the bindings are the matching tuples
  pub all_seen_match : (xs : List ℕ) (bs : List Pairs) → Within columns xs → IsRising tuple_cmp bs → IsSeen r s xs bs → bs ≡ filter (matches s) r
  all_seen_match xs bs w b seen =
      same_rising tuple_cmp tuple_order bs (filter (matches s) r) b (rising_filter tuple_cmp (matches s) r i.rising)
      (λ c m. let q : (t : Pairs) × In t (filter (matches s) r) × (c ≡ project xs t) = seen_matches xs bs seen s_within c m in
      subst (λ z. In z (filter (matches s) r)) (sym (q.2 ∙ whole q.0 (in_filter (matches s) q.0 r q.1).0)) q.1)
      (λ t m. subst (λ z. In z bs) (whole t (in_filter (matches s) t r m).0) (matches_seen xs bs seen s_within t m))
    where
      s_within : Within (cols_of s) xs
      s_within c m = w c (inside c m)

      whole : (t : Pairs) → In t r → project xs t ≡ t
      whole t m = project_all xs t (rising_of columns r o i t m) (λ c n. w c (subst (In c) (i.each t m).over n))
