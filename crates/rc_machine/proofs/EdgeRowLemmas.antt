-- The row of an edge with the values of source and key that a tuple has, and no other.
use Rattle.std.specs.Prelude.{◌≡◌, ℕ, ◌<◌, ◌==◌, ◌++◌, Bool, true, false, List, [], ◌∷◌, None, Option, Some, cond, length, map, unwrap_or}
use Rattle.rc_machine.proofs.Imports.{zip, is_some, option_copied, nat_cmp, cases_Bool, eq-eqb, eqb-true, false≢true, none-some, In, IsRising, has_in, in_has, in_map, map_in, rising_filter, same_rising, IsColSet, Within, has, rank, union, in_union, minus_in, rank_within, slice_get-rank, union_left, union_right, value_in, IsTuple, Pairs, cols_of, get, merge, pair_cmp, pick, project, value, cols-project, cols_of-zip, in_project, one_pair, pair_order, project_by, project_in, rising_cols, rising_pairs, Spec, IsSealed, edge_at, source_and_key, EdgeRow, get-project, get_of, zip_there, IsThereWith, shape_of, parted_edge, IsParted, extra_columns, values_at, extra_set, extra_within, row_of_parts, zip_values, EdgeShape}
use Rattle.std.proofs.Common.{Bor, get_or, inl, inr, refl, sym, ap, subst, ◌∙◌, arith}
use Rattle.rc_machine.proofs.SeekLemmas.{same_projected}

-- ---- values at columns

get_some : (t : Pairs) (c : ℕ) → In c (cols_of t) → (v : ℕ) × (get t c ≡ Some v)
get_some [] c m = absurd m
get_some (p ∷ t) c m = go (p.0 == c) refl m (get_some t c)
  where
    go : (b : Bool) → (p.0 == c) ≡ b → In c (cols_of (p ∷ t)) → (In c (cols_of t) → (v : ℕ) × (get t c ≡ Some v)) → (v : ℕ) × (cond b (Some p.1) (get t c) ≡ Some v)
    go true e m rest = (p.1, refl)
    go false e (inl is) rest = absurd (false≢true (sym e ∙ eq-eqb p.0 c (sym is)))
    go false e (inr n) rest = rest n

pub get_none : (t : Pairs) (c : ℕ) → (In c (cols_of t) → ⊥) → get t c ≡ None
get_none [] c n = refl
get_none (p ∷ t) c n = go (p.0 == c) refl (get_none t c (λ m. n (inr m)))
  where
    go : (b : Bool) → (p.0 == c) ≡ b → get t c ≡ None → cond b (Some p.1) (get t c) ≡ None
    go true e rest = absurd (n (inl (sym (eqb-true p.0 c e))))
    go false e rest = rest

pub get_first : (t others : Pairs) (c v : ℕ) → get t c ≡ Some v → get (t ++ others) c ≡ Some v
get_first [] others c v e = absurd (none-some v e)
get_first (p ∷ t) others c v e = go (p.0 == c) e (get_first t others c v)
  where
    go : (b : Bool) → cond b (Some p.1) (get t c) ≡ Some v → (get t c ≡ Some v → get (t ++ others) c ≡ Some v) → cond b (Some p.1) (get (t ++ others) c) ≡ Some v
    go true e rest = e
    go false e rest = rest e

pub get_second : (t others : Pairs) (c : ℕ) → get t c ≡ None → get (t ++ others) c ≡ get others c
get_second [] others c e = refl
get_second (p ∷ t) others c e = go (p.0 == c) e (get_second t others c)
  where
    go : (b : Bool) → cond b (Some p.1) (get t c) ≡ None → (get t c ≡ None → get (t ++ others) c ≡ get others c) → cond b (Some p.1) (get (t ++ others) c) ≡ get others c
    go true e rest = absurd (none-some p.1 (sym e))
    go false e rest = rest e

-- tuples with the same values at the outputs
picked_alike : (outs : List ℕ) (t u : Pairs) → ((c : ℕ) → In c outs → get t c ≡ get u c) → pick outs t ≡ pick outs u
picked_alike [] t u same = refl
picked_alike (c ∷ outs) t u same =
    let here : value t c ≡ value u c = ap (λ (o : Option ℕ). unwrap_or o 0) (same c (inl refl)) in
    let others : pick outs t ≡ pick outs u = picked_alike outs t u (λ d m. same d (inr m)) in
    λ i. here i ∷ others i

-- ---- the value at a column: the next of the extra values, or else the tuple's

pub value_extra : (extra values : List ℕ) (t : Pairs) (c : ℕ) → IsColSet extra → length values ≡ length extra → has extra c ≡ true → get_or values (rank extra c) 0 ≡ value (zip extra values ++ t) c
value_extra extra values t c set fits there =
    let place : ℕ = rank extra c in
    let within : place < length extra = rank_within extra c set there in
    let pair = zip_there extra values place c (slice_get-rank extra c set there) (omega (arith, within, fits)) in
    let rises : IsRising nat_cmp _ = subst (IsRising nat_cmp) (sym (cols_of-zip extra values fits)) set.rising in
    sym (ap (λ (o : Option ℕ). unwrap_or o 0) (get_first (zip extra values) t c (get_or values place 0) (get_of (zip extra values) (c, get_or values place 0) rises pair)))

pub value_other : (extra values : List ℕ) (t : Pairs) (c : ℕ) → length values ≡ length extra → has extra c ≡ false → unwrap_or (get t c) 0 ≡ value (zip extra values ++ t) c
value_other extra values t c fits none =
    let nowhere = get_none (zip extra values) c (λ m. false≢true (sym none ∙ has_in extra c (subst (In c) (cols_of-zip extra values fits) m))) in
    ap (λ (o : Option ℕ). unwrap_or o 0) (sym (get_second (zip extra values) t c nowhere))

-- ---- what a look-up told

pub values_told : (found : Option (Bor (List ℕ))) → is_some found ≡ true → (values : List ℕ) × (option_copied found ≡ Some values)
values_told None e = absurd (false≢true e)
values_told (Some values) e = (values.now, refl)

pub nothing_told : (found : Option (Bor (List ℕ))) → is_some found ≡ false → option_copied found ≡ None
nothing_told None e = refl
nothing_told (Some values) e = absurd (false≢true (sym e))

-- ---- the values at a tuple's columns, and the tuple that they give

-- the values at columns that a tuple has
pub pick_values : (ys : List ℕ) (t : Pairs) → IsRising nat_cmp ys → IsRising nat_cmp (cols_of t) → Within ys (cols_of t) → pick ys t ≡ values_at ys t
pick_values ys t rises up within =
    let pairs : Pairs = map (λ c. (c, value t c)) ys in
    let same : pairs ≡ project ys t =
    same_rising pair_cmp pair_order pairs (project ys t) (rising_cols pairs (subst (IsRising nat_cmp) (sym (firsts ys)) rises)) (rising_filter pair_cmp (λ (p : ℕ × ℕ). has ys p.0) t (rising_cols t up))
    (λ p m. let q : (c : ℕ) × In c ys × (p ≡ (c, value t c)) = in_map (λ c. let z : ℕ × ℕ = (c, value t c) in z) p ys m in
    subst (λ (z : ℕ × ℕ). In z (project ys t)) (sym q.2) (project_in ys (q.0, value t q.0) t (value_in t q.0 (within q.0 q.1)) q.1))
    (λ p m. let q : In p t × In p.0 ys = in_project ys p t m in
    subst (λ (z : ℕ × ℕ). In z pairs) (one_pair t up (p.0, value t p.0) p (value_in t p.0 (within p.0 q.1)) q.0 refl) (map_in (λ c. let z : ℕ × ℕ = (c, value t c) in z) p.0 ys q.1)) in
    seconds ys ∙ ap (map (λ (p : ℕ × ℕ). p.1)) same
  where
    firsts : (ys : List ℕ) → cols_of (map (λ c. (c, value t c)) ys) ≡ ys
    firsts [] = refl
    firsts (c ∷ ys) = ap (λ l. c ∷ l) (firsts ys)

    seconds : (ys : List ℕ) → pick ys t ≡ map (λ (p : ℕ × ℕ). p.1) (map (λ c. (c, value t c)) ys)
    seconds [] = refl
    seconds (c ∷ ys) = ap (λ l. value t c ∷ l) (seconds ys)

-- ---- a row with the values of source and key of a tuple that has these at least

module _ (spec : Spec) (sealed : IsSealed spec) (e : ℕ) (known : e < length spec.edges) (s : Pairs) (tuple : IsTuple s) (given : Within (source_and_key spec (edge_at spec e)) (cols_of s)) where
  abbrev edge_shape : EdgeShape
  edge_shape = shape_of spec e

  edge_parted : IsParted edge_shape
  edge_parted = parted_edge spec sealed e known

  pub has_source : Within edge_shape.source (cols_of s)
  has_source c m = given c (union_left edge_shape.source edge_shape.key c m)

  pub has_key : Within edge_shape.key (cols_of s)
  has_key c m = given c (union_right edge_shape.source edge_shape.key c m)

  module _ (rows : List EdgeRow) (u : Pairs) (found : IsThereWith edge_shape rows e (values_at edge_shape.source s) (values_at edge_shape.key s) u) (columns : cols_of u ≡ edge_shape.target) where
    same_at : (ys : List ℕ) → IsColSet ys → Within ys edge_shape.target → Within ys (cols_of s) → values_at ys u ≡ values_at ys s → project ys u ≡ project ys s
    same_at ys set w v is = same_projected ys u s set (subst (IsRising nat_cmp) (sym columns) edge_parted.target.rising) tuple.rising (λ c m. subst (In c) (sym columns) (w c m)) v is

    pub same : project (source_and_key spec (edge_at spec e)) u ≡ project (source_and_key spec (edge_at spec e)) s
    same = project_by (source_and_key spec (edge_at spec e)) u s (rising_cols u (subst (IsRising nat_cmp) (sym columns) edge_parted.target.rising)) (rising_pairs s tuple)
        (λ c m. elim (in_union edge_shape.source edge_shape.key c m) [
          | inl n ↦ (edge_shape.source, n, same_at edge_shape.source edge_parted.source edge_parted.source_within has_source found.source_is)
          | inr n ↦ (edge_shape.key, n, same_at edge_shape.key edge_parted.key edge_parted.key_within has_key found.key_is)
        ])

    extra_columns_of : cols_of (project (extra_columns edge_shape) u) ≡ extra_columns edge_shape
    extra_columns_of = cols-project edge_shape.target (extra_columns edge_shape) u edge_parted.target.rising (extra_set edge_shape edge_parted).rising (extra_within edge_shape edge_parted) columns

    -- its values are the extra ones, and the tuple's
    get_found : (c : ℕ) → In c edge_shape.target → get u c ≡ get (project (extra_columns edge_shape) u ++ s) c
    get_found c m = elim (cases_Bool (has (extra_columns edge_shape) c)) [
      | inl y ↦ (let v : (v : ℕ) × (get (project (extra_columns edge_shape) u) c ≡ Some v) =
          get_some (project (extra_columns edge_shape) u) c (subst (In c) (sym extra_columns_of) (in_has (extra_columns edge_shape) c y)) in
          sym (get-project (extra_columns edge_shape) u c y) ∙ v.1 ∙ sym (get_first (project (extra_columns edge_shape) u) s c v.0 v.1))
      | inr n ↦ (let there : has (source_and_key spec (edge_at spec e)) c ≡ true = not_extra c m n in
          sym (get-project (source_and_key spec (edge_at spec e)) u c there) ∙ ap (λ z. get z c) same ∙ get-project (source_and_key spec (edge_at spec e)) s c there
          ∙ sym (get_second (project (extra_columns edge_shape) u) s c (get_none (project (extra_columns edge_shape) u) c (λ k. false≢true (sym n ∙ has_in (extra_columns edge_shape) c (subst (In c) extra_columns_of k))))))
    ]
      where
        not_extra : (c : ℕ) → In c edge_shape.target → has (extra_columns edge_shape) c ≡ false → has (source_and_key spec (edge_at spec e)) c ≡ true
        not_extra c m n = elim (cases_Bool (has (source_and_key spec (edge_at spec e)) c)) [
          | inl y ↦ y
          | inr k ↦ absurd (false≢true (sym n ∙ has_in (extra_columns edge_shape) c
              (minus_in edge_shape.target (union edge_shape.source edge_shape.key) c m (λ z. false≢true (sym k ∙ has_in (source_and_key spec (edge_at spec e)) c z)))))
        ]

    pub picked : (outs : List ℕ) → Within outs edge_shape.target → (values : List ℕ) → values_at (extra_columns edge_shape) u ≡ values → pick outs u ≡ pick outs (zip (extra_columns edge_shape) values ++ s)
    picked outs within values is =
        picked_alike outs u (project (extra_columns edge_shape) u ++ s) (λ c m. get_found c (within c m))
        ∙ ap (λ z. pick outs (z ++ s)) (sym (zip_values edge_shape.target (extra_columns edge_shape) u edge_parted.target.rising (extra_set edge_shape edge_parted).rising (extra_within edge_shape edge_parted) columns) ∙ ap (zip (extra_columns edge_shape)) is)

    -- so the row is made of the tuple's values at source and key and of the extra ones
    pub completed_is : (values : List ℕ) → values_at (extra_columns edge_shape) u ≡ values → merge (project (source_and_key spec (edge_at spec e)) s) (zip (extra_columns edge_shape) values) ≡ u
    completed_is values is =
        ap (λ z. merge z (zip (extra_columns edge_shape) values)) (sym same)
        ∙ ap (λ z. merge (project (source_and_key spec (edge_at spec e)) u) (zip (extra_columns edge_shape) z)) (sym is)
        ∙ row_of_parts edge_shape edge_parted u columns

-- ---- a tuple that has these and no others

module _ (spec : Spec) (sealed : IsSealed spec) (e : ℕ) (known : e < length spec.edges) (s : Pairs) (tuple : IsTuple s) (whole : cols_of s ≡ source_and_key spec (edge_at spec e)) where
  pub these_given : Within (source_and_key spec (edge_at spec e)) (cols_of s)
  these_given c m = subst (In c) (sym whole) m

  -- they are of the edge's target
  pub inside : Within (cols_of s) (shape_of spec e).target
  inside c m =
      let parted : IsParted (shape_of spec e) = parted_edge spec sealed e known in
      elim (in_union (shape_of spec e).source (shape_of spec e).key c (subst (In c) whole m)) [ inl n ↦ parted.source_within c n | inr n ↦ parted.key_within c n ]

  -- and the row has all of its values
  pub same_all : (rows : List EdgeRow) (u : Pairs) → IsThereWith (shape_of spec e) rows e (values_at (shape_of spec e).source s) (values_at (shape_of spec e).key s) u → cols_of u ≡ (shape_of spec e).target
      → project (cols_of s) u ≡ project (cols_of s) s
  same_all rows u found columns = subst (λ cols. project cols u ≡ project cols s) (sym whole) (same spec sealed e known s tuple these_given rows u found columns)
