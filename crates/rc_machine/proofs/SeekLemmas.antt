-- Rows by their values, as containers answer them, are rows that bindings take.
use Rattle.std.specs.Prelude.{◌≡◌, ◌⊎◌, ℕ, ◌<◌, List, [], length}
use Rattle.rc_machine.proofs.Imports.{zip, nat_cmp, cases_Bool, false≢true, In, IsRising, has_in, in_append, in_has, map_in, append_in_left, append_in_right, IsColSet, Within, has, union, in_minus, in_union, minus_in, union_left, union_right, IsTuple, Pairs, cols_of, project, in_project, project_in, Spec, IsSealed, BindingList, IsGivenBy, IsRowWith, OneBinding, TakesRows, given, shape_of, parted_edge, IsParted, extra_columns, values_at, extra_set, extra_within, length_values, zip_values, EdgeShape, ReadMode, IsReader, TakesMerges}
use Rattle.std.proofs.Common.{inl, inr, refl, sym, ap, subst, ◌∙◌}

-- tuples with the same values at columns that both have agree there
pub same_projected : (cols : List ℕ) (t u : Pairs) → IsColSet cols → IsRising nat_cmp (cols_of t) → IsRising nat_cmp (cols_of u) → Within cols (cols_of t) → Within cols (cols_of u)
    → values_at cols t ≡ values_at cols u → project cols t ≡ project cols u
same_projected cols t u set r s v w e =
    sym (zip_values (cols_of t) cols t r set.rising v refl) ∙ ap (zip cols) e ∙ zip_values (cols_of u) cols u s set.rising w refl

module _ (spec : Spec) (sealed : IsSealed spec) (e : ℕ) (known : e < length spec.edges) where
  abbrev pub shape : EdgeShape
  shape = shape_of spec e

  abbrev pub extra_of : List ℕ
  extra_of = extra_columns shape

  pub parted : IsParted shape
  parted = parted_edge spec sealed e known

  -- a column of the target is the source's, the key's or one of the extra ones
  part_of : (c : ℕ) → In c shape.target → In c shape.source ⊎ (In c shape.key ⊎ In c extra_of)
  part_of c m = elim (cases_Bool (has (union shape.source shape.key) c)) [
    | inl y ↦ elim (in_union shape.source shape.key c (in_has (union shape.source shape.key) c y)) [ inl n ↦ inl n | inr n ↦ inr (inl n) ]
    | inr n ↦ inr (inr (minus_in shape.target (union shape.source shape.key) c m (λ k. false≢true (sym n ∙ has_in (union shape.source shape.key) c k))))
  ]

  -- ---- the list takes such rows

  module _ (b : OneBinding) (found : BindingList) (takes : TakesMerges spec e b found) (own : cols_of b.tuple ≡ b.columns) (mode : ReadMode) (reader : IsReader spec e mode b.tuple) where
    of_target : (c : ℕ) → In c shape.target → In c found.columns
    of_target c m = subst (In c) (sym takes.columns) (union_right b.columns shape.target c m)

    of_binding : Within b.columns found.columns
    of_binding c m = subst (In c) (sym takes.columns) (union_left b.columns shape.target c m)

    of_parts : (c : ℕ) → In c found.columns → In c b.columns ⊎ (In c shape.key ⊎ In c extra_of)
    of_parts c m = elim (in_union b.columns shape.target c (subst (In c) takes.columns m)) [
      | inl n ↦ inl n
      | inr n ↦ elim (part_of c n) [ inl s ↦ inl (subst (In c) own (reader.source c s)) | inr k ↦ inr k ]
    ]

    not_both : (c : ℕ) → In c shape.key → In c extra_of → ⊥
    not_both c k x = (in_minus shape.target (union shape.source shape.key) c x).1 (union_right shape.source shape.key c k)

    pub takes_rows : TakesRows b shape.key extra_of found
    takes_rows = record {
      width = takes.width;
      old_within = of_binding;
      key_within = λ c m. of_target c (parted.key_within c m);
      extra_within = λ c m. of_target c (extra_within shape parted c m);
      parts = λ c m. elim (of_parts c m) [
        | inl n ↦ inl n
        | inr (inl n) ↦ inr (append_in_left c shape.key extra_of n)
        | inr (inr n) ↦ inr (append_in_right c shape.key extra_of n)
      ];
      apart = not_both;
    }

    -- where the binding has the key, the extra columns alone
    pub takes_extra : Within shape.key (cols_of b.tuple) → TakesRows b [] extra_of found
    takes_extra keyed = record {
      width = takes.width;
      old_within = of_binding;
      key_within = λ c m. absurd m;
      extra_within = λ c m. of_target c (extra_within shape parted c m);
      parts = λ c m. elim (of_parts c m) [
        | inl n ↦ inl n
        | inr (inl n) ↦ inl (subst (In c) own (keyed c n))
        | inr (inr n) ↦ inr n
      ];
      apart = λ c m n. m;
    }

  -- ---- the rows are such

  pub length_extra : (u : Pairs) → cols_of u ≡ shape.target → length (values_at extra_of u) ≡ length extra_of
  length_extra u over = length_values shape.target extra_of u parted.target.rising (extra_set shape parted).rising (extra_within shape parted) over

  -- a row over the target's columns that has the binding's values at the source's
  module _ (b u : Pairs) (tuple : IsTuple b) (over : cols_of u ≡ shape.target) (has_source : Within shape.source (cols_of b)) (by_source : values_at shape.source u ≡ values_at shape.source b) where
    same_values : (cols : List ℕ) → IsColSet cols → Within cols shape.target → Within cols (cols_of b) → values_at cols u ≡ values_at cols b → project cols u ≡ project cols b
    same_values cols set v w e =
        same_projected cols u b set (subst (IsRising nat_cmp) (sym over) parted.target.rising) tuple.rising (λ c m. subst (In c) (sym over) (v c m)) w e

    same_source : project shape.source u ≡ project shape.source b
    same_source = same_values shape.source parted.source parted.source_within has_source by_source

    part_of_pair : (p : ℕ × ℕ) → In p u → In p.0 shape.source ⊎ (In p.0 shape.key ⊎ In p.0 extra_of)
    part_of_pair p m = part_of p.0 (subst (In p.0) over (map_in (λ (q : ℕ × ℕ). q.0) p u m))

    at_key : zip shape.key (values_at shape.key u) ≡ project shape.key u
    at_key = zip_values shape.target shape.key u parted.target.rising parted.key.rising parted.key_within over

    at_extra : zip extra_of (values_at extra_of u) ≡ project extra_of u
    at_extra = zip_values shape.target extra_of u parted.target.rising (extra_set shape parted).rising (extra_within shape parted) over

    given_key : (p : ℕ × ℕ) → In p u → In p.0 shape.key → In p (zip shape.key (values_at shape.key u))
    given_key p m n = subst (In p) (sym at_key) (project_in shape.key p u m n)

    given_extra : (p : ℕ × ℕ) → In p u → In p.0 extra_of → In p (zip extra_of (values_at extra_of u))
    given_extra p m n = subst (In p) (sym at_extra) (project_in extra_of p u m n)

    of_source : (p : ℕ × ℕ) → In p u → In p.0 shape.source → In p b
    of_source p m n = (in_project shape.source p b (subst (In p) same_source (project_in shape.source p u m n))).0

    of_extra : (p : ℕ × ℕ) → In p (zip extra_of (values_at extra_of u)) → In p u
    of_extra p m = (in_project extra_of p u (subst (In p) at_extra m)).0

    -- a row that is found by its source and key
    pub row_looked_up : Within shape.key (cols_of b) → values_at shape.key u ≡ values_at shape.key b → IsRowWith b (given [] [] extra_of (values_at extra_of u)) u
    row_looked_up has_key by_key =
        let same_key : project shape.key u ≡ project shape.key b = same_values shape.key parted.key parted.key_within has_key by_key in
        record {
          has = of_extra;
          only = λ p m. elim (part_of_pair p m) [
            | inl n ↦ inl (of_source p m n)
            | inr (inl n) ↦ inl (in_project shape.key p b (subst (In p) same_key (project_in shape.key p u m n))).0
            | inr (inr n) ↦ inr (given_extra p m n)
          ];
        }

    -- a row that is found by its source
    pub row_scanned : IsGivenBy b shape.key extra_of u
    row_scanned =
        let keys = zip shape.key (values_at shape.key u) in
        let extras = zip extra_of (values_at extra_of u) in
        record {
          keys = length_values shape.target shape.key u parted.target.rising parted.key.rising parted.key_within over;
          extras = length_extra u over;
          with = record {
            has = λ p m. elim (in_append p keys extras m) [
              | inl n ↦ (in_project shape.key p u (subst (In p) at_key n)).0
              | inr n ↦ of_extra p n
            ];
            only = λ p m. elim (part_of_pair p m) [
              | inl n ↦ inl (of_source p m n)
              | inr (inl n) ↦ inr (append_in_left p keys extras (given_key p m n))
              | inr (inr n) ↦ inr (append_in_right p keys extras (given_extra p m n))
            ];
          };
        }
