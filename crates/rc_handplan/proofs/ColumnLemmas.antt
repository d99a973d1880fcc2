-- The columns that words name, looked up one after another.
use Rattle.std.proofs.Common.{◌≡◌, ℕ, Bool, true, false, ◌||◌, cond, List, [], ◌∷◌, ◌++◌, Option, Some, None, refl, sym, ap, ◌∙◌, subst, inl, inr, append_assoc, append-nil}
use Rattle.rc_handplan.proofs.Imports.{nat_cmp, is_none, cons_option, cases_Bool, has, with_column, In, AreDistinct, gather, nat_order, in_gather, gather_in, gather_more, in_has, has_in, Spec, column_names, number_among, has_repeat, numbers_of, has_unknown, distinct_push, distinct_from_test, test_from_distinct, distinct_apart, columns_named}

-- what a word makes of the columns so far, and then the words behind it by `others`
abbrev pub columns_by : List ℕ → Option ℕ → (List ℕ → Option (List ℕ)) → Option (List ℕ)
columns_by seen None others = None
columns_by seen (Some column) others = cond (has seen column) None (others (with_column seen column))

-- what words make of the columns so far
abbrev pub columns_from : List (List ℕ) → List ℕ → List (List ℕ) → Option (List ℕ)
columns_from names seen [] = Some seen
columns_from names seen (word ∷ words) =
    columns_by seen (number_among names word) (λ next. columns_from names next words)

-- the set of some columns, if all are known and none stands twice
abbrev told : Bool → List ℕ → Option (List ℕ)
told unknown columns = cond (unknown || has_repeat columns) None (Some (gather nat_cmp columns))

told_repeated : (unknown : Bool) (columns : List ℕ) → has_repeat columns ≡ true → told unknown columns ≡ None
told_repeated true columns e = refl
told_repeated false columns e = rw e refl

-- a column that stands in front stands twice
repeated : (front : List ℕ) (column : ℕ) (others : List ℕ) → In column front
    → has_repeat (front ++ column ∷ others) ≡ true
repeated front column others m = elim (cases_Bool (has_repeat (front ++ column ∷ others))) [
  | inl e ↦ e
  | inr e ↦
      absurd (distinct_apart front (column ∷ others) (distinct_from_test (front ++ column ∷ others) e) column m (inl refl))
]

module _ (names : List (List ℕ)) where
  -- what a word that names this makes of the columns so far
  abbrev Goal : List ℕ → List ℕ → List (List ℕ) → Option ℕ → Type 0
  Goal front seen words found =
      columns_by seen found (λ next. columns_from names next words)
      ≡ told (is_none found || has_unknown names words) (front ++ cons_option found (numbers_of names words))

  new_column : (front seen : List ℕ) (column : ℕ) (words : List (List ℕ)) (twice : Bool) → AreDistinct front
      → seen ≡ gather nat_cmp front → has seen column ≡ twice
      → ((next : List ℕ) → AreDistinct next → columns_from names (gather nat_cmp next) words
      ≡ told (has_unknown names words) (next ++ numbers_of names words))
      → Goal front seen words (Some column)
  new_column front seen column words true once is e go =
      let m = in_gather nat_cmp nat_order column front (subst (In column) is (in_has seen column e)) in
      rw e (sym (told_repeated (has_unknown names words) (front ++ column ∷ numbers_of names words)
      (repeated front column (numbers_of names words) m)))
  new_column front seen column words false once is e go =
      let new : In column front → ⊥ = λ m.
      let here = has_in seen column (subst (In column) (sym is) (gather_in nat_cmp nat_order column front m)) in cc in
      let next = distinct_push front column once new in
      let set : with_column seen column ≡ gather nat_cmp (front ++ column ∷ []) =
      ap (λ (s : List ℕ). with_column s column) is ∙ sym (gather_more nat_cmp nat_order front column) in
      rw e (ap (λ (s : List ℕ). columns_from names s words) set
      ∙ go (front ++ column ∷ []) next
      ∙ ap (told (has_unknown names words)) (append_assoc front (column ∷ []) (numbers_of names words)))

  one_word : (front seen : List ℕ) (words : List (List ℕ)) (found : Option ℕ) → AreDistinct front
      → seen ≡ gather nat_cmp front
      → ((next : List ℕ) → AreDistinct next → columns_from names (gather nat_cmp next) words
      ≡ told (has_unknown names words) (next ++ numbers_of names words))
      → Goal front seen words found
  one_word front seen words None once is go = refl
  one_word front seen words (Some column) once is go =
      new_column front seen column words (has seen column) once is refl go

  from_front : (front : List ℕ) (words : List (List ℕ)) → AreDistinct front
      → columns_from names (gather nat_cmp front) words ≡ told (has_unknown names words) (front ++ numbers_of names words)
  from_front front [] once = rw (append-nil, test_from_distinct front once) refl
  from_front front (word ∷ words) once =
      one_word front (gather nat_cmp front) words (number_among names word) once refl
      (λ next distinct. from_front next words distinct)

-- from none on, they make of them what they name
pub columns_from-none : (spec : Spec) (words : List (List ℕ))
    → columns_from (column_names spec.columns) [] words ≡ columns_named spec words
columns_from-none spec words = from_front (column_names spec.columns) [] words tt
