-- Edges, and the classes that they come to, one more at a time.
use Rattle.std.specs.Prelude.{◌≡◌, ◌≢◌, ℕ, ◌+◌, ◌≤◌, ◌==◌, ◌&&◌, ◌||◌, ◌++◌, Bool, true, false, List, [], ◌∷◌, cond, filter, length, not}
use Rattle.rc_plan.specs.Imports.{fold, range_with_len, has, has-filter, range_with_len_more, Spec, class_of}
use Rattle.std.proofs.Common.{refl, sym, ap, subst, ◌∙◌, arith, zero-add}
use Rattle.std.proofs.lemmas.Bool.{eq-eqb, eqb-false, eqb-true, ne_eqb}
use Rattle.std.proofs.lemmas.List.{append-nil, length-append}
use Rattle.std.proofs.lemmas.List.Elements.{filter-append}
use Rattle.std.proofs.lemmas.List.FromFn.{length-range_with_len}
use Rattle.std.proofs.lemmas.List.Sums.{count_by-le-length, fold-append, length-filter}
use Rattle.rc_plan.specs.EdgeClasses.{classes_of, with_class}

pub fewer : {A : Type 0} (p : A → Bool) (xs : List A) → length (filter p xs) ≤ length xs
fewer p xs = subst (λ n. n ≤ length xs) (sym (length-filter p xs)) (count_by-le-length p xs)

pub edges_next : (n : ℕ) → range_with_len 0 (n + 1) ≡ range_with_len 0 n ++ n ∷ []
edges_next n = range_with_len_more 0 n ∙ ap (λ k. range_with_len 0 n ++ k ∷ []) (zero-add n)

pub filter_next : (keep : ℕ → Bool) (n : ℕ) (b : Bool) → keep n ≡ b
    → filter keep (range_with_len 0 (n + 1)) ≡ filter keep (range_with_len 0 n) ++ cond b (n ∷ []) []
filter_next keep n b is =
    ap (filter keep) (edges_next n) ∙ filter-append keep (range_with_len 0 n) (n ∷ [])
    ∙ ap (λ b. filter keep (range_with_len 0 n) ++ cond b (n ∷ []) []) is

pub count_next : (keep : ℕ → Bool) (n : ℕ) (b : Bool) → keep n ≡ b
    → length (filter keep (range_with_len 0 (n + 1))) ≡ length (filter keep (range_with_len 0 n)) + cond b 1 0
count_next keep n b is =
    ap length (filter_next keep n b is) ∙ length-append (filter keep (range_with_len 0 n)) (cond b (n ∷ []) [])
    ∙ ap (λ k. length (filter keep (range_with_len 0 n)) + k) (one b)
  where
    one : (b : Bool) → ◌≡◌ {A = ℕ} (length (cond b (n ∷ []) [])) (cond b 1 0)
    one true = refl
    one false = refl

pub few_kept : (keep : ℕ → Bool) (n : ℕ) → length (filter keep (range_with_len 0 n)) ≤ n
few_kept keep n =
    let l : length (filter keep (range_with_len 0 n)) ≤ length (range_with_len 0 n) = fewer keep (range_with_len 0 n) in
    let m : length (range_with_len 0 n) ≡ n = length-range_with_len 0 n in omega (arith, l, m)

-- the classes of one edge more
pub classes_more : (spec : Spec) (edges : List ℕ) (e : ℕ)
    → classes_of spec (edges ++ e ∷ []) ≡ with_class (classes_of spec edges) (class_of spec e)
classes_more spec edges e = fold-append (λ classes d. with_class classes (class_of spec d)) [] edges (e ∷ [])

pub classes_next : (spec : Spec) (n : ℕ)
    → classes_of spec (range_with_len 0 (n + 1)) ≡ with_class (classes_of spec (range_with_len 0 n)) (class_of spec n)
classes_next spec n = ap (classes_of spec) (edges_next n) ∙ classes_more spec (range_with_len 0 n) n

-- ---- one edge's class first

-- all but one
abbrev pub others : ℕ → List ℕ → List ℕ
others c classes = filter (λ d. not (d == c)) classes

module _ (c : ℕ) where
  -- one more comes behind the others
  others_more : (classes : List ℕ) (d : ℕ) → with_class (c ∷ others c classes) d ≡ c ∷ others c (with_class classes d)
  others_more classes d = go (c == d) refl (has classes d) refl
    where
      behind : others c (classes ++ d ∷ []) ≡ others c classes ++ others c (d ∷ [])
      behind = filter-append (λ k. not (k == c)) classes (d ∷ [])

      among : c ≢ d → has (others c classes) d ≡ has classes d
      among other =
          has-filter (λ k. not (k == c)) classes d ∙ ap (λ b. not b && has classes d) (ne_eqb d c (λ e. other (sym e)))

      go : (b : Bool) → (c == d) ≡ b → (h : Bool) → has classes d ≡ h
          → cond (b || has (others c classes) d) (c ∷ others c classes) (c ∷ others c classes ++ d ∷ [])
          ≡ c ∷ others c (cond h classes (classes ++ d ∷ []))
      go true q true p = refl
      go true q false p =
          ap (λ rest. c ∷ rest) (sym (behind
          ∙ ap (λ b. others c classes ++ cond (not b) (d ∷ []) []) (eq-eqb d c (sym (eqb-true c d q)))
          ∙ append-nil (others c classes)))
      go false q true p =
          ap (λ b. cond b (c ∷ others c classes) (c ∷ others c classes ++ d ∷ [])) (among (eqb-false c d q) ∙ p)
      go false q false p =
          ap (λ b. cond b (c ∷ others c classes) (c ∷ others c classes ++ d ∷ [])) (among (eqb-false c d q) ∙ p)
          ∙ ap (λ rest. c ∷ rest) (sym (behind
          ∙ ap (λ b. others c classes ++ cond (not b) (d ∷ []) []) (ne_eqb d c (λ e. eqb-false c d q (sym e)))))

  others_after : (spec : Spec) (edges classes : List ℕ)
      → fold (λ classes e. with_class classes (class_of spec e)) (c ∷ others c classes) edges
      ≡ c ∷ others c (fold (λ classes e. with_class classes (class_of spec e)) classes edges)
  others_after spec [] classes = refl
  others_after spec (e ∷ edges) classes =
      ap (λ all. fold (λ classes e. with_class classes (class_of spec e)) all edges) (others_more classes (class_of spec e))
      ∙ others_after spec edges (with_class classes (class_of spec e))

-- the classes of an edge and others are its class, and then their others
pub classes_from : (spec : Spec) (e : ℕ) (edges : List ℕ)
    → classes_of spec (e ∷ edges) ≡ class_of spec e ∷ others (class_of spec e) (classes_of spec edges)
classes_from spec e edges = others_after (class_of spec e) spec edges []
