-- Laws of the dependencies that a relation with one more tuple breaks.
use Rattle.std.specs.Prelude.{◌≡◌, ℕ, zero, suc, ◌+◌, ◌-◌, ◌<◌, ◌≤◌, Bool, true, false, List, [], ◌∷◌, ◌⊎◌, ◌||◌, None, Some, not, length, get_or, if◌then◌else◌}
use Rattle.rc_plan.specs.Imports.{list_any, In, put, get_or_in, Within, is_within, within_from_test, test_from_within, Pairs, project, tuple_cmp, agree_on, project_less, SatisfiesOne, Satisfies, breaks, breaks_with, breaks_pair, in_list_any, list_any_in, agree_from_test, test_from_agree, agree_on-swap, breaks-put, test_from_satisfies, Dep, Spec, first_broken_dependency}
use Rattle.std.proofs.Common.{inl, inr, refl, sym, ap, subst, ◌∙◌, arith}
use Rattle.std.proofs.lemmas.Bool.{false≢true, cases_Bool, and_parts, and_from, not_from_false, not-true, or_right, false_from_ne_true}
use Rattle.rc_plan.specs.Evaluation.{no_dep, dep_at}

pub list_any_none : {A : Type 0} (p : A → Bool) (xs : List A) → ((x : A) → In x xs → p x ≡ true → ⊥) → list_any p xs ≡ false
list_any_none p xs f = false_from_ne_true (list_any p xs) (λ e. let q : (x : _) × In x xs × (p x ≡ true) = in_list_any p xs e in f q.0 q.1 q.2)

pub within_or_not : (xs ys : List ℕ) → Within xs ys ⊎ (Within xs ys → ⊥)
within_or_not xs ys = elim (cases_Bool (is_within xs ys)) [
  | inl e ↦ inl (within_from_test xs ys e)
  | inr f ↦ inr (λ w. false≢true (sym f ∙ test_from_within xs ys w))
]

-- ---- one dependency

-- no tuple of the relation agrees with t on the left side and differs on the right
abbrev pub IsUnbroken : List Pairs → Pairs → Dep → Type 0
IsUnbroken r t d = (u : Pairs) → In u r → project d.left t ≡ project d.left u → project d.right t ≡ project d.right u

unbroken_holds : (r : List Pairs) (t : Pairs) (d : Dep) → SatisfiesOne r d.left d.right → IsUnbroken r t d → breaks (put tuple_cmp t r) d ≡ false
unbroken_holds r t d sat un =
    breaks-put t r d ∙ ap (λ b. b || breaks_with d t r) (test_from_satisfies r d sat)
    ∙ list_any_none (breaks_pair d t) r (λ u m e.
    let b : (agree_on d.left t u ≡ true) × (not (agree_on d.right t u) ≡ true) = and_parts (agree_on d.left t u) (not (agree_on d.right t u)) e in
    false≢true (sym (not-true (agree_on d.right t u) b.1) ∙ test_from_agree d.right t u (un u m (agree_from_test d.left t u b.0))))

pub broken_by : (r : List Pairs) (t u : Pairs) (d : Dep) → In u r → project d.left t ≡ project d.left u → agree_on d.right u t ≡ false → breaks (put tuple_cmp t r) d ≡ true
broken_by r t u d m l f =
    breaks-put t r d
    ∙ or_right (breaks r d) (breaks_with d t r)
    (list_any_in (breaks_pair d t) r u m
    (and_from (agree_on d.left t u) (not (agree_on d.right t u)) (test_from_agree d.left t u l) (not_from_false (agree_on d.right t u) (agree_on-swap d.right t u ∙ f))))

-- ---- the first that is broken

none_is_first : (r : List Pairs) (deps : List Dep) (n : ℕ) → ((d : Dep) → In d deps → breaks r d ≡ false) → first_broken_dependency n deps r ≡ None
none_is_first r [] n f = refl
none_is_first r (d ∷ deps) n f = ap (λ b. if b then Some n else first_broken_dependency (n + 1) deps r) (f d (inl refl)) ∙ none_is_first r deps (n + 1) (λ x m. f x (inr m))

is_first : (r : List Pairs) (deps : List Dep) (n k : ℕ) (o : Dep) → k < length deps → breaks r (get_or deps k o) ≡ true → ((m : ℕ) → m < k → breaks r (get_or deps m o) ≡ false)
    → first_broken_dependency n deps r ≡ Some (n + k)
is_first r [] n k o l e f = absurd (omega arith)
is_first r (d ∷ deps) n zero o l e f = ap (λ b. if b then Some n else first_broken_dependency (n + 1) deps r) e ∙ ap Some (let z : n ≡ n + 0 = omega arith in z)
is_first r (d ∷ deps) n (suc k) o l e f =
    ap (λ b. if b then Some n else first_broken_dependency (n + 1) deps r) (f 0 (omega arith))
    ∙ is_first r deps (n + 1) k o (omega arith) e (λ m h. f (suc m) (omega arith)) ∙ ap Some (let z : n + 1 + k ≡ n + suc k = omega arith in z)

number_of : (deps : List Dep) (d : Dep) → In d deps → (o : Dep) → (n : ℕ) × (n < length deps) × (get_or deps n o ≡ d)
number_of [] d h o = absurd h
number_of (x ∷ deps) d (inl q) o = (0, (omega arith), sym q)
number_of (x ∷ deps) d (inr q) o = let y : (n : ℕ) × (n < length deps) × (get_or deps n o ≡ d) = number_of deps d q o in (suc y.0, (let l : y.0 < length deps = y.1 in omega arith), y.2)

module _ (spec : Spec) (r : List Pairs) (h : Satisfies r spec.deps) (t : Pairs) where
  satisfied : (n : ℕ) → n < length spec.deps → SatisfiesOne r (get_or spec.deps n no_dep).left (get_or spec.deps n no_dep).right
  satisfied n l = h (get_or spec.deps n no_dep) (get_or_in spec.deps n no_dep l)

  less_one : (n : ℕ) → suc n - 1 ≡ n
  less_one n = omega arith

  -- the dependency with this number, counted from 1
  unbroken_at : (n : ℕ) → IsUnbroken r t (dep_at spec (suc n)) → IsUnbroken r t (get_or spec.deps n no_dep)
  unbroken_at n u = subst (λ k. IsUnbroken r t (get_or spec.deps k no_dep)) (less_one n) u

  -- where none is broken
  pub no_conflict : ((dep : ℕ) → 0 < dep → dep ≤ length spec.deps → IsUnbroken r t (dep_at spec dep)) → first_broken_dependency 1 spec.deps (put tuple_cmp t r) ≡ None
  no_conflict f = none_is_first (put tuple_cmp t r) spec.deps 1 (λ d m.
      let y : (n : ℕ) × (n < length spec.deps) × (get_or spec.deps n no_dep ≡ d) = number_of spec.deps d m no_dep in
      let l : y.0 < length spec.deps = y.1 in
      subst (λ z. breaks (put tuple_cmp t r) z ≡ false) y.2
      (unbroken_holds r t (get_or spec.deps y.0 no_dep) (satisfied y.0 l) (unbroken_at y.0 (f (suc y.0) (omega arith) (omega arith)))))

  -- where a tuple breaks one, and those before it are unbroken
  pub conflict_with : (dep : ℕ) → 0 < dep → dep ≤ length spec.deps → (u : Pairs) → In u r → project (dep_at spec dep).left t ≡ project (dep_at spec dep).left u → agree_on (dep_at spec dep).right u t ≡ false
      → ((d : ℕ) → d < dep → 0 < d → d ≤ length spec.deps → IsUnbroken r t (dep_at spec d)) → first_broken_dependency 1 spec.deps (put tuple_cmp t r) ≡ Some dep
  conflict_with dep z q u m e g f =
      is_first (put tuple_cmp t r) spec.deps 1 (dep - 1) no_dep (omega arith) (broken_by r t u (dep_at spec dep) m e g)
      (λ n l. let k : n < length spec.deps = omega arith in
      unbroken_holds r t (get_or spec.deps n no_dep) (satisfied n k) (unbroken_at n (f (suc n) (omega arith) (omega arith) (omega arith))))
      ∙ ap Some (let y : 1 + (dep - 1) ≡ dep = omega arith in y)

  -- where no tuple has t's pattern values, a dependency whose left side holds the pattern is unbroken
  pub unbroken_within : (pattern : List ℕ) (d : Dep) → ((u : Pairs) → In u r → project pattern t ≡ project pattern u → ⊥) → Within pattern d.left → IsUnbroken r t d
  unbroken_within pattern d f w u m e = absurd (f u m (project_less pattern d.left t u w e))
