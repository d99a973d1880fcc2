-- The passes' own entries are together as many as the history has.
use Rattle.std.proofs.Common.{◌≡◌, ◌≢◌, ℕ, zero, suc, ◌+◌, ◌<◌, ◌≤◌, cond, List, [], ◌∷◌, length, refl, sym, ap, ◌∙◌, inl, inr, arith}
use Rattle.rc_rel.specs.Imports.{range_with_len, sum_by, In}
use Rattle.std.proofs.lemmas.Bool.{cases_eq, eq-eqb, ne_eqb}
use Rattle.std.proofs.lemmas.List.Sums.{sum_by-cons}
use Rattle.rc_rel.specs.declared.entry.Entry.{Entry}
use Rattle.rc_rel.specs.History.{own_placed, placed, placed_from}

-- ---- sums over ranges

sum_same : (f g : ℕ → ℕ) (a n : ℕ) → ((k : ℕ) → a ≤ k → g k ≡ f k) → sum_by g (range_with_len a n) ≡ sum_by f (range_with_len a n)
sum_same f g a zero same = refl
sum_same f g a (suc n) same =
    let first : g a ≡ f a = same a (omega arith) in
    let rest = sum_same f g (a + 1) n (λ k l. same k (omega (arith, l))) in
    sum_by-cons g a (range_with_len (a + 1) n) ∙ (λ i. first i + rest i) ∙ sym (sum_by-cons f a (range_with_len (a + 1) n))

-- where one number of the range has one more, the sum has one more
sum_one_more : (f g : ℕ → ℕ) (p a n : ℕ) → g p ≡ suc (f p) → ((k : ℕ) → k ≢ p → g k ≡ f k) → a ≤ p → p < a + n → sum_by g (range_with_len a n) ≡ suc (sum_by f (range_with_len a n))
sum_one_more f g p a zero more same low high = absurd (omega (arith, low, high))
sum_one_more f g p a (suc n) more same low high = elim (cases_eq a p) [
  | inl is ↦
      let first : g a ≡ suc (f a) = ap g is ∙ more ∙ ap (λ k. suc (f k)) (sym is) in
      let rest = sum_same f g (a + 1) n (λ k l. same k (λ e. omega (arith, l, e, is))) in
      let whole = sum_by-cons g a (range_with_len (a + 1) n) in
      let was = sum_by-cons f a (range_with_len (a + 1) n) in
      omega (arith, first, rest, whole, was)
  | inr apart ↦
      let first : g a ≡ f a = same a apart in
      let rest = sum_one_more f g p (a + 1) n more same (omega (arith, low, apart)) (omega (arith, high)) in
      let whole = sum_by-cons g a (range_with_len (a + 1) n) in
      let was = sum_by-cons f a (range_with_len (a + 1) n) in
      omega (arith, first, rest, whole, was)
]

sum_none : (a n : ℕ) → sum_by (λ k. 0) (range_with_len a n) ≡ 0
sum_none a zero = refl
sum_none a (suc n) = let rest = sum_none (a + 1) n in let whole = sum_by-cons (λ k. 0) a (range_with_len (a + 1) n) in omega (arith, rest, whole)

-- ---- shares of a history

placed_mine : (n : ℕ) (e : Entry) (history : List Entry) (k : ℕ) → e.pass ≡ k → length (placed_from n (e ∷ history) k) ≡ suc (length (placed_from (n + 1) history k))
placed_mine n e history k is = ap (λ b. length (cond b (placed n e ∷ placed_from (n + 1) history k) (placed_from (n + 1) history k))) (eq-eqb e.pass k is)

placed_other : (n : ℕ) (e : Entry) (history : List Entry) (k : ℕ) → e.pass ≢ k → length (placed_from n (e ∷ history) k) ≡ length (placed_from (n + 1) history k)
placed_other n e history k apart = ap (λ b. length (cond b (placed n e ∷ placed_from (n + 1) history k) (placed_from (n + 1) history k))) (ne_eqb e.pass k apart)

shares_from : (passes n : ℕ) (history : List Entry) → ((e : Entry) → In e history → e.pass < passes)
    → sum_by (λ k. length (placed_from n history k)) (range_with_len 0 passes) ≡ length history
shares_from passes n [] known = sum_none 0 passes
shares_from passes n (e ∷ history) known =
    let within : e.pass < passes = known e (inl refl) in
    sum_one_more (λ k. length (placed_from (n + 1) history k)) (λ k. length (placed_from n (e ∷ history) k)) e.pass 0 passes
    (placed_mine n e history e.pass refl) (λ k apart. placed_other n e history k (λ is. apart (sym is))) (omega arith) (omega (arith, within))
    ∙ ap suc (shares_from passes (n + 1) history (λ x m. known x (inr m)))

-- of a history of these passes alone, their shares are as many as it has entries
abbrev pub SharesAddUp : Type 0
SharesAddUp = (passes : ℕ) (history : List Entry) → ((e : Entry) → In e history → e.pass < passes)
    → sum_by (λ pass. length (own_placed history pass)) (range_with_len 0 passes) ≡ length history

pub shares_add_up : SharesAddUp
shares_add_up passes history known = shares_from passes 0 history known
