-- Histories are short, the relations after them small, and few passes are counted in.
use Rattle.std.proofs.Common.{◌≡◌, ℕ, zero, suc, ◌+◌, ◌*◌, ◌<◌, ◌≤◌, ◌^◌, ◌==◌, Bool, true, false, List, [], ◌∷◌, length, cond, sym, refl, subst, inl, inr, arith, suc-mul, mul-le-mul_right, length-append}
use Rattle.rc_core.specs.Imports.{Less, nat_cmp, In, IsRising, Entry, own, steps_of, replay_few}
use Rattle.std.proofs.lemmas.Cmp.{ranked}
use Rattle.std.proofs.lemmas.Bool.{cases_eq, eq-eqb}
use Rattle.rc_core.specs.State.{stripe_at, pass_at}
use Rattle.rc_core.specs.Laws.{FewAreCounted, HistoriesAreShort, ReplaysAreSmall}
use Rattle.rc_core.specs.RunLaws.{pass_there}
use Rattle.rc_core.specs.CommitLaws.{own_count}

-- ---- the length of a history

-- how many entries the passes below n have
owns : ℕ → List Entry → ℕ
owns zero history = 0
owns (suc n) history = length (own history n) + owns n history

own_grows : (k : ℕ) (e : Entry) (history : List Entry) → length (own history k) ≤ length (own (e ∷ history) k)
own_grows k e history = go (e.pass == k)
  where
    go : (b : Bool) → length (own history k) ≤ length (cond b (e ∷ own history k) (own history k))
    go true = omega arith
    go false = omega arith

own_grows_mine : (k : ℕ) (e : Entry) (history : List Entry) → e.pass ≡ k → suc (length (own history k)) ≤ length (own (e ∷ history) k)
own_grows_mine k e history is = subst (λ b. suc (length (own history k)) ≤ length (cond b (e ∷ own history k) (own history k))) (sym (eq-eqb e.pass k is)) (omega arith)

owns_grow : (n : ℕ) (e : Entry) (history : List Entry) → owns n history ≤ owns n (e ∷ history)
unfolding owns
owns_grow zero e history = omega arith
owns_grow (suc n) e history = let a = own_grows n e history in let b = owns_grow n e history in omega arith

owns_grow_mine : (n : ℕ) (e : Entry) (history : List Entry) → e.pass < n → suc (owns n history) ≤ owns n (e ∷ history)
unfolding owns
owns_grow_mine zero e history lt = absurd (omega arith)
owns_grow_mine (suc n) e history lt = elim (cases_eq e.pass n) [
  | inl is ↦ (let a = own_grows_mine n e history is in let b = owns_grow n e history in omega arith)
  | inr apart ↦ (let a = own_grows n e history in let b = owns_grow_mine n e history (omega (arith, apart)) in omega arith)
]

length_owns : (n : ℕ) (history : List Entry) → ((e : Entry) → In e history → e.pass < n) → length history ≤ owns n history
length_owns n [] made = omega arith
length_owns n (e ∷ history) made = let a = length_owns n history (λ x m. made x (inr m)) in let b = owns_grow_mine n e history (made e (inl refl)) in omega arith

few_owns : (n m : ℕ) (history : List Entry) → ((k : ℕ) → k < n → length (own history k) ≤ m) → owns n history ≤ n * m
unfolding owns
few_owns zero m history few = omega arith
few_owns (suc n) m history few = let a = few n (omega arith) in let b = few_owns n m history (λ k l. few k (omega arith)) in omega (arith, suc-mul n m)

pub history_law : HistoriesAreShort
history_law spec c good =
    let a = length_owns (length c.passes) c.history (λ e m. (good.history.entries e m).pass) in
    let b = few_owns (length c.passes) (2 ^ 48) c.history (λ k lt.
    let g = good.passes k (pass_at c.passes k) (pass_there c k lt) in subst (λ n. n ≤ 2 ^ 48) (own_count spec c.history c.stripes k (pass_at c.passes k) g) g.few) in
    let d : length c.passes * 2 ^ 48 ≤ 255 * 2 ^ 48 = mul-le-mul_right (2 ^ 48) good.few_passes in
    omega arith

-- ---- the relation stays small

steps_few : (history : List Entry) → ((e : Entry) → In e history → length e.steps ≤ 16) → length (steps_of history) ≤ 16 * length history
steps_few [] few = omega arith
steps_few (e ∷ history) few = let a = few e (inl refl) in let b = steps_few history (λ x m. few x (inr m)) in let n = length-append e.steps (steps_of history) in omega (arith, suc-mul (length history) 16)

-- the relation after the history has far fewer than 2^63 tuples
pub few_tuples : ReplaysAreSmall
few_tuples spec c good =
    let a = replay_few spec c.history in
    let b = steps_few c.history (λ e m. (good.history.entries e m).few) in
    let d = history_law spec c good in
    omega arith

-- ---- the number of passes counted in

-- rising numbers from a up to n
pub length-rising : (a n : ℕ) (xs : List ℕ) → a ≤ n → IsRising nat_cmp xs → ((k : ℕ) → In k xs → (a ≤ k) × (k < n)) → a + length xs ≤ n
length-rising a n [] le up inside = omega arith
length-rising a n (x ∷ xs) le up inside =
    let b = inside x (inl refl) in
    let low = b.0 in
    let high = b.1 in
    let more : (x + 1) + length xs ≤ n = length-rising (x + 1) n xs (omega arith) up.1 (λ k m. (nat_above x k (up.0 k m), (inside k (inr m)).1)) in
    omega arith
  where
    nat_above : (x k : ℕ) → nat_cmp x k ≡ Less → x + 1 ≤ k
    nat_above x k e = let l = ranked x k Less (sym e) in omega (arith, l)

pub few_counted : FewAreCounted
few_counted spec c p good lt =
    let s = good.stripes p lt in
    let l = length-rising 0 (length c.passes) (stripe_at c.stripes p).counted (omega arith) s.rising (λ k m. (omega arith, s.known k m)) in
    let few = good.few_passes in
    omega arith
