-- Taking, emptying and giving back the own slots of all passes at one stripe.
use Rattle.std.proofs.Common.{◌≡◌, ◌≢◌, ℕ, zero, suc, ◌-◌, ◌<◌, List, [], ◌∷◌, ◌++◌, length, set, take, drop, refl, sym, ap, ◌∙◌, inl, inr, arith, length-set, append_assoc}
use Rattle.rc_row.proofs.Imports.{cases_eq, Act, Valid, carried_after, chain, gives, homes_after, takes, turned, set_here, set_else, own_place, slot_place, give_owns, own_hands, take_owns, with_owns, without_owns}
use mathlib.Core.Option.{some, none}
use lib.ListN.{get_elem?}

abbrev Homes : Type 0 → Type 0
Homes S = List (mathlib.Core.Option.Option S)

module _ {S : Type 0} (p : ℕ) (x : ℕ → S) where
  -- ---- taken

  pub carried_taken : (n : ℕ) (c : List (ℕ × S)) → carried_after c (take_owns n p x) ≡ own_hands n p x ++ c
  carried_taken zero c = refl
  carried_taken (suc n) c = ap (λ (slots : List (ℕ × S)). (own_place n p, x n) ∷ slots) (carried_taken n c)

  pub homes_taken : (n : ℕ) (homes : Homes S) (c : List (ℕ × S)) → homes_after homes c (take_owns n p x) ≡ without_owns n p homes
  homes_taken zero homes c = refl
  homes_taken (suc n) homes c = ap (λ (hs : Homes S). set hs (own_place n p) none) (homes_taken n homes c)

  pub length-taken : (n : ℕ) (homes : Homes S) → length (without_owns n p homes) ≡ length homes
  length-taken zero homes = refl
  length-taken (suc n) homes = length-set (without_owns n p homes) (own_place n p) none ∙ length-taken n homes

  -- other slots stay
  pub taken_else : (n i : ℕ) (homes : Homes S) → ((j : ℕ) → j < n → i ≢ own_place j p) → get_elem? (without_owns n p homes) i ≡ get_elem? homes i
  taken_else zero i homes apart = refl
  taken_else (suc n) i homes apart = set_else (without_owns n p homes) (own_place n p) i none (apart n (omega arith)) ∙ taken_else n i homes (λ j lt. apart j (omega arith))

  -- each of these is out
  pub taken_here : (n j : ℕ) (homes : Homes S) → j < n → own_place j p < length homes → get_elem? (without_owns n p homes) (own_place j p) ≡ some none
  taken_here zero j homes lt inside = absurd (omega arith)
  taken_here (suc n) j homes lt inside = elim (cases_eq j n) [
    | inl e ↦ ap (λ (i : ℕ). get_elem? (without_owns (suc n) p homes) (own_place i p)) e ∙ set_here (without_owns n p homes) (own_place n p) none (let l = length-taken n homes in omega (arith, e, inside, l))
    | inr apart ↦ set_else (without_owns n p homes) (own_place n p) (own_place j p) none (λ e. apart (omega (arith, e))) ∙ taken_here n j homes (omega (arith, lt, apart)) inside
  ]

  -- where each is home with these values, they can be taken
  pub valid_taken : (n : ℕ) (homes : Homes S) (c : List (ℕ × S)) → ((j : ℕ) → j < n → get_elem? homes (own_place j p) ≡ some (some (x j))) → Valid homes c (take_owns n p x)
  valid_taken zero homes c home = tt
  valid_taken (suc n) homes c home = (
    valid_taken n homes c (λ j lt. home j (omega arith)),
    ap (λ (hs : Homes S). get_elem? hs (own_place n p)) (homes_taken n homes c) ∙ taken_else n (own_place n p) homes (λ j lt e. omega (arith, lt, e)) ∙ home n (omega arith),
  )

  -- ---- given back

  pub carried_given : (n : ℕ) (c : List (ℕ × S)) → carried_after (own_hands n p x ++ c) (give_owns n) ≡ c
  carried_given zero c = refl
  carried_given (suc n) c = carried_given n c

  pub homes_given : (n : ℕ) (homes : Homes S) (c : List (ℕ × S)) → homes_after homes (own_hands n p x ++ c) (give_owns n) ≡ with_owns n p x homes
  homes_given zero homes c = refl
  homes_given (suc n) homes c = homes_given n (set homes (own_place n p) (some (x n))) c

  pub length-given : (n : ℕ) (homes : Homes S) → length (with_owns n p x homes) ≡ length homes
  length-given zero homes = refl
  length-given (suc n) homes = length-given n (set homes (own_place n p) (some (x n))) ∙ length-set homes (own_place n p) (some (x n))

  pub given_else : (n i : ℕ) (homes : Homes S) → ((j : ℕ) → j < n → i ≢ own_place j p) → get_elem? (with_owns n p x homes) i ≡ get_elem? homes i
  given_else zero i homes apart = refl
  given_else (suc n) i homes apart = given_else n i (set homes (own_place n p) (some (x n))) (λ j lt. apart j (omega arith)) ∙ set_else homes (own_place n p) i (some (x n)) (apart n (omega arith))

  pub given_here : (n j : ℕ) (homes : Homes S) → j < n → own_place j p < length homes → get_elem? (with_owns n p x homes) (own_place j p) ≡ some (some (x j))
  given_here zero j homes lt inside = absurd (omega arith)
  given_here (suc n) j homes lt inside = elim (cases_eq j n) [
    | inl e ↦ given_else n (own_place j p) (set homes (own_place n p) (some (x n))) (λ i below same. omega (arith, below, same, e))
        ∙ ap (λ (i : ℕ). get_elem? (set homes (own_place n p) (some (x n))) (own_place i p)) e ∙ set_here homes (own_place n p) (some (x n)) (omega (arith, e, inside)) ∙ ap (λ (i : ℕ). some (some (x i))) (sym e)
    | inr apart ↦ given_here n j (set homes (own_place n p) (some (x n))) (omega (arith, lt, apart)) (let l = length-set homes (own_place n p) (some (x n)) in omega (arith, inside, l))
  ]

  -- gives ask nothing
  pub valid_given : (n : ℕ) (homes : Homes S) (c : List (ℕ × S)) → Valid homes c (give_owns n)
  valid_given zero homes c = tt
  valid_given (suc n) homes c = (tt, valid_given n (homes_after homes c gives) (carried_after c gives))

-- ---- a stripe's slot with them

-- The slot of the stripe p is taken after the own slots of n passes, and lies in front of them.
module _ {S : Type 0} (n p : ℕ) (x : ℕ → S) (y : S) (homes : Homes S) (c : List (ℕ × S)) where
  abbrev pub locking : Act S
  locking = chain (take_owns n p x) (takes (slot_place p) y)

  abbrev pub homes_locked : Homes S
  homes_locked = set (without_owns n p homes) (slot_place p) none

  pub carried_locked : carried_after c locking ≡ (slot_place p, y) ∷ own_hands n p x ++ c
  carried_locked = ap (λ (slots : List (ℕ × S)). (slot_place p, y) ∷ slots) (carried_taken p x n c)

  pub homes_of_lock : homes_after homes c locking ≡ homes_locked
  homes_of_lock = ap (λ (hs : Homes S). set hs (slot_place p) none) (homes_taken p x n homes c)

  pub length-locked : length homes_locked ≡ length homes
  length-locked = length-set (without_owns n p homes) (slot_place p) none ∙ length-taken p x n homes

  pub valid_lock : p < 256 → ((j : ℕ) → j < n → get_elem? homes (own_place j p) ≡ some (some (x j))) → get_elem? homes (slot_place p) ≡ some (some y) → Valid homes c locking
  valid_lock low owns home = (
    valid_taken p x n homes c owns,
    ap (λ (hs : Homes S). get_elem? hs (slot_place p)) (homes_taken p x n homes c) ∙ taken_else p x n (slot_place p) homes (λ j lt e. omega (arith, low, e)) ∙ home,
  )

  -- the slot and the own slots of the stripe are out, and all others as they were
  pub locked_here : p < 256 → slot_place p < length homes → get_elem? homes_locked (slot_place p) ≡ some none
  locked_here low inside = set_here (without_owns n p homes) (slot_place p) none (let l = length-taken p x n homes in omega (arith, inside, l))

  pub locked_else : (q : ℕ) → q < 256 → p < 256 → q ≢ p → get_elem? homes_locked (slot_place q) ≡ get_elem? homes (slot_place q)
  locked_else q below low apart = set_else (without_owns n p homes) (slot_place p) (slot_place q) none (λ e. apart (omega (arith, e))) ∙ taken_else p x n (slot_place q) homes (λ j lt e. omega (arith, below, e))

  pub locked_own : (j : ℕ) → p < 256 → j < n → own_place j p < length homes → get_elem? homes_locked (own_place j p) ≡ some none
  locked_own j low lt inside = set_else (without_owns n p homes) (slot_place p) (own_place j p) none (λ e. omega (arith, low, e)) ∙ taken_here p x n j homes lt inside

  pub locked_own_else : (j q : ℕ) → q < 256 → p < 256 → q ≢ p → get_elem? homes_locked (own_place j q) ≡ get_elem? homes (own_place j q)
  locked_own_else j q below low apart =
      set_else (without_owns n p homes) (slot_place p) (own_place j q) none (λ e. omega (arith, low, e)) ∙ taken_else p x n (own_place j q) homes (λ i lt e. apart (omega (arith, below, low, e)))

-- And all are given back, the stripe's slot first.
module _ {S : Type 0} (n p : ℕ) (x : ℕ → S) (y : S) (homes : Homes S) (c : List (ℕ × S)) where
  abbrev pub unlocking : Act S
  unlocking = chain gives (give_owns n)

  abbrev pub homes_unlocked : Homes S
  homes_unlocked = with_owns n p x (set homes (slot_place p) (some y))

  pub carried_unlocked : carried_after ((slot_place p, y) ∷ own_hands n p x ++ c) unlocking ≡ c
  carried_unlocked = carried_given p x n c

  pub homes_of_unlock : homes_after homes ((slot_place p, y) ∷ own_hands n p x ++ c) unlocking ≡ homes_unlocked
  homes_of_unlock = homes_given p x n (set homes (slot_place p) (some y)) c

  pub length-unlocked : length homes_unlocked ≡ length homes
  length-unlocked = length-given p x n (set homes (slot_place p) (some y)) ∙ length-set homes (slot_place p) (some y)

  pub unlocked_here : p < 256 → slot_place p < length homes → get_elem? homes_unlocked (slot_place p) ≡ some (some y)
  unlocked_here low inside = given_else p x n (slot_place p) (set homes (slot_place p) (some y)) (λ j lt e. omega (arith, low, e)) ∙ set_here homes (slot_place p) (some y) inside

  pub unlocked_else : (q : ℕ) → q < 256 → p < 256 → q ≢ p → get_elem? homes_unlocked (slot_place q) ≡ get_elem? homes (slot_place q)
  unlocked_else q below low apart =
      given_else p x n (slot_place q) (set homes (slot_place p) (some y)) (λ j lt e. omega (arith, below, e)) ∙ set_else homes (slot_place p) (slot_place q) (some y) (λ e. apart (omega (arith, e)))

  pub unlocked_own : (j : ℕ) → j < n → own_place j p < length homes → get_elem? homes_unlocked (own_place j p) ≡ some (some (x j))
  unlocked_own j lt inside = given_here p x n j (set homes (slot_place p) (some y)) lt (let l = length-set homes (slot_place p) (some y) in omega (arith, inside, l))

  pub unlocked_own_else : (j q : ℕ) → q < 256 → p < 256 → q ≢ p → get_elem? homes_unlocked (own_place j q) ≡ get_elem? homes (own_place j q)
  unlocked_own_else j q below low apart =
      given_else p x n (own_place j q) (set homes (slot_place p) (some y)) (λ i lt e. apart (omega (arith, below, low, e))) ∙ set_else homes (slot_place p) (own_place j q) (some y) (λ e. omega (arith, low, e))

-- ---- emptied, one after another

own_next : {S : Type 0} → (n i p : ℕ) (x : ℕ → S) → i < n → drop i (own_hands n p x) ≡ (own_place (n - 1 - i) p, x (n - 1 - i)) ∷ drop (suc i) (own_hands n p x)
own_next zero i p x lt = absurd (omega arith)
own_next (suc n) zero p x lt = ap (λ k. (own_place k p, x k) ∷ own_hands n p x) (omega arith)
own_next (suc n) (suc i) p x lt = own_next n i p x (omega arith) ∙ ap (λ k. (own_place k p, x k) ∷ drop (suc i) (own_hands n p x)) (omega arith)

own_more : {S : Type 0} → (n i p : ℕ) (x : ℕ → S) → i < n → take (suc i) (own_hands n p x) ≡ take i (own_hands n p x) ++ (own_place (n - 1 - i) p, x (n - 1 - i)) ∷ []
own_more zero i p x lt = absurd (omega arith)
own_more (suc n) zero p x lt = ap (λ k. (own_place k p, x k) ∷ []) (omega arith)
own_more (suc n) (suc i) p x lt = ap (λ l. (own_place n p, x n) ∷ l) (own_more n i p x (omega arith) ∙ ap (λ k. take i (own_hands n p x) ++ (own_place k p, x k) ∷ []) (omega arith))

-- The slots of a seat while the i-th of the own slots is about to be emptied: those that are left in front, those of other stripes, and
-- behind them the stripe's and those that are empty. Emptied and turned, the first of them leads to the next.
module _ {S : Type 0} (n p : ℕ) (x : ℕ → S) (none_there : S) (others : List (ℕ × S)) where
  abbrev pub emptying : ℕ → List (ℕ × S)
  emptying i = drop i (own_hands n p x) ++ (others ++ take i (own_hands n p (λ j. none_there)))

  pub front_emptying : (i : ℕ) → i < n → emptying i ≡ (own_place (n - 1 - i) p, x (n - 1 - i)) ∷ (drop (suc i) (own_hands n p x) ++ (others ++ take i (own_hands n p (λ j. none_there))))
  front_emptying i lt = ap (λ (l : List (ℕ × S)). l ++ (others ++ take i (own_hands n p (λ j. none_there)))) (own_next n i p x lt)

  pub next_emptying : (i : ℕ) → i < n
      → turned ((own_place (n - 1 - i) p, none_there) ∷ (drop (suc i) (own_hands n p x) ++ (others ++ take i (own_hands n p (λ j. none_there))))) ≡ emptying (suc i)
  next_emptying i lt =
      append_assoc (drop (suc i) (own_hands n p x)) (others ++ take i (own_hands n p (λ j. none_there))) ((own_place (n - 1 - i) p, none_there) ∷ [])
      ∙ ap (λ (l : List (ℕ × S)). drop (suc i) (own_hands n p x) ++ l)
      (append_assoc others (take i (own_hands n p (λ j. none_there))) ((own_place (n - 1 - i) p, none_there) ∷ []) ∙ ap (λ (l : List (ℕ × S)). others ++ l) (sym (own_more n i p (λ j. none_there) lt)))

-- what lies behind the own slots of a stripe
pub behind_owns : {S : Type 0} → (n p : ℕ) (x : ℕ → S) (others : List (ℕ × S)) → drop n (own_hands n p x ++ others) ≡ others
behind_owns zero p x others = refl
behind_owns (suc n) p x others = behind_owns n p x others
