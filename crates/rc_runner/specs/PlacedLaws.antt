-- Laws of own entries with their places, and of lists of them cut at a place.
use Rattle.std.proofs.Common.{◌≡◌, ℕ, zero, suc, ◌+◌, ◌-◌, ◌<◌, ◌≤◌, List, Some, [], ◌∷◌, ◌++◌, All, length, min, take, drop, get_or, sym, refl, ap, ◌∙◌, subst, arith}
use Rattle.rc_runner.specs.Imports.{slice_get, In, append_in_right, get_or_in, in_contains, Entry, Placed, placed_from, placed_from-append, stands_from}
use Rattle.std.proofs.lemmas.List.{length-take, take-append-drop}
use Rattle.std.proofs.lemmas.List.Elements.{All-contains, All-head, All-same, All-tail, All-weaker}
use Rattle.rc_runner.specs.Rounds.{AreBefore, AreFrom}

-- ---- a fact of all elements, and of each that stands in the list

pub each_of : {A : Type 0} (P : A → Type 0) (xs : List A) → All P xs → (x : A) → In x xs → P x
each_of P xs h x m = All-contains P xs x h (in_contains x xs m)

pub all_of : {A : Type 0} (P : A → Type 0) (xs : List A) → ((x : A) → In x xs → P x) → All P xs
all_of P xs h k d l = h (get_or xs k d) (get_or_in xs k d l)

-- ---- their places

there : (history : List Entry) (i : ℕ) (e : Entry) → slice_get history i ≡ Some e → i < length history
there [] i e at = absurd cc
there (x ∷ history) zero e at = omega arith
there (x ∷ history) (suc i) e at = let l = there history i e at in omega (arith, l)

pub placed_from-from : (n : ℕ) (history : List Entry) (pass : ℕ) → AreFrom n (placed_from n history pass)
placed_from-from n history pass =
    all_of (λ (x : Placed). n ≤ x.place) (placed_from n history pass)
    (λ x m. let w = stands_from n history pass x m in let at : x.place ≡ n + w.0 = w.1 in omega (arith, at))

pub placed_from-before : (n : ℕ) (history : List Entry) (pass : ℕ) → AreBefore (n + length history) (placed_from n history pass)
placed_from-before n history pass =
    all_of (λ (x : Placed). x.place < n + length history) (placed_from n history pass)
    (λ x m. let w = stands_from n history pass x m in
    let at : x.place ≡ n + w.0 = w.1 in
    let l : w.0 < length history = there history w.0 x.entry w.2 in
    omega (arith, at, l))

-- ---- those of the first n entries, and those of the others

place_after : (i n : ℕ) (history : List Entry) (pass : ℕ) → placed_from (i + length (take n history)) (drop n history) pass ≡ placed_from (i + n) (drop n history) pass
place_after i zero history pass = refl
place_after i (suc n) [] pass = refl
place_after i (suc n) (e ∷ history) pass =
    let taken : i + suc (length (take n history)) ≡ i + 1 + length (take n history) = omega arith in
    let cut : i + 1 + n ≡ i + suc n = omega arith in
    ap (λ j. placed_from j (drop n history) pass) taken ∙ place_after (i + 1) n history pass ∙ ap (λ j. placed_from j (drop n history) pass) cut

pub placed_from-parts : (i n : ℕ) (history : List Entry) (pass : ℕ)
    → placed_from i history pass ≡ placed_from i (take n history) pass ++ placed_from (i + n) (drop n history) pass
placed_from-parts i n history pass =
    ap (λ (l : List Entry). placed_from i l pass) (sym (take-append-drop n history)) ∙ placed_from-append i (take n history) (drop n history) pass
    ∙ ap (λ l. placed_from i (take n history) pass ++ l) (place_after i n history pass)

-- ---- a list is cut at a place in one way

same_head : (x y : Placed) (xs ys : List Placed) → x ∷ xs ≡ y ∷ ys → x ≡ y
same_head x y xs ys e = cc

same_tail : (x y : Placed) (xs ys : List Placed) → x ∷ xs ≡ y ∷ ys → xs ≡ ys
same_tail x y xs ys e = cc

not_both : (c : ℕ) (x : Placed) (xs : List Placed) (ys zs : List Placed) → ys ≡ x ∷ zs → AreFrom c ys → AreBefore c (x ∷ xs) → ⊥
not_both c x xs ys zs e from before =
    let P : Placed → Type 0 = λ y. c ≤ y.place in
    let l : c ≤ x.place = All-head P x zs (All-same P (x ∷ zs) ys (sym e) from) in
    let m : x.place < c = All-head (λ (y : Placed). y.place < c) x xs before in
    omega (arith, l, m)

pub one_cut : (c : ℕ) (xs ys us vs : List Placed) → xs ++ ys ≡ us ++ vs → AreBefore c xs → AreFrom c ys → AreBefore c us → AreFrom c vs
    → (xs ≡ us) × (ys ≡ vs)
one_cut c [] ys [] vs e b f b2 f2 = (refl, e)
one_cut c [] ys (u ∷ us) vs e b f b2 f2 = absurd (not_both c u us ys (us ++ vs) e f b2)
one_cut c (x ∷ xs) ys [] vs e b f b2 f2 = absurd (not_both c x xs vs (xs ++ ys) (sym e) f2 b)
one_cut c (x ∷ xs) ys (u ∷ us) vs e b f b2 f2 =
    let P : Placed → Type 0 = λ y. y.place < c in
    let head : x ≡ u = same_head x u (xs ++ ys) (us ++ vs) e in
    let rest = one_cut c xs ys us vs (same_tail x u (xs ++ ys) (us ++ vs) e) (All-tail P x xs b) f (All-tail P u us b2) f2 in
    ((λ j. head j ∷ rest.0 j), rest.1)

-- Own entries that are cut at a place are those of the history cut there.
pub cut_own : (i c : ℕ) (history : List Entry) (pass : ℕ) (front back : List Placed) → placed_from i history pass ≡ front ++ back
    → AreBefore c front → AreFrom c back
    → (front ≡ placed_from i (take (c - i) history) pass) × (back ≡ placed_from (i + (c - i)) (drop (c - i) history) pass)
cut_own i c history pass front back e before from =
    one_cut (i + (c - i)) front back (placed_from i (take (c - i) history) pass) (placed_from (i + (c - i)) (drop (c - i) history) pass)
    (sym e ∙ placed_from-parts i (c - i) history pass)
    (All-weaker (λ (x : Placed). x.place < c) (λ x. x.place < i + (c - i)) (λ x l. omega (arith, l)) front before)
    (all_of (λ (x : Placed). i + (c - i) ≤ x.place) back later)
    (All-weaker (λ (x : Placed). x.place < i + length (take (c - i) history)) (λ x. x.place < i + (c - i)) (λ x l. omega (arith, l, few)) (placed_from i (take (c - i) history) pass)
    (placed_from-before i (take (c - i) history) pass))
    (placed_from-from (i + (c - i)) (drop (c - i) history) pass)
  where
    few : length (take (c - i) history) ≤ c - i
    few = let e : length (take (c - i) history) ≡ min (c - i) (length history) = length-take (c - i) history in omega (arith, e)

    later : (x : Placed) → In x back → i + (c - i) ≤ x.place
    later x m =
        let l : c ≤ x.place = each_of (λ (y : Placed). c ≤ y.place) back from x m in
        let at : i ≤ x.place = each_of (λ (y : Placed). i ≤ y.place) (placed_from i history pass) (placed_from-from i history pass) x
        (subst (λ (l : List Placed). In x l) (sym e) (append_in_right x front back m)) in
        omega (arith, l, at)
