-- The numbers of the held stripes, and lists changed at them.
use Rattle.std.specs.Prelude.{◌≡◌, ℕ, zero, suc, ◌+◌, ◌<◌, ◌≤◌, List, [], ◌∷◌, ◌++◌, ◌⊎◌, Option, None, Some, length, map}
use Rattle.rc_instance.proofs.Imports.{AllZip, slice_get, set, length-append, length-map, same_Some, In, slice_get_in, in_append, append_in_left, append_in_right, AreBelow, Mode, FragmentRows, rolled_back, settled, LentStripe, IsAtRest, each_at, with_at, held_numbers, lent_part, lent_from, number_part, stripes_of, AreReleased, IsInstance, IsWholeInstance, Stripe, place_in}
use Rattle.std.proofs.Common.{inl, inr, refl, sym, ap, subst, ◌∙◌, arith, replicate}
use Rattle.rc_instance.proofs.AlikeLemmas.{IsSettled}
use Rattle.rc_instance.proofs.FreeLemmas.{released, released_instance}
use Rattle.rc_instance.proofs.RevertLemmas.{instance-reverted, reverted_stripe, stripes_of-reverted}
use Rattle.rc_instance.proofs.StripesOfLemmas.{mode_at, stripes_of-length, stripes_of-there}

-- ---- held stripes

pub numbers-lent : (n : ℕ) (ss : List Stripe) → held_numbers n ss ≡ map (λ (l : LentStripe). l.held.stripe) (lent_from n ss)
numbers-lent n [] = refl
numbers-lent n (s ∷ ss) = go s.held (numbers-lent (suc n) ss)
  where
    go : (m : Option Mode) → held_numbers (suc n) ss ≡ map (λ (l : LentStripe). l.held.stripe) (lent_from (suc n) ss)
        → number_part n m ++ held_numbers (suc n) ss ≡ map (λ (l : LentStripe). l.held.stripe) (lent_part n s.fragment m ++ lent_from (suc n) ss)
    go None rest = rest
    go (Some mode) rest = ap (λ z. n ∷ z) rest

-- they stay where stripes are held as they were
pub numbers-set : (n : ℕ) (ss : List Stripe) (k : ℕ) (s t : Stripe) → slice_get ss k ≡ Some s → t.held ≡ s.held → held_numbers n (set ss k t) ≡ held_numbers n ss
numbers-set n [] k s t e h = refl
numbers-set n (x ∷ ss) zero s t e h = ap (λ z. number_part n z ++ held_numbers (suc n) ss) (h ∙ ap (λ (z : Stripe). z.held) (sym (same_Some _ _ e)))
numbers-set n (x ∷ ss) (suc k) s t e h = ap (λ z. number_part n x.held ++ z) (numbers-set (suc n) ss k s t e h)

pub numbers-reverted : (n : ℕ) (ss : List Stripe) → held_numbers n (map reverted_stripe ss) ≡ held_numbers n ss
numbers-reverted n [] = refl
numbers-reverted n (s ∷ ss) = ap (λ z. number_part n s.held ++ z) (numbers-reverted (suc n) ss)

pub numbers-none : (n : ℕ) (fs : List FragmentRows) → held_numbers n (stripes_of fs []) ≡ []
numbers-none n [] = refl
numbers-none n (f ∷ fs) = numbers-none (suc n) fs

part_short : (n : ℕ) (m : Option Mode) → length (number_part n m) ≤ 1
part_short n None = omega arith
part_short n (Some mode) = omega arith

pub numbers_few : (n : ℕ) (ss : List Stripe) → length (held_numbers n ss) ≤ length ss
numbers_few n [] = omega arith
numbers_few n (s ∷ ss) =
    let e : length (number_part n s.held ++ held_numbers (suc n) ss) ≡ length (number_part n s.held) + length (held_numbers (suc n) ss) = length-append (number_part n s.held) (held_numbers (suc n) ss) in
    omega (arith, e, part_short n s.held, numbers_few (suc n) ss)

part_is : (n m : ℕ) (o : Option Mode) → In m (number_part n o) → m ≡ n
part_is n m None i = absurd i
part_is n m (Some mode) (inl p) = p
part_is n m (Some mode) (inr i) = absurd i

pub numbers_below : (n : ℕ) (ss : List Stripe) (m : ℕ) → In m (held_numbers n ss) → m < n + length ss
numbers_below n [] m i = absurd i
numbers_below n (s ∷ ss) m i = elim (in_append m (number_part n s.held) (held_numbers (suc n) ss) i) [
  | inl a ↦ let p : m ≡ n = part_is n m s.held a in omega (arith, p)
  | inr b ↦ let l : m < suc n + length ss = numbers_below (suc n) ss m b in omega (arith, l)
]

pub number_in : (n : ℕ) (ss : List Stripe) (k m : ℕ) (s : Stripe) (mode : Mode) → slice_get ss k ≡ Some s → m ≡ n + k → s.held ≡ Some mode → In m (held_numbers n ss)
number_in n [] k m s mode e l h = cc
number_in n (x ∷ ss) zero m s mode e l h =
    let p : x.held ≡ Some mode = ap (λ (z : Stripe). z.held) (same_Some _ _ e) ∙ h in
    let q : m ≡ n = omega (arith, l) in
    append_in_left m (number_part n x.held) (held_numbers (suc n) ss) (subst (λ z. In m (number_part n z)) (sym p) (inl q))
number_in n (x ∷ ss) (suc k) m s mode e l h = append_in_right m (number_part n x.held) (held_numbers (suc n) ss) (number_in (suc n) ss k m s mode e (omega (arith, l)) h)

-- a stripe's number is among them, or the stripe is free
pub number_or_free : (fs : List FragmentRows) (ms : List (Option Mode)) (k : ℕ) (f : FragmentRows) → slice_get fs k ≡ Some f → In k (held_numbers 0 (stripes_of fs ms)) ⊎ (mode_at ms k ≡ None)
number_or_free fs ms k f e = go (mode_at ms k) refl
  where
    go : (m : Option Mode) → mode_at ms k ≡ m → In k (held_numbers 0 (stripes_of fs ms)) ⊎ (mode_at ms k ≡ None)
    go None p = inr p
    go (Some mode) p = inl (number_in 0 (stripes_of fs ms) k k (record { fragment = f; held = mode_at ms k }) mode (stripes_of-there fs ms k f e) (omega arith) p)

-- ---- lists changed at numbers

pub with_at-set : {A : Type 0} (f : A → A) (xs : List A) (k : ℕ) (x : A) → slice_get xs k ≡ Some x → set xs k (f x) ≡ with_at f k xs
with_at-set f [] k x e = refl
with_at-set f (z ∷ xs) zero x e = ap (λ w. f w ∷ xs) (sym (same_Some _ _ e))
with_at-set f (z ∷ xs) (suc k) x e = ap (λ w. z ∷ w) (with_at-set f xs k x e)

-- what stands in a list with one element changed
pub record IsChangedAt {A : Type 0} (f : A → A) (k : ℕ) (xs : List A) (n : ℕ) (y : A) : Type 0 where
  pub was : A
  pub there : slice_get xs n ≡ Some was
  pub either : (y ≡ was) ⊎ (y ≡ f was)
  pub here : n ≡ k → y ≡ f was

with_at-get : {A : Type 0} (f : A → A) (k : ℕ) (xs : List A) (n : ℕ) (y : A) → slice_get (with_at f k xs) n ≡ Some y → IsChangedAt f k xs n y
with_at-get f k [] n y e = cc
with_at-get f zero (x ∷ xs) zero y e = record { was = x; there = refl; either = inr (sym (same_Some _ _ e)); here = λ _. sym (same_Some _ _ e) }
with_at-get f zero (x ∷ xs) (suc n) y e = record { was = y; there = e; either = inl refl; here = λ p. absurd (omega (arith, p)) }
with_at-get f (suc k) (x ∷ xs) zero y e = record { was = x; there = refl; either = inl (sym (same_Some _ _ e)); here = λ p. absurd (omega (arith, p)) }
with_at-get f (suc k) (x ∷ xs) (suc n) y e =
    let w : IsChangedAt f k xs n y = with_at-get f k xs n y e in
    record { was = w.was; there = w.there; either = w.either; here = λ p. w.here (omega (arith, p)) }

fixed : {A : Type 0} (f : A → A) (xs : List A) → ((n : ℕ) (x : A) → slice_get xs n ≡ Some x → f x ≡ x) → xs ≡ map f xs
fixed f [] h = refl
fixed f (x ∷ xs) h = λ i. sym (h 0 x refl) i ∷ fixed f xs (λ n. h (suc n)) i

map-with_at : {A : Type 0} (f : A → A) → ((x : A) → f (f x) ≡ f x) → (k : ℕ) (xs : List A) → map f (with_at f k xs) ≡ map f xs
map-with_at f twice k [] = refl
map-with_at f twice zero (x ∷ xs) = ap (λ z. z ∷ map f xs) (twice x)
map-with_at f twice (suc k) (x ∷ xs) = ap (λ z. f x ∷ z) (map-with_at f twice k xs)

-- where all others would stay, what is done at the numbers is done to all
pub each_at-all : {A : Type 0} (f : A → A) → ((x : A) → f (f x) ≡ f x) → (ns : List ℕ) (xs : List A) → ((n : ℕ) (x : A) → slice_get xs n ≡ Some x → In n ns ⊎ (f x ≡ x)) → each_at f ns xs ≡ map f xs
each_at-all f twice [] xs h = fixed f xs (λ n x e. elim (h n x e) [ inl i ↦ absurd i | inr p ↦ p ])
each_at-all {A} f twice (k ∷ ns) xs h = each_at-all f twice ns (with_at f k xs) (λ n y e. go n y (with_at-get f k xs n y e)) ∙ map-with_at f twice k xs
  where
    go : (n : ℕ) (y : A) → IsChangedAt f k xs n y → In n ns ⊎ (f y ≡ y)
    go n y w = elim (h n w.was w.there) [
      | inl (inl p) ↦ let q : y ≡ f w.was = w.here p in inr (ap f q ∙ twice w.was ∙ sym q)
      | inl (inr i) ↦ inl i
      | inr p ↦ inr (elim w.either [ inl q ↦ ap f q ∙ p ∙ sym q | inr q ↦ ap f q ∙ twice w.was ∙ sym q ])
    ]

-- ---- stripes that are freed

none-with_at : (k : ℕ) (ms : List (Option Mode)) (n : ℕ) → (n ≡ k) ⊎ (mode_at ms n ≡ None) → mode_at (with_at (λ _. None) k ms) n ≡ None
none-with_at k [] n h = refl
none-with_at zero (m ∷ ms) zero h = refl
none-with_at zero (m ∷ ms) (suc n) (inl p) = absurd (omega (arith, p))
none-with_at zero (m ∷ ms) (suc n) (inr p) = p
none-with_at (suc k) (m ∷ ms) zero (inl p) = absurd (omega (arith, p))
none-with_at (suc k) (m ∷ ms) zero (inr p) = p
none-with_at (suc k) (m ∷ ms) (suc n) (inl p) = none-with_at k ms n (inl (omega (arith, p)))
none-with_at (suc k) (m ∷ ms) (suc n) (inr p) = none-with_at k ms n (inr p)

pub none-each_at : (ns : List ℕ) (ms : List (Option Mode)) (n : ℕ) → In n ns ⊎ (mode_at ms n ≡ None) → mode_at (each_at (λ _. None) ns ms) n ≡ None
none-each_at [] ms n (inl i) = absurd i
none-each_at [] ms n (inr p) = p
none-each_at (k ∷ ns) ms n (inl (inl p)) = none-each_at ns (with_at (λ _. None) k ms) n (inr (none-with_at k ms n (inl p)))
none-each_at (k ∷ ns) ms n (inl (inr i)) = none-each_at ns (with_at (λ _. None) k ms) n (inl i)
none-each_at (k ∷ ns) ms n (inr p) = none-each_at ns (with_at (λ _. None) k ms) n (inr (none-with_at k ms n (inr p)))

-- stripes of which none is held
pub stripes_of-free : (fs : List FragmentRows) (ms : List (Option Mode)) → ((n : ℕ) → n < length fs → mode_at ms n ≡ None) → stripes_of fs ms ≡ stripes_of fs []
stripes_of-free [] ms h = refl
stripes_of-free (f ∷ fs) [] h = refl
stripes_of-free (f ∷ fs) (m ∷ ms) h = λ i. (let s : Stripe = record { fragment = f; held = h 0 (omega arith) i } in s) ∷ stripes_of-free fs ms (λ n l. h (suc n) (omega (arith, l))) i

mode_at-none : (k n : ℕ) → mode_at (replicate k None) n ≡ None
mode_at-none zero n = refl
mode_at-none (suc k) zero = refl
mode_at-none (suc k) (suc n) = mode_at-none k n

pub stripes_of-none : (fs : List FragmentRows) (k : ℕ) → stripes_of fs (replicate k None) ≡ stripes_of fs []
stripes_of-none fs k = stripes_of-free fs (replicate k None) (λ n _. mode_at-none k n)

pub numbers-free : (fs : List FragmentRows) (k : ℕ) → held_numbers 0 (stripes_of fs (replicate k None)) ≡ []
numbers-free fs k = ap (held_numbers 0) (stripes_of-none fs k) ∙ numbers-none 0 fs

-- ---- an instance whose held stripes change

rests : (f : FragmentRows) → IsAtRest f → rolled_back f ≡ f
rests f r = λ i. record { table = f.table; now = r.taken i; taken = f.taken; room = f.room; changes = sym r.changes i }

settles : (f : FragmentRows) → IsAtRest f → settled f ≡ f
settles f r = λ i. record { table = f.table; now = f.now; taken = sym r.taken i; room = f.room; changes = sym r.changes i }

pub all_alike : (fs : List FragmentRows) → AllZip IsSettled fs (map settled fs)
all_alike [] = tt
all_alike (f ∷ fs) = (refl, all_alike fs)

module _ (fs : List FragmentRows) (ms : List (Option Mode)) (ns : List ℕ) (w : IsWholeInstance fs ms ns) where
  held_or_free : (n : ℕ) (f : FragmentRows) → slice_get fs n ≡ Some f → In n ns ⊎ (mode_at ms n ≡ None)
  held_or_free n f e = elim (number_or_free fs ms n f e) [ inl m ↦ inl (subst (In n) (sym w.numbers_held) m) | inr p ↦ inr p ]

  held_or_rests : (n : ℕ) (f : FragmentRows) → slice_get fs n ≡ Some f → In n ns ⊎ IsAtRest f
  held_or_rests n f e =
      let s : Stripe = record { fragment = f; held = mode_at ms n } in
      elim (held_or_free n f e) [ inl m ↦ inl m | inr p ↦ inr (w.stripes.free s (slice_get_in (stripes_of fs ms) n s (stripes_of-there fs ms n f e)) p) ]

  pub are_below : AreBelow (length fs) ns
  are_below n m =
      let l : n < 0 + length (stripes_of fs ms) = numbers_below 0 (stripes_of fs ms) n (subst (In n) w.numbers_held m) in
      omega (arith, l, stripes_of-length fs ms)

  pub all_rolled_back : each_at rolled_back ns fs ≡ map rolled_back fs
  all_rolled_back = each_at-all rolled_back (λ _. refl) ns fs (λ n f e. elim (held_or_rests n f e) [ inl m ↦ inl m | inr r ↦ inr (rests f r) ])

  pub all_settled : each_at settled ns fs ≡ map settled fs
  all_settled = each_at-all settled (λ _. refl) ns fs (λ n f e. elim (held_or_rests n f e) [ inl m ↦ inl m | inr r ↦ inr (settles f r) ])

  pub all_free : (gs : List FragmentRows) → length gs ≡ length fs → stripes_of gs (each_at (λ _. None) ns ms) ≡ stripes_of gs []
  all_free gs same = stripes_of-free gs (each_at (λ _. None) ns ms) (λ n l.
      let f : (f : FragmentRows) × (slice_get fs n ≡ Some f) = place_in fs n (omega (arith, l, same)) in none-each_at ns ms n (held_or_free n f.0 f.1))

  pub whole_reverted : (numbers : List ℕ) → numbers ≡ ns → IsWholeInstance (map rolled_back fs) ms numbers
  whole_reverted numbers e = record {
    stripes = subst IsInstance (sym (stripes_of-reverted fs ms)) (instance-reverted (stripes_of fs ms) w.stripes);
    few = subst (λ z. z ≤ 256) (sym (length-map fs rolled_back)) w.few;
    numbers_held = e ∙ w.numbers_held ∙ sym (ap (held_numbers 0) (stripes_of-reverted fs ms) ∙ numbers-reverted 0 (stripes_of fs ms));
  }

  -- the stripes once all are settled and free
  freed : stripes_of (map settled fs) (each_at (λ _. None) ns ms) ≡ stripes_of (map settled fs) (replicate 256 None)
  freed = all_free (map settled fs) (length-map fs settled) ∙ sym (stripes_of-none (map settled fs) 256)

  pub whole_released : IsWholeInstance (map settled fs) (each_at (λ _. None) ns ms) []
  whole_released = record {
    stripes = subst IsInstance (sym freed) (released_instance fs (map settled fs) (all_alike fs) ms w.stripes 256);
    few = subst (λ z. z ≤ 256) (sym (length-map fs settled)) w.few;
    numbers_held = sym (ap (held_numbers 0) freed ∙ numbers-free (map settled fs) 256);
  }

  pub are_released : AreReleased (stripes_of fs ms) (stripes_of (map settled fs) (each_at (λ _. None) ns ms))
  are_released = subst (AreReleased (stripes_of fs ms)) (sym freed) (released fs (map settled fs) (all_alike fs) ms w.stripes 256)
