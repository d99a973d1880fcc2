-- Laws of lists: what stands at a place after a change, and which numbers a list has.
use Rattle.std.proofs.Common.{◌≡◌, ◌≢◌, ℕ, zero, suc, ◌<◌, ◌⊎◌, ◌||◌, ◌&&◌, ◌==◌, Bool, true, false, List, [], ◌∷◌, ◌++◌, filter, not, cond, if◌then◌else◌, length, set, get_or, Some, sym, refl, ap, ◌∙◌, subst, inl, inr, arith}
use Rattle.rc_core.specs.Imports.{slice_get, Ordering, Less, Equal, Greater, match_ordering, nat_cmp, In, IsRising, put, in_has, has_in, same_bool, in_filter, filter_in, in_map, map_in, in_append, append_in_left, append_in_right, in_put, put_new, put_old, nat_order, has, has-filter, Mode, Shared, Exclusive, EdgeRow}
use Rattle.std.proofs.lemmas.Cmp.{ranked}
use Rattle.std.proofs.lemmas.Bool.{false≢true, cases_eq, eq-eqb, ne_eqb, not_from_false, not-true, eqb-false}
use Rattle.std.proofs.lemmas.List.{get_or-set_same, get_or-set_other}
use Rattle.rc_core.specs.declared.state.Hold.{Hold}
use Rattle.rc_core.specs.Passes.{other_holds, rows_of_hold}
use Rattle.rc_core.specs.State.{hold, stripes_in, is_mode, held_in}

module _ {A : Type 0} where
  pub at_set : (l : List A) (i j : ℕ) (a b : A) → slice_get (set l i a) j ≡ Some b → ((j ≡ i) × (a ≡ b)) ⊎ ((j ≢ i) × (slice_get l j ≡ Some b))
  at_set [] i j a b e = cc
  at_set (x ∷ xs) zero zero a b e = inl (refl, cc)
  at_set (x ∷ xs) zero (suc j) a b e = inr ((λ h. omega arith), e)
  at_set (x ∷ xs) (suc i) zero a b e = inr ((λ h. omega arith), e)
  at_set (x ∷ xs) (suc i) (suc j) a b e = elim (at_set xs i j a b e) [ inl t ↦ inl (ap suc t.0, t.1) | inr t ↦ (let n = t.0 in inr ((λ h. n (omega arith)), t.1)) ]

  pub get_set_same : (l : List A) (i : ℕ) (a b : A) → slice_get l i ≡ Some b → slice_get (set l i a) i ≡ Some a
  get_set_same [] i a b e = cc
  get_set_same (x ∷ xs) zero a b e = refl
  get_set_same (x ∷ xs) (suc i) a b e = get_set_same xs i a b e

  pub get_set_other : (l : List A) (i j : ℕ) (a : A) → j ≢ i → slice_get (set l i a) j ≡ slice_get l j
  get_set_other [] i j a n = refl
  get_set_other (x ∷ xs) zero zero a n = absurd (n refl)
  get_set_other (x ∷ xs) zero (suc j) a n = refl
  get_set_other (x ∷ xs) (suc i) zero a n = refl
  get_set_other (x ∷ xs) (suc i) (suc j) a n = get_set_other xs i j a (λ e. n (ap suc e))

  -- what is true of the changed element and of the others is true of each
  pub each_changed : (P : ℕ → A → Type 0) (l : List A) (i : ℕ) (a d : A) → i < length l → P i a → ((j : ℕ) → j ≢ i → P j (get_or l j d)) → (j : ℕ) → P j (get_or (set l i a) j d)
  each_changed P l i a d lt here there j = elim (cases_eq j i) [
    | inl e ↦ subst (λ n. P n (get_or (set l i a) n d)) (sym e) (subst (P i) (sym (get_or-set_same l i a d lt)) here)
    | inr n ↦ subst (P j) (sym (get_or-set_other l i j a d n)) (there j n)
  ]

-- ---- whether a number is in a list

pub or_false : (b : Bool) → (b || false) ≡ b
or_false true = refl
or_false false = refl

pub or_true : (b : Bool) → (b || true) ≡ true
or_true true = refl
or_true false = refl

pub same_has : (xs ys : List ℕ) (q : ℕ) → (In q xs → In q ys) → (In q ys → In q xs) → has xs q ≡ has ys q
same_has xs ys q f g = same_bool (has xs q) (has ys q) (λ e. has_in ys q (f (in_has xs q e))) (λ e. has_in xs q (g (in_has ys q e)))

pub not_has : (xs : List ℕ) (q : ℕ) → (In q xs → ⊥) → has xs q ≡ false
not_has xs q f = go (has xs q) refl
  where
    go : (b : Bool) → has xs q ≡ b → b ≡ false
    go true e = absurd (f (in_has xs q e))
    go false e = refl

-- a number put in, and one taken out
pub has-put_same : (k : ℕ) (xs : List ℕ) → has (put nat_cmp k xs) k ≡ true
has-put_same k xs = has_in (put nat_cmp k xs) k (put_new nat_cmp nat_order k xs)

pub has-put_other : (k j : ℕ) (xs : List ℕ) → j ≢ k → has (put nat_cmp k xs) j ≡ has xs j
has-put_other k j xs n = same_has (put nat_cmp k xs) xs j
    (λ m. elim (in_put nat_cmp nat_order j k xs m) [ inl e ↦ absurd (n e) | inr h ↦ h ])
    (λ m. put_old nat_cmp nat_order j k xs m)

abbrev pub all_but : ℕ → List ℕ → List ℕ
all_but k xs = filter (λ j. not (j == k)) xs

pub in_all_but : (k j : ℕ) (xs : List ℕ) → In j (all_but k xs) → In j xs × (j ≢ k)
in_all_but k j xs m =
    let q : In j xs × (not (j == k) ≡ true) = in_filter (λ i. not (i == k)) j xs m in
    (q.0, eqb-false j k (not-true (j == k) q.1))

pub has-all_but_same : (k : ℕ) (xs : List ℕ) → has (all_but k xs) k ≡ false
has-all_but_same k xs = has-filter (λ j. not (j == k)) xs k ∙ ap (λ b. not b && has xs k) (eq-eqb k k refl)

pub has-all_but_other : (k j : ℕ) (xs : List ℕ) → j ≢ k → has (all_but k xs) j ≡ has xs j
has-all_but_other k j xs n = has-filter (λ i. not (i == k)) xs j ∙ ap (λ b. not b && has xs j) (ne_eqb j k n)

-- one number more in a list that hasn't it
pub length-put_new : (k : ℕ) (xs : List ℕ) → (In k xs → ⊥) → length (put nat_cmp k xs) ≡ suc (length xs)
length-put_new k [] out = refl
length-put_new k (x ∷ xs) out = go (nat_cmp k x) refl (length-put_new k xs (λ m. out (inr m)))
  where
    go : (o : Ordering) → nat_cmp k x ≡ o → length (put nat_cmp k xs) ≡ suc (length xs) → length (match_ordering o (k ∷ (x ∷ xs)) (x ∷ xs) (x ∷ put nat_cmp k xs)) ≡ suc (length (x ∷ xs))
    go Less e ih = refl
    go Equal e ih = absurd (out (inl (nat_order.ties k x e)))
    go Greater e ih = ap suc ih

length-all_but_absent : (k : ℕ) (xs : List ℕ) → (In k xs → ⊥) → length (all_but k xs) ≡ length xs
length-all_but_absent k [] out = refl
length-all_but_absent k (x ∷ xs) out = ap (λ b. length (cond (not b) (x ∷ all_but k xs) (all_but k xs))) (ne_eqb x k (λ e. out (inl (sym e)))) ∙ ap suc (length-all_but_absent k xs (λ m. out (inr m)))

-- one number less in a rising list that has it
pub length-all_but : (k : ℕ) (xs : List ℕ) → IsRising nat_cmp xs → In k xs → suc (length (all_but k xs)) ≡ length xs
length-all_but k [] up m = absurd m
length-all_but k (x ∷ xs) up m = elim (cases_eq x k) [
  | inl e ↦ ap (λ b. suc (length (cond (not b) (x ∷ all_but k xs) (all_but k xs)))) (eq-eqb x k e) ∙ ap suc (length-all_but_absent k xs (λ n. (let l = ranked x k Less (sym (up.0 k n)) in omega (arith, l, e))))
  | inr n ↦ ap (λ b. suc (length (cond (not b) (x ∷ all_but k xs) (all_but k xs)))) (ne_eqb x k n) ∙ ap suc (length-all_but k xs up.1 (later n m))
]
  where
    later : x ≢ k → In k (x ∷ xs) → In k xs
    later n (inl e) = absurd (n (sym e))
    later n (inr y) = y

-- ---- stripes of holds

pub in_stripes : (q : ℕ) (holds : List Hold) → In q (stripes_in holds) → (h : Hold) × In h holds × (q ≡ h.stripe)
in_stripes q holds m = in_map (λ (h : Hold). h.stripe) q holds m

pub stripes_have : (h : Hold) (holds : List Hold) → In h holds → In h.stripe (stripes_in holds)
stripes_have h holds m = map_in (λ (h : Hold). h.stripe) h holds m

pub in_without : (p : ℕ) (h : Hold) (holds : List Hold) → In h (other_holds holds p) → In h holds × (h.stripe ≢ p)
in_without p h holds m =
    let q : In h holds × (not (h.stripe == p) ≡ true) = in_filter (λ (x : Hold). not (x.stripe == p)) h holds m in
    (q.0, eqb-false h.stripe p (not-true (h.stripe == p) q.1))

pub stripes_without : (p q : ℕ) (holds : List Hold) → In q (stripes_in (other_holds holds p)) → In q (stripes_in holds) × (q ≢ p)
stripes_without p q holds m =
    let w = in_stripes q (other_holds holds p) m in
    let x = in_without p w.0 holds w.1 in
    (subst (λ n. In n (stripes_in holds)) (sym w.2) (stripes_have w.0 holds x.0), subst (λ n. n ≢ p) (sym w.2) x.1)

-- ---- holds in a mode

same_mode : (m n : Mode) → is_mode m n ≡ true → n ≡ m
same_mode Exclusive Exclusive e = refl
same_mode Exclusive Shared e = absurd (false≢true e)
same_mode Shared Exclusive e = absurd (false≢true e)
same_mode Shared Shared e = refl

mode_itself : (m : Mode) → is_mode m m ≡ true
mode_itself Exclusive = refl
mode_itself Shared = refl

pub in_held_in : (m : Mode) (h : Hold) (holds : List Hold) → In h (held_in m holds) → In h holds × (h.mode ≡ m)
in_held_in m h holds x =
    let q : In h holds × (is_mode m h.mode ≡ true) = in_filter (λ (y : Hold). is_mode m y.mode) h holds x in
    (q.0, same_mode m h.mode q.1)

pub held_in_in : (m : Mode) (h : Hold) (holds : List Hold) → In h holds → h.mode ≡ m → In h (held_in m holds)
held_in_in m h holds x e = filter_in (λ (y : Hold). is_mode m y.mode) h holds x (ap (is_mode m) e ∙ mode_itself m)

-- a stripe held in a mode, by its hold
pub in_stripes_in : (m : Mode) (q : ℕ) (holds : List Hold) → In q (stripes_in (held_in m holds)) → (h : Hold) × In h holds × (h.mode ≡ m) × (q ≡ h.stripe)
in_stripes_in m q holds x =
    let w = in_stripes q (held_in m holds) x in
    let y = in_held_in m w.0 holds w.1 in
    (w.0, y.0, y.1, w.2)

pub stripes_in_have : (m : Mode) (h : Hold) (holds : List Hold) → In h holds → h.mode ≡ m → In h.stripe (stripes_in (held_in m holds))
stripes_in_have m h holds x e = stripes_have h (held_in m holds) (held_in_in m h holds x e)

pub stripes_in_held : (m : Mode) (q : ℕ) (holds : List Hold) → In q (stripes_in (held_in m holds)) → In q (stripes_in holds)
stripes_in_held m q holds x = let w = in_stripes_in m q holds x in subst (λ n. In n (stripes_in holds)) (sym w.3) (stripes_have w.0 holds w.1)

-- one more hold
more_held : (m : Mode) (q : ℕ) (holds : List Hold) (h : Hold) → In q (stripes_in (held_in m holds)) → In q (stripes_in (held_in m (holds ++ h ∷ [])))
more_held m q holds h x =
    let w = in_stripes_in m q holds x in
    subst (λ n. In n (stripes_in (held_in m (holds ++ h ∷ [])))) (sym w.3) (stripes_in_have m w.0 (holds ++ h ∷ []) (append_in_left w.0 holds (h ∷ []) w.1) w.2)

pub less_held : (m : Mode) (q : ℕ) (holds : List Hold) (h : Hold) → In q (stripes_in (held_in m (holds ++ h ∷ []))) → In q (stripes_in (held_in m holds)) ⊎ ((h.mode ≡ m) × (q ≡ h.stripe))
less_held m q holds h x =
    let w = in_stripes_in m q (holds ++ h ∷ []) x in
    elim (in_append w.0 holds (h ∷ []) w.1) [
      | inl y ↦ inl (subst (λ n. In n (stripes_in (held_in m holds))) (sym w.3) (stripes_in_have m w.0 holds y w.2))
      | inr (inl e) ↦ inr (ap (λ (y : Hold). y.mode) (sym e) ∙ w.2, w.3 ∙ ap (λ (y : Hold). y.stripe) e)
      | inr (inr z) ↦ absurd z
    ]

pub has-held_end : (m : Mode) (holds : List Hold) (h : Hold) → h.mode ≡ m → has (stripes_in (held_in m (holds ++ h ∷ []))) h.stripe ≡ true
has-held_end m holds h e = has_in (stripes_in (held_in m (holds ++ h ∷ []))) h.stripe (stripes_in_have m h (holds ++ h ∷ []) (append_in_right h holds (h ∷ []) (inl refl)) e)

pub has-held_more : (m : Mode) (holds : List Hold) (h : Hold) (q : ℕ) → (h.mode ≡ m → q ≡ h.stripe → ⊥) → has (stripes_in (held_in m (holds ++ h ∷ []))) q ≡ has (stripes_in (held_in m holds)) q
has-held_more m holds h q n = same_has (stripes_in (held_in m (holds ++ h ∷ []))) (stripes_in (held_in m holds)) q
    (λ x. elim (less_held m q holds h x) [ inl y ↦ y | inr y ↦ absurd (n y.0 y.1) ])
    (λ x. more_held m q holds h x)

-- one hold less
pub held_without : (m : Mode) (p q : ℕ) (holds : List Hold) → In q (stripes_in (held_in m (other_holds holds p))) → In q (stripes_in (held_in m holds)) × (q ≢ p)
held_without m p q holds x =
    let w = in_stripes_in m q (other_holds holds p) x in
    let y = in_without p w.0 holds w.1 in
    (subst (λ n. In n (stripes_in (held_in m holds))) (sym w.3) (stripes_in_have m w.0 holds y.0 w.2), subst (λ n. n ≢ p) (sym w.3) y.1)

pub has-held_without_same : (m : Mode) (holds : List Hold) (p : ℕ) → has (stripes_in (held_in m (other_holds holds p))) p ≡ false
has-held_without_same m holds p = not_has (stripes_in (held_in m (other_holds holds p))) p (λ x. (held_without m p p holds x).1 refl)

pub has-held_without_other : (m : Mode) (holds : List Hold) (p q : ℕ) → q ≢ p → has (stripes_in (held_in m (other_holds holds p))) q ≡ has (stripes_in (held_in m holds)) q
has-held_without_other m holds p q n = same_has (stripes_in (held_in m (other_holds holds p))) (stripes_in (held_in m holds)) q
    (λ x. (held_without m p q holds x).0)
    (λ x. let w = in_stripes_in m q holds x in
    subst (λ i. In i (stripes_in (held_in m (other_holds holds p)))) (sym w.3)
    (stripes_in_have m w.0 (other_holds holds p) (filter_in (λ (y : Hold). not (y.stripe == p)) w.0 holds w.1 (not_from_false (w.0.stripe == p) (ne_eqb w.0.stripe p (λ e. n (w.3 ∙ e))))) w.2))

-- the others, by their numbers
pub stripes-other : (holds : List Hold) (p : ℕ) → stripes_in (other_holds holds p) ≡ all_but p (stripes_in holds)
stripes-other [] p = refl
stripes-other (h ∷ holds) p = go (stripes-other holds p) (not (h.stripe == p))
  where
    go : stripes_in (other_holds holds p) ≡ all_but p (stripes_in holds) → (b : Bool) → stripes_in (cond b (h ∷ other_holds holds p) (other_holds holds p)) ≡ cond b (h.stripe ∷ all_but p (stripes_in holds)) (all_but p (stripes_in holds))
    go same true = ap (λ (xs : List ℕ). h.stripe ∷ xs) same
    go same false = same

-- a hold above all others, taken out again and looked up
pub other-end : (holds : List Hold) (p : ℕ) (mode : Mode) (rows : List EdgeRow) → ((q : ℕ) → In q (stripes_in holds) → q < p) → other_holds (holds ++ hold p mode rows ∷ []) p ≡ holds
other-end [] p mode rows above = ap (λ (b : Bool). cond (not b) (hold p mode rows ∷ []) []) (eq-eqb p p refl)
other-end (h ∷ holds) p mode rows above =
    ap (λ (b : Bool). cond (not b) (h ∷ other_holds (holds ++ hold p mode rows ∷ []) p) (other_holds (holds ++ hold p mode rows ∷ []) p)) (ne_eqb h.stripe p (λ e. let l = above h.stripe (inl refl) in omega arith))
    ∙ ap (λ (hs : List Hold). h ∷ hs) (other-end holds p mode rows (λ q m. above q (inr m)))

pub rows-end : (holds : List Hold) (p : ℕ) (mode : Mode) (rows : List EdgeRow) → ((q : ℕ) → In q (stripes_in holds) → q < p) → rows_of_hold (holds ++ hold p mode rows ∷ []) p ≡ rows
rows-end [] p mode rows above = ap (λ (b : Bool). if b then rows else []) (eq-eqb p p refl)
rows-end (h ∷ holds) p mode rows above =
    ap (λ (b : Bool). if b then h.rows else rows_of_hold (holds ++ hold p mode rows ∷ []) p) (ne_eqb h.stripe p (λ e. let l = above h.stripe (inl refl) in omega arith))
    ∙ rows-end holds p mode rows (λ q m. above q (inr m))

-- ---- rising lists

module _ {A : Type 0} (R : A → A → Ordering) where
  pub rising_end : (xs : List A) (x : A) → IsRising R xs → ((y : A) → In y xs → R y x ≡ Less) → IsRising R (xs ++ x ∷ [])
  rising_end [] x up above = ((λ y m. absurd m), tt)
  rising_end (y ∷ ys) x up above = ((λ z m. first z m), rising_end ys x up.1 (λ z m. above z (inr m)))
    where
      first : (z : A) → In z (ys ++ x ∷ []) → R y z ≡ Less
      first z m = elim (in_append z ys (x ∷ []) m) [
        | inl n ↦ up.0 z n
        | inr (inl e) ↦ subst (λ w. R y w ≡ Less) (sym e) (above y (inl refl))
        | inr (inr n) ↦ absurd n
      ]
