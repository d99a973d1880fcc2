-- One held stripe changed, or given back, and all that is held changed.
use Rattle.std.proofs.Common.{◌≡◌, ℕ, zero, suc, ◌+◌, ◌-◌, ◌<◌, ◌==◌, Bool, true, false, List, [], ◌∷◌, ◌++◌, length, map, not, cond, get_or, set, take, drop, sym, refl, ap, ◌∙◌, subst, inl, inr, arith, add-one}
use Rattle.rc_row.proofs.Imports.{remove, Less, nat_cmp, eq-eqb, ne_eqb, ranked, map-append, filter-append, All-nil, All-cons, All-append, All-same, remove-append_right, set-append_seam, In, IsRising, FragmentRows, Hold, hold, stripes_in, other_holds, HeldRows, Slot, hand_out, hands_out, OfHeld, all_with, held_with, held_without, holds_taken, with_fragment, IsHeldAt}
use Rattle.rc_row.proofs.TurnLemmas.{stripes_of-append}

-- ---- stripes that aren't there

none_changed : (p : ℕ) (change : FragmentRows → FragmentRows) (held : List HeldRows) → (In p (stripes_in (holds_taken held)) → ⊥) → held_with p change held ≡ held
none_changed p change [] none = refl
none_changed p change (h ∷ held) none =
    (λ i. record h { fragment = cond (ne_eqb h.stripe p (λ e. none (inl (sym e))) i) (change h.fragment) h.fragment } ∷ held_with p change held)
    ∙ ap (λ (hs : List HeldRows). h ∷ hs) (none_changed p change held (λ m. none (inr m)))

none_gone : (p : ℕ) (held : List HeldRows) → (In p (stripes_in (holds_taken held)) → ⊥) → held_without held p ≡ held
none_gone p [] none = refl
none_gone p (h ∷ held) none =
    ap (λ (b : Bool). cond (not b) (h ∷ held_without held p) (held_without held p)) (ne_eqb h.stripe p (λ e. none (inl (sym e))))
    ∙ ap (λ (hs : List HeldRows). h ∷ hs) (none_gone p held (λ m. none (inr m)))

none_asked : (p : ℕ) (fact : FragmentRows → Type 0) (held : List HeldRows) → (In p (stripes_in (holds_taken held)) → ⊥) → OfHeld held p fact
none_asked p fact [] none = All-nil (λ (h : HeldRows). h.stripe ≡ p → fact h.fragment)
none_asked p fact (h ∷ held) none =
    All-cons (λ (x : HeldRows). x.stripe ≡ p → fact x.fragment) h held (λ e. absurd (none (inl (sym e)))) (none_asked p fact held (λ m. none (inr m)))

rising_after : (xs ys : List ℕ) → IsRising nat_cmp (xs ++ ys) → IsRising nat_cmp ys
rising_after [] ys up = up
rising_after (x ∷ xs) ys up = rising_after xs ys up.1

-- ---- the stripe that is there

-- what is held at the stripe gets this fragment
abbrev pub here_with : (FragmentRows → FragmentRows) → HeldRows → HeldRows
here_with change h = record h { fragment = change h.fragment }

module _ (held : List HeldRows) (p at : ℕ) (h : IsHeldAt held p at) where
  pub removed_here : remove held at ≡ h.before ++ h.after
  removed_here = (λ i. remove (h.is i) (sym h.place i)) ∙ remove-append_right h.before (h.here ∷ h.after) (length h.before) (length h.before) refl (omega arith) ∙ at_zero (length h.before)
    where
      at_zero : (n : ℕ) → h.before ++ remove (h.here ∷ h.after) (n - n) ≡ h.before ++ h.after
      at_zero n = let e : n - n ≡ 0 = omega arith in ap (λ (i : ℕ). h.before ++ remove (h.here ∷ h.after) i) e

  module _ (up : IsRising nat_cmp (stripes_in (holds_taken held))) where
    pub not_after : In p (stripes_in (holds_taken h.after)) → ⊥
    not_after m =
        let all = subst (IsRising nat_cmp) (ap (λ (hs : List HeldRows). stripes_in (holds_taken hs)) h.is ∙ stripes_of-append h.before (h.here ∷ h.after)) up in
        let more = rising_after (stripes_in (holds_taken h.before)) (h.here.stripe ∷ stripes_in (holds_taken h.after)) all in
        let below = ranked h.here.stripe p Less (sym (more.0 p m)) in
        let e = h.stripe in
        omega (arith, below)

    pub changed_here : (change : FragmentRows → FragmentRows) → set held at (here_with change h.here) ≡ held_with p change held
    changed_here change =
        (λ i. set (h.is i) (sym h.place i) (here_with change h.here)) ∙ set-append_seam h.before h.here h.after (here_with change h.here)
        ∙ sym (ap (held_with p change) h.is ∙ map-append (with_fragment (λ (x : HeldRows). cond (x.stripe == p) (change x.fragment) x.fragment)) h.before (h.here ∷ h.after)
        ∙ (λ i. none_changed p change h.before h.first i ++ record h.here { fragment = cond (eq-eqb h.here.stripe p h.stripe i) (change h.here.fragment) h.here.fragment } ∷ none_changed p change h.after not_after i))

    -- what is read at the place, with its fragment changed so
    pub set_here : (change : FragmentRows → FragmentRows) (x : HeldRows) (f : FragmentRows) → x ≡ h.here → f ≡ change x.fragment → set held at (record x { fragment = f }) ≡ held_with p change held
    set_here change x f is e = ap (λ (g : FragmentRows). set held at (record x { fragment = g })) e ∙ ap (λ (y : HeldRows). set held at (here_with change y)) is ∙ changed_here change

    pub gone_here : held_without held p ≡ h.before ++ h.after
    gone_here =
        ap (λ (hs : List HeldRows). held_without hs p) h.is ∙ filter-append (λ (x : HeldRows). not (x.stripe == p)) h.before (h.here ∷ h.after)
        ∙ (λ i. none_gone p h.before h.first i ++ cond (not (eq-eqb h.here.stripe p h.stripe i)) (h.here ∷ held_without h.after p) (held_without h.after p))
        ∙ ap (λ (hs : List HeldRows). h.before ++ hs) (none_gone p h.after not_after)

    pub of_held_here : (fact : FragmentRows → Type 0) → fact h.here.fragment → OfHeld held p fact
    of_held_here fact here =
        All-same (λ (x : HeldRows). x.stripe ≡ p → fact x.fragment) held (h.before ++ h.here ∷ h.after) h.is
        (All-append (λ (x : HeldRows). x.stripe ≡ p → fact x.fragment) h.before (h.here ∷ h.after) (none_asked p fact h.before h.first)
        (All-cons (λ (x : HeldRows). x.stripe ≡ p → fact x.fragment) h.here h.after (λ e. here) (none_asked p fact h.after not_after)))

-- a fragment that stays leaves what is held
pub same_held : (p : ℕ) (held : List HeldRows) → held_with p (λ f. f) held ≡ held
same_held p [] = refl
same_held p (h ∷ held) = λ i. record h { fragment = go (h.stripe == p) i } ∷ same_held p held i
  where
    go : (b : Bool) → cond b h.fragment h.fragment ≡ h.fragment
    go true = refl
    go false = refl

-- ---- what the core sees of changes

pub hands-with : (g : HeldRows → FragmentRows) (held : List HeldRows) (n k : ℕ) → hands_out n k (map (with_fragment g) held) ≡ hands_out n k held
hands-with g [] n k = refl
hands-with g (h ∷ held) n k = ap (λ (slots : List (ℕ × Slot)). slots ++ hand_out n k h.mode h.stripe) (hands-with g held n k)

pub taken-with : (g : HeldRows → FragmentRows) → ((h : HeldRows) → (g h).taken ≡ h.fragment.taken) → (held : List HeldRows) → holds_taken (map (with_fragment g) held) ≡ holds_taken held
taken-with g same [] = refl
taken-with g same (h ∷ held) = λ i. hold h.stripe h.mode (same h i) ∷ taken-with g same held i

pub taken-held_with : (p : ℕ) (change : FragmentRows → FragmentRows) → ((f : FragmentRows) → (change f).taken ≡ f.taken) → (held : List HeldRows) → holds_taken (held_with p change held) ≡ holds_taken held
taken-held_with p change same held = taken-with (λ (h : HeldRows). cond (h.stripe == p) (change h.fragment) h.fragment) (λ h. either (h.stripe == p) h.fragment) held
  where
    either : (b : Bool) (f : FragmentRows) → (cond b (change f) f).taken ≡ f.taken
    either true f = same f
    either false f = refl

pub hands-held_with : (p : ℕ) (change : FragmentRows → FragmentRows) (held : List HeldRows) (n k : ℕ) → hands_out n k (held_with p change held) ≡ hands_out n k held
hands-held_with p change held = hands-with (λ (h : HeldRows). cond (h.stripe == p) (change h.fragment) h.fragment) held

pub taken-without : (p : ℕ) (held : List HeldRows) → holds_taken (held_without held p) ≡ other_holds (holds_taken held) p
taken-without p [] = refl
taken-without p (h ∷ held) = go (taken-without p held) (not (h.stripe == p))
  where
    go : holds_taken (held_without held p) ≡ other_holds (holds_taken held) p → (b : Bool) → holds_taken (cond b (h ∷ held_without held p) (held_without held p)) ≡ cond b (hold h.stripe h.mode h.fragment.taken ∷ other_holds (holds_taken held) p) (other_holds (holds_taken held) p)
    go same true = ap (λ (hs : List Hold). hold h.stripe h.mode h.fragment.taken ∷ hs) same
    go same false = same

-- ---- the loop that changes all

pub all_more : (change : FragmentRows → FragmentRows) (held : List HeldRows) (i : ℕ) (d x : HeldRows) → i < length held → x ≡ get_or (all_with change (take i held) ++ drop i held) i d
    → set (all_with change (take i held) ++ drop i held) i (here_with change x) ≡ all_with change (take (i + 1) held) ++ drop (i + 1) held
all_more change held i d x lt e = go held i lt e ∙ ap (λ (n : ℕ). all_with change (take n held) ++ drop n held) (sym (add-one i))
  where
    go : (hs : List HeldRows) (j : ℕ) → j < length hs → x ≡ get_or (all_with change (take j hs) ++ drop j hs) j d → set (all_with change (take j hs) ++ drop j hs) j (here_with change x) ≡ all_with change (take (suc j) hs) ++ drop (suc j) hs
    go [] j lt' e' = absurd (omega arith)
    go (h ∷ hs) zero lt' e' = ap (λ (y : HeldRows). here_with change y ∷ hs) e'
    go (h ∷ hs) (suc j) lt' e' = ap (λ (ys : List HeldRows). here_with change h ∷ ys) (go hs j (omega arith) e')
