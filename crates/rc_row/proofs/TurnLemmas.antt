-- Where the fragment of a held stripe is, and what turning the slots of a seat does.
use Rattle.std.proofs.Common.{◌≡◌, ℕ, zero, suc, ◌+◌, ◌<◌, ◌==◌, Bool, List, [], ◌∷◌, ◌++◌, length, get_or, take, drop, sym, refl, ap, ◌∙◌, subst, inl, inr, cond, arith, length-append}
use Rattle.rc_row.proofs.Imports.{Less, nat_cmp, cases_eq, eq-eqb, ne_eqb, ranked, append-nil, take_more, length-take-le, take-append-drop, drop-cons, get_or-append_seam, In, IsRising, get_or_in, map_in, Exclusive, hold, stripes_in, stripes_have, HeldRows, Empty, Slot, hand_out, hands_out, own_hands, turned_times, holds_taken, IsHeldAt}
use Rattle.rc_row.proofs.OwnHandsLemmas.{hands_out-append, out_first, out_last}

nothing : (slots : List (ℕ × Slot)) → length slots ≡ 0 → slots ≡ []
nothing [] e = refl
nothing (x ∷ slots) e = absurd (omega arith)

-- ---- where a stripe is

-- the stripes of a list of fragments
pub stripes_of-append : (a b : List HeldRows) → stripes_in (holds_taken (a ++ b)) ≡ stripes_in (holds_taken a) ++ stripes_in (holds_taken b)
stripes_of-append [] b = refl
stripes_of-append (h ∷ a) b = ap (λ (xs : List ℕ). h.stripe ∷ xs) (stripes_of-append a b)

-- in rising stripes none is twice
pub not_before : (held : List HeldRows) (p i : ℕ) (d : HeldRows) → i < length held → IsRising nat_cmp (stripes_in (holds_taken held)) → d.stripe ≡ p → d ≡ get_or held i d
    → In p (stripes_in (holds_taken (take i held))) → ⊥
not_before [] p i d lt up same is m = absurd (omega arith)
not_before (h ∷ held) p zero d lt up same is m = absurd m
not_before (h ∷ held) p (suc i) d lt up same is m = elim m [
  | inl e ↦
      let here : In d held = subst (λ (x : HeldRows). In x held) (sym is) (get_or_in held i d (omega arith)) in
      let held_so = λ (x : HeldRows). hold x.stripe x.mode x.fragment.taken in
      let there : In d.stripe (stripes_in (holds_taken held)) = stripes_have (held_so d) (holds_taken held) (map_in held_so d held here) in
      let below = ranked h.stripe p Less (sym (up.0 p (subst (λ (q : ℕ). In q (stripes_in (holds_taken held))) same there))) in
      omega (arith, below, e)
  | inr n ↦ not_before held p i d (omega arith) up.1 same is n
]

pub is_held_at : (held : List HeldRows) (p i : ℕ) (d : HeldRows) → i < length held → (In p (stripes_in (holds_taken (take i held))) → ⊥) → d.stripe ≡ p → d ≡ get_or held i d → IsHeldAt held p i
is_held_at held p i d lt none stripe is = record {
  before = take i held;
  here = d;
  after = drop (suc i) held;
  is = sym (take-append-drop i held) ∙ ap (λ (hs : List HeldRows). take i held ++ hs) (drop-cons held i d lt ∙ ap (λ (x : HeldRows). x ∷ drop (suc i) held) (sym is));
  stripe = stripe;
  place = length-take-le i held (omega arith);
  took = refl;
  left = refl;
  first = none;
}

-- ---- what giving a stripe back does to the slots of a seat

length-own_hands : (n p : ℕ) (x : ℕ → Slot) → length (own_hands n p x) ≡ n
length-own_hands zero p x = refl
length-own_hands (suc n) p x = ap suc (length-own_hands n p x)

-- how many slots one held stripe counts for
pub length-written : (n k p : ℕ) → length (hand_out n k Exclusive p) ≡ suc n
length-written n k p = ap suc (length-own_hands n p (λ j. Empty))

-- counted for the same number of passes
pub count_as : (n m k x : ℕ) (held : List HeldRows) → n ≡ m → x ≡ length (hands_out n k held) → x ≡ length (hands_out m k held)
count_as n m k x held same is = is ∙ ap (λ (j : ℕ). length (hands_out j k held)) same

pub back_as : (n m k above x : ℕ) (held : List HeldRows) → n ≡ m → x ≡ cond (above == 0) 0 (length (hands_out n k held)) → x ≡ cond (above == 0) 0 (length (hands_out m k held))
back_as n m k above x held same is = is ∙ ap (λ (j : ℕ). cond (above == 0) 0 (length (hands_out j k held))) same

pub hands_more : (n k : ℕ) (held : List HeldRows) (i : ℕ) (d : HeldRows) → i < length held → d ≡ get_or held i d
    → length (hands_out n k (take (i + 1) held)) ≡ length (hand_out n k d.mode d.stripe) + length (hands_out n k (take i held))
hands_more n k held i d lt is =
    ap (λ (hs : List HeldRows). length (hands_out n k hs)) (take_more held i d lt ∙ ap (λ (x : HeldRows). take i held ++ x ∷ []) (sym is))
    ∙ ap length (hands_out-append n k (take i held) (d ∷ [])) ∙ length-append (hand_out n k d.mode d.stripe) (hands_out n k (take i held))

module _ (held : List HeldRows) (p at : ℕ) (h : IsHeldAt held p at) where
  pub place_inside : at < length held
  place_inside = let a = ap length h.is ∙ length-append h.before (h.here ∷ h.after) in let b = h.place in omega arith

  -- what is read there is the fragment of the stripe
  pub read_here : (d : HeldRows) → get_or held at d ≡ h.here
  read_here d = (λ i. get_or (h.is i) (sym h.place i) d) ∙ get_or-append_seam h.before h.here h.after d

  module _ (n k : ℕ) where
    -- turned by those above it, what the stripe has out is in front
    pub turned_first : (above : ℕ) (slots : List (ℕ × Slot)) → above ≡ length (hands_out n k (drop (suc at) held)) → slots ≡ hands_out n k held
        → turned_times above slots ≡ hand_out n k h.here.mode p ++ (hands_out n k h.before ++ hands_out n k h.after)
    turned_first above slots count is =
        ap (λ (m : ℕ). turned_times m slots) (count ∙ ap (λ (hs : List HeldRows). length (hands_out n k hs)) h.left)
        ∙ ap (turned_times (length (hands_out n k h.after))) is ∙ out_first n k held p at h

    -- and those that are left come back into their order: at once where none was above it
    pub turned_last : (above below : ℕ) → above ≡ length (hands_out n k (drop (suc at) held)) → below ≡ cond (above == 0) 0 (length (hands_out n k (take at held)))
        → turned_times below (hands_out n k h.before ++ hands_out n k h.after) ≡ hands_out n k (h.before ++ h.after)
    turned_last above below up down = elim (cases_eq above 0) [
      | inl e ↦
          (let none : hands_out n k h.after ≡ [] = nothing (hands_out n k h.after) (ap (λ (hs : List HeldRows). length (hands_out n k hs)) (sym h.left) ∙ sym up ∙ e) in
          ap (λ (m : ℕ). turned_times m (hands_out n k h.before ++ hands_out n k h.after)) (down ∙ ap (λ (b : Bool). cond b 0 (length (hands_out n k (take at held)))) (eq-eqb above 0 e))
          ∙ ap (λ (slots : List (ℕ × Slot)). hands_out n k h.before ++ slots) none ∙ append-nil (hands_out n k h.before)
          ∙ ap (λ (slots : List (ℕ × Slot)). slots ++ hands_out n k h.before) (sym none) ∙ sym (hands_out-append n k h.before h.after))
      | inr some ↦
          ap (λ (m : ℕ). turned_times m (hands_out n k h.before ++ hands_out n k h.after))
          (down ∙ ap (λ (b : Bool). cond b 0 (length (hands_out n k (take at held)))) (ne_eqb above 0 some) ∙ ap (λ (hs : List HeldRows). length (hands_out n k hs)) h.took)
          ∙ out_last n k held p at h
    ]
