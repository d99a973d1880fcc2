-- What comes out of the slot of a stripe just locked, and how the own slots there are emptied.
use Rattle.std.proofs.Common.{◌≡◌, ℕ, zero, suc, ◌-◌, ◌<◌, ◌≤◌, Bool, true, false, List, [], ◌∷◌, ◌++◌, length, drop, take, refl, sym, ap, ◌∙◌, arith}
use Rattle.rc_row.proofs.Imports.{rest, turned, KeptRows, Apart, Empty, Handed, Slot, kept_in, own_place, slot_place, HasInFront, IsLockedWith, own_hands, turned_times}
use Rattle.rc_row.proofs.OwnLemmas.{emptying, front_emptying, next_emptying}
use Rattle.rc_row.proofs.OwnHandsLemmas.{emptying_first, emptying_last}

-- ---- a fragment in a slot

pub kept_some : (b : Bool) (k : KeptRows) → kept_in b k ≡ Empty → ⊥
kept_some true k e = cc
kept_some false k e = cc

apart_in : (b : Bool) (a k : KeptRows) → kept_in b a ≡ Apart k → (b ≡ false) × (k ≡ a)
apart_in true a k e = cc
apart_in false a k e = (refl, cc)

handed_in : (b : Bool) (a k : KeptRows) → kept_in b a ≡ Handed k → k ≡ a
handed_in true a k e = cc
handed_in false a k e = cc

pub same_kept : (b d : Bool) (x y : KeptRows) → kept_in b x ≡ kept_in d y → x ≡ y
same_kept true true x y e = cc
same_kept true false x y e = cc
same_kept false true x y e = cc
same_kept false false x y e = cc

abbrev first_value : List (ℕ × Slot) → Slot
first_value [] = Empty
first_value (x ∷ slots) = x.1

-- what is read in front
pub in_front : (slots more : List (ℕ × Slot)) (i j : ℕ) (x y : Slot) → slots ≡ (i, x) ∷ rest slots → slots ≡ (j, y) ∷ more → x ≡ y
in_front slots more i j x y at is = sym (ap first_value at) ∙ ap first_value is

pub front_kept : (slots : List (ℕ × Slot)) (i p : ℕ) (x : Slot) (keep : KeptRows) (h : HasInFront p keep slots) → slots ≡ (i, x) ∷ rest slots → x ≡ kept_in h.handed keep
front_kept slots i p x keep h at = in_front slots (rest slots) i (slot_place p) x (kept_in h.handed keep) at h.is

same_owns : (n p : ℕ) (x y : ℕ → Slot) → ((j : ℕ) → j < n → x j ≡ y j) → own_hands n p x ≡ own_hands n p y
same_owns zero p x y same = refl
same_owns (suc n) p x y same = λ i. (own_place n p, same n (omega arith) i) ∷ same_owns n p x y (λ j lt. same j (omega arith)) i

-- ---- a stripe just locked

module _ (n p : ℕ) (handed : Bool) (keep : KeptRows) (owns : ℕ → Slot) (slots others : List (ℕ × Slot)) (l : IsLockedWith n p handed keep owns slots others) (x : Slot) (at : slots ≡ (slot_place p, x) ∷ rest slots) where
  found : x ≡ kept_in handed keep
  found = in_front slots (own_hands n p owns ++ others) (slot_place p) (slot_place p) x (kept_in handed keep) at l.are

  pub locked_some : x ≡ Empty → ⊥
  locked_some e = kept_some handed keep (sym found ∙ e)

  -- apart, it is the fragment, and the own slots are empty
  pub locked_apart : (k : KeptRows) → x ≡ Apart k → (now : List (ℕ × Slot)) → now ≡ (slot_place p, Empty) ∷ rest slots → (k ≡ keep) × (now ≡ (slot_place p, Empty) ∷ own_hands n p (λ j. Empty) ++ others)
  locked_apart k e now is =
      let was : (handed ≡ false) × (k ≡ keep) = apart_in handed keep k (sym found ∙ e) in (
        was.1,
        is ∙ ap (λ (xs : List (ℕ × Slot)). (slot_place p, Empty) ∷ xs) (ap rest l.are ∙ ap (λ (xs : List (ℕ × Slot)). xs ++ others) (same_owns n p owns (λ j. Empty) (l.empty was.0))),
      )

  -- handed out, it is the fragment
  pub locked_handed : (k : KeptRows) → x ≡ Handed k → k ≡ keep
  locked_handed k e = handed_in handed keep k (sym found ∙ e)

  pub locked_left : (now : List (ℕ × Slot)) → now ≡ (slot_place p, Empty) ∷ rest slots → now ≡ (slot_place p, Empty) ∷ own_hands n p owns ++ others
  locked_left now is = is ∙ ap (λ (xs : List (ℕ × Slot)). (slot_place p, Empty) ∷ xs) (ap rest l.are)

-- ---- its own slots are emptied, that of the last pass first

module _ (n p : ℕ) (owns : ℕ → Slot) (more slots now : List (ℕ × Slot)) where
  abbrev others : List (ℕ × Slot)
  others = more ++ (slot_place p, Empty) ∷ []

  pub emptied_first : slots ≡ (slot_place p, Empty) ∷ own_hands n p owns ++ more → now ≡ turned slots → now ≡ emptying n p owns Empty (more ++ (slot_place p, Empty) ∷ []) (n - n)
  emptied_first is then = let e : 0 ≡ n - n = omega arith in then ∙ ap turned is ∙ emptying_first n p owns Empty more ∙ ap (emptying n p owns Empty others) e

  module _ (i : ℕ) (some_left : 0 < i) (few : i ≤ n) (is : slots ≡ emptying n p owns Empty (more ++ (slot_place p, Empty) ∷ []) (n - i)) where
    abbrev left : List (ℕ × Slot)
    left = drop (suc (n - i)) (own_hands n p owns) ++ (others ++ take (n - i) (own_hands n p (λ k. Empty)))

    here : n - 1 - (n - i) ≡ i - 1
    here = omega arith

    front : slots ≡ (own_place (i - 1) p, owns (i - 1)) ∷ left
    front = is ∙ front_emptying n p owns Empty others (n - i) (omega arith) ∙ ap (λ (k : ℕ). (own_place k p, owns k) ∷ left) here

    pub emptied_front : slots ≡ (own_place (i - 1) p, owns (i - 1)) ∷ rest slots
    emptied_front = front ∙ ap (λ (xs : List (ℕ × Slot)). (own_place (i - 1) p, owns (i - 1)) ∷ xs) (sym (ap rest front))

    pub emptied_next : now ≡ turned ((own_place (i - 1) p, Empty) ∷ rest slots) → now ≡ emptying n p owns Empty (more ++ (slot_place p, Empty) ∷ []) (n - (i - 1))
    emptied_next then =
        let e : suc (n - i) ≡ n - (i - 1) = omega arith in
        then ∙ ap (λ (xs : List (ℕ × Slot)). turned ((own_place (i - 1) p, Empty) ∷ xs)) (ap rest front)
        ∙ ap (λ (k : ℕ). turned ((own_place k p, Empty) ∷ left)) (sym here) ∙ next_emptying n p owns Empty others (n - i) (omega arith) ∙ ap (emptying n p owns Empty others) e

  pub emptied_last : (count : ℕ) → count ≡ length more → slots ≡ emptying n p owns Empty (more ++ (slot_place p, Empty) ∷ []) (n - 0) → now ≡ turned_times count slots → now ≡ (slot_place p, Empty) ∷ own_hands n p (λ j. Empty) ++ more
  emptied_last count many is then =
      let e : n - 0 ≡ n = omega arith in
      then ∙ (λ i. turned_times (many i) (is i)) ∙ ap (λ (k : ℕ). turned_times (length more) (emptying n p owns Empty others k)) e ∙ emptying_last n p owns Empty more
