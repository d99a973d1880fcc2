-- How the slots that a pass has out are turned, where a stripe that it writes or shares is taken, emptied or given back.
use Rattle.std.proofs.Common.{◌≡◌, ℕ, zero, suc, List, [], ◌∷◌, ◌++◌, length, take, drop, refl, sym, ap, ◌∙◌, append_assoc}
use Rattle.rc_row.proofs.Imports.{append-nil, turned, HeldRows, Slot, own_place, slot_place, hand_out, hands_out, own_hands, turned_times, IsHeldAt}
use Rattle.rc_row.proofs.OwnLemmas.{emptying}

-- ---- turning

module _ {S : Type 0} where
  turned_once : (k : ℕ) (slots : List (ℕ × S)) → turned_times (suc k) slots ≡ turned_times k (turned slots)
  turned_once zero slots = refl
  turned_once (suc k) slots = ap turned (turned_once k slots)

  pub turned_over : (a b : List (ℕ × S)) → turned_times (length a) (a ++ b) ≡ b ++ a
  turned_over [] b = sym (append-nil b)
  turned_over (x ∷ a) b = turned_once (length a) (x ∷ a ++ b) ∙ ap (turned_times (length a)) (append_assoc a b (x ∷ [])) ∙ turned_over a (b ++ x ∷ []) ∙ append_assoc b (x ∷ []) a

  -- ---- a stripe that was locked, once the own slots of it are emptied

  module _ (n p : ℕ) (x : ℕ → S) (none_there : S) (held : List (ℕ × S)) where
    -- first the stripe's slot, which is empty, goes behind those of the other stripes
    pub emptying_first : turned ((slot_place p, none_there) ∷ (own_hands n p x ++ held)) ≡ emptying n p x none_there (held ++ (slot_place p, none_there) ∷ []) 0
    emptying_first =
        append_assoc (own_hands n p x) held ((slot_place p, none_there) ∷ [])
        ∙ ap (λ (l : List (ℕ × S)). own_hands n p x ++ l) (sym (append-nil (held ++ (slot_place p, none_there) ∷ [])))

    none_left : (m : ℕ) → drop m (own_hands m p x) ≡ []
    none_left zero = refl
    none_left (suc m) = none_left m

    all_taken : (m : ℕ) → take m (own_hands m p (λ j. none_there)) ≡ own_hands m p (λ j. none_there)
    all_taken zero = refl
    all_taken (suc m) = ap (λ (l : List (ℕ × S)). (own_place m p, none_there) ∷ l) (all_taken m)

    -- and once all are emptied, those of the other stripes go behind it
    pub emptying_last : turned_times (length held) (emptying n p x none_there (held ++ (slot_place p, none_there) ∷ []) n) ≡ ((slot_place p, none_there) ∷ own_hands n p (λ j. none_there)) ++ held
    emptying_last =
        ap (turned_times (length held))
        ((λ i. none_left n i ++ ((held ++ (slot_place p, none_there) ∷ []) ++ all_taken n i)) ∙ append_assoc held ((slot_place p, none_there) ∷ []) (own_hands n p (λ j. none_there)))
        ∙ turned_over held ((slot_place p, none_there) ∷ own_hands n p (λ j. none_there))

-- ---- of a pass

module _ (n k : ℕ) where
  pub hands_out-append : (a b : List HeldRows) → hands_out n k (a ++ b) ≡ hands_out n k b ++ hands_out n k a
  hands_out-append [] b = sym (append-nil (hands_out n k b))
  hands_out-append (h ∷ a) b =
      ap (λ (slots : List (ℕ × Slot)). slots ++ hand_out n k h.mode h.stripe) (hands_out-append a b) ∙ append_assoc (hands_out n k b) (hands_out n k a) (hand_out n k h.mode h.stripe)

  module _ (held : List HeldRows) (p at : ℕ) (h : IsHeldAt held p at) where
    parted : hands_out n k held ≡ hands_out n k h.after ++ (hand_out n k h.here.mode p ++ hands_out n k h.before)
    parted =
        ap (hands_out n k) h.is ∙ hands_out-append h.before (h.here ∷ h.after)
        ∙ (λ i. (hands_out n k h.after ++ hand_out n k h.here.mode (h.stripe i)) ++ hands_out n k h.before)
        ∙ append_assoc (hands_out n k h.after) (hand_out n k h.here.mode p) (hands_out n k h.before)

    -- turned by those above it, what it has out is in front
    pub out_first : turned_times (length (hands_out n k h.after)) (hands_out n k held) ≡ hand_out n k h.here.mode p ++ (hands_out n k h.before ++ hands_out n k h.after)
    out_first =
        ap (turned_times (length (hands_out n k h.after))) parted ∙ turned_over (hands_out n k h.after) (hand_out n k h.here.mode p ++ hands_out n k h.before)
        ∙ append_assoc (hand_out n k h.here.mode p) (hands_out n k h.before) (hands_out n k h.after)

    -- and once it is given back, the others come back into their order
    pub out_last : turned_times (length (hands_out n k h.before)) (hands_out n k h.before ++ hands_out n k h.after) ≡ hands_out n k (h.before ++ h.after)
    out_last = turned_over (hands_out n k h.before) (hands_out n k h.after) ∙ sym (hands_out-append h.before h.after)
