-- A slot of each pass for each stripe, in which the pass keeps its own pointer to the stripe's fragment between two shares.
use Rattle.std.specs.Prelude.{◌≡◌, ℕ, zero, suc, ◌<◌, Bool, false, List, [], ◌∷◌, ◌++◌, set, Option, Some, None}
use mathlib.Core.Option.{some, none}
use lib.ListN.{get_elem?}
use Rattle.rc_row.specs.Imports.{Mode, Shared, Exclusive, KeptRows, Act, keeps, takes, gives, chain, rest, turned}
use Rattle.rc_row.specs.HeldRows.{HeldRows}
use Rattle.rc_row.specs.declared.slot.Slot.TheVariants.{Empty, Handed}
use Rattle.rc_row.specs.Law.{Slot, kept_in, own_place, slot_place}

abbrev pub Slot? : Type 0
Slot? = mathlib.Core.Option.Option (mathlib.Core.Option.Option Slot)

-- a pointer that a pass keeps in its own slot, or nothing
abbrev pub pointer_in : Option KeptRows → Slot
pointer_in None = Empty
pointer_in (Some keep) = Handed keep

-- what lies in a place, or nothing where the slot is out
abbrev pub value_of : Slot? → Slot
value_of none = Empty
value_of (some none) = Empty
value_of (some (some x)) = x

abbrev pub value_at : List (mathlib.Core.Option.Option Slot) → ℕ → Slot
value_at homes i = value_of (get_elem? homes i)

-- ---- the own slots of all passes, at one stripe

module _ {S : Type 0} where
  -- those of n passes, as a seat has them out
  abbrev pub own_hands : ℕ → ℕ → (ℕ → S) → List (ℕ × S)
  own_hands zero p x = []
  own_hands (suc n) p x = (own_place n p, x n) ∷ own_hands n p x

  -- they are taken, and given back
  abbrev pub take_owns : ℕ → ℕ → (ℕ → S) → Act S
  take_owns zero p x = keeps
  take_owns (suc n) p x = chain (take_owns n p x) (takes (own_place n p) (x n))

  abbrev pub give_owns : ℕ → Act S
  give_owns zero = keeps
  give_owns (suc n) = chain gives (give_owns n)

  abbrev pub without_owns : ℕ → ℕ → List (mathlib.Core.Option.Option S) → List (mathlib.Core.Option.Option S)
  without_owns zero p homes = homes
  without_owns (suc n) p homes = set (without_owns n p homes) (own_place n p) none

  abbrev pub with_owns : ℕ → ℕ → (ℕ → S) → List (mathlib.Core.Option.Option S) → List (mathlib.Core.Option.Option S)
  with_owns zero p x homes = homes
  with_owns (suc n) p x homes = with_owns n p x (set homes (own_place n p) (some (x n)))

-- ---- what a pass has out

-- of n passes the pass k: who writes a stripe has its slot and all own slots of it out, who shares it its own; all empty
abbrev pub hand_out : ℕ → ℕ → Mode → ℕ → List (ℕ × Slot)
hand_out n k Exclusive p = (slot_place p, Empty) ∷ own_hands n p (λ j. Empty)
hand_out n k Shared p = (own_place k p, Empty) ∷ []

abbrev pub hands_out : ℕ → ℕ → List HeldRows → List (ℕ × Slot)
hands_out n k [] = []
hands_out n k (h ∷ held) = hands_out n k held ++ hand_out n k h.mode h.stripe

-- so many of the slots that were taken last go behind the others, one after another
module _ {S : Type 0} where
  abbrev pub turned_times : ℕ → List (ℕ × S) → List (ℕ × S)
  turned_times zero slots = slots
  turned_times (suc n) slots = turned (turned_times n slots)

-- ---- what calls say of the slots that a seat has out

-- A stripe just locked: its slot with the fragment lies in front, then the own slots there, which are empty where no pointer was handed
-- out, then the others.
pub record IsLockedWith (passes p : ℕ) (handed : Bool) (keep : KeptRows) (owns : ℕ → Slot) (slots others : List (ℕ × Slot)) : Type 0 where
  pub are : slots ≡ (slot_place p, kept_in handed keep) ∷ own_hands passes p owns ++ others
  pub empty : handed ≡ false → (j : ℕ) → j < passes → owns j ≡ Empty

-- the slot of the stripe lies in front, with the fragment
pub record HasInFront (p : ℕ) (keep : KeptRows) (slots : List (ℕ × Slot)) : Type 0 where
  pub handed : Bool
  pub is : slots ≡ (slot_place p, kept_in handed keep) ∷ rest slots
