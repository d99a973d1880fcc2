-- Stripes of classes, locks of stripes, each in a mode, and which of them are held. (PLDI 2012, lock striping.)
use Rattle.std.specs.Prelude.{ℕ, List, map, ◌≤◌, ◌≡◌, ◌<◌, ◌+◌}
use Rattle.rc_plan.specs.Imports.{range_with_len, ordering_then, nat_cmp, Ordering, In, Mode, Shared, Exclusive, Spec, StripeLock, Suffices, class_at, band_start}

-- ---- the stripes of a class

-- the stripe is one of the class's
pub record IsOfClass (spec : Spec) (stripe c : ℕ) : Type 0 where
  pub from : band_start spec c ≤ stripe
  pub before : stripe < band_start spec c + (class_at spec c).stripes

-- all of them, rising
abbrev pub band : Spec → ℕ → List ℕ
band spec c = range_with_len (band_start spec c) (class_at spec c).stripes

-- ---- locks

abbrev pub mode_number : Mode → ℕ
mode_number Shared = 0
mode_number Exclusive = 1

-- by stripes, then Shared before Exclusive
abbrev pub stripe_lock_cmp : StripeLock → StripeLock → Ordering
stripe_lock_cmp a b = ordering_then (nat_cmp a.0 b.0) (nat_cmp (mode_number a.1) (mode_number b.1))

-- the numbers of the stripes
abbrev pub stripes_of : List StripeLock → List ℕ
stripes_of locks = map (λ lock. lock.0) locks

-- each is taken in this mode
abbrev pub AreIn : Mode → List StripeLock → Type 0
AreIn mode locks = (lock : StripeLock) → In lock locks → lock.1 ≡ mode

-- ---- locks that are held

-- each of the locks is held: its stripe is, in a mode that suffices
abbrev pub AreHeld : List StripeLock → List StripeLock → Type 0
AreHeld locks held = (lock : StripeLock) → In lock locks → (mode : Mode) × In (lock.0, mode) held × Suffices mode lock.1
