-- Locks of stripes, each in a mode. (PLDI 2012, lock striping.)
use Rattle.std.specs.Prelude.{ℕ}
use Rattle.rc_spec.specs.declared.lock.Mode.{Mode}
use Rattle.rc_spec.specs.declared.lock.Mode.TheVariants.{Shared, Exclusive}

-- a physical stripe, and the mode in which it is locked
abbrev pub StripeLock : Type 0
StripeLock = ℕ × Mode

-- a stripe held in the first mode may be used in the second
abbrev pub Suffices : Mode → Mode → Type 0
Suffices Exclusive wanted = Unit {0}
Suffices Shared Shared = Unit {0}
Suffices Shared Exclusive = ⊥
