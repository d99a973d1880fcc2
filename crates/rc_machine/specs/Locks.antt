-- Stripes taken one after another.
use Rattle.std.specs.Prelude.{◌≡◌, ℕ, ◌++◌, List, Option}
use Rattle.rc_machine.specs.Imports.{In, Mode, EdgeRow, Held, AreOffered, HasRisen, HeldStripe, Holding, IsAbove, IsRefusal, held_of, offered_at}
use Rattle.rc_machine.specs.Machine.{AreAsTaken, stripes_held}

-- these stripes are held beside those of before, in the mode, each with the rows that were offered of it
pub record AreLocked (old new : List HeldStripe) (stripes : List ℕ) (mode : Mode) (offered : ℕ → Option (List EdgeRow)) : Type 0 where
  pub more : List HeldStripe
  pub beside : new ≡ old ++ more
  pub stripes_are : stripes_held more ≡ stripes
  pub modes : (h : HeldStripe) → In h more → h.mode ≡ mode
  pub unchanged : AreAsTaken more
  pub told : (h : HeldStripe) → In h more → AreOffered (offered h.stripe) h.taken

abbrev pub HasLocked : Holding → Holding → List ℕ → Mode → Type 0
HasLocked old new stripes mode = AreLocked (held_of old) (held_of new) stripes mode (offered_at old)

-- the count of refused takes rose, and the last was of one of the stripes, which is above all that are held, and found these held
pub record HasRefusedOne (old new : Holding) (stripes : List ℕ) (mode : Mode) (answer : Held) : Type 0 where
  pub risen : HasRisen old.refusals new.refusals
  pub last : IsRefusal new.last_refusal answer answer.stripe mode (held_of new)
  pub above : IsAbove (held_of new) answer.stripe
  pub wanted : In answer.stripe stripes
