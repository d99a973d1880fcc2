-- What the holder of a group tells a plan: of the stripes that the group holds those that the plan has taken, each with its rows at the plan's start as those with which it was taken.
use Rattle.std.specs.Prelude.{◌≡◌, ℕ, ◌==◌, List, [], ◌∷◌, ◌++◌, None, Some, filter, length, map, replicate, if◌then◌else◌}
use Rattle.rc_multi.specs.Imports.{nat_cmp, In, IsRising, Mode, EdgeRow, HeldStripe, Holding, LentStripe, held_of, StripeLock, Suffices, locks_of, stripes_held}
use Rattle.rc_multi.specs.Group.{with_part}

-- the rows now of a stripe among some that are held
abbrev pub rows_now_at : List HeldStripe → ℕ → List EdgeRow
rows_now_at [] p = []
rows_now_at (h ∷ held) p = if h.stripe == p then h.now else rows_now_at held p

-- a stripe of the group as a plan has it that took it in this mode
abbrev pub as_part : List HeldStripe → Mode → LentStripe → LentStripe
as_part begun mode l = record {
  held = record { stripe = l.held.stripe; mode = mode; now = l.held.now; taken = rows_now_at begun l.held.stripe };
  room = l.room;
}

abbrev pub lent_at : List LentStripe → ℕ → List LentStripe
lent_at lent p = filter (λ (l : LentStripe). l.held.stripe == p) lent

-- those that the plan has taken, in the order in which it took them
abbrev pub part_of : List HeldStripe → List LentStripe → List StripeLock → List LentStripe
part_of begun lent [] = []
part_of begun lent (t ∷ taken) = map (as_part begun t.1) (lent_at lent t.0) ++ part_of begun lent taken

-- What the group's holder tells the plan, where its own holder tells s and held this at the plan's start: it lends what was held; no rows are told before a stripe is taken, and no take is refused.
abbrev pub offering : List HeldStripe → Holding → List StripeLock → ℕ → Holding
offering begun s taken through = record {
  table = s.table;
  lent = part_of begun s.lent taken;
  lends = Some (locks_of begun);
  offered = replicate (length s.offered) None;
  refusals = 0;
  last_refusal = None;
  through = through;
}

-- What holds of it between calls: the group's stripes are held once; they are as at the plan's start but for what the plan did to those that it took; and it took only what is held in a mode that suffices.
pub record IsOffered (begun : List HeldStripe) (s : Holding) (taken : List StripeLock) : Type 0 where
  pub rising : IsRising nat_cmp (stripes_held (held_of s))
  pub same : held_of s ≡ map (with_part (map (λ (l : LentStripe). l.held) (part_of begun s.lent taken))) begun
  pub modes : (t : StripeLock) → In t taken → (h : HeldStripe) → In h (held_of s) → h.stripe ≡ t.0 → Suffices h.mode t.1
