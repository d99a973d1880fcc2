-- Which passes of an open store its sessions have. (PLDI 2012, serializable transactions: a store is closed with all passes.)
use Rattle.std.specs.Prelude.{◌≡◌, ◌↔◌, ℕ, ◌+◌, ◌<◌, List, length, map}
use Rattle.rc_embed.specs.Imports.{nat_cmp, AreDistinct, In, IsRising}
use Rattle.rc_embed.specs.Closing.{number_of, pass_count}
use Rattle.rc_embed.specs.Opened.{OpenSeen}

-- Sessions have the passes of these numbers, each one, and the store has all others, by number.
pub record AreOutside (opened : OpenSeen) (numbers : List ℕ) : Type 0 where
  pub distinct : AreDistinct numbers
  pub known : (k : ℕ) → In k numbers → k < pass_count opened
  pub rising : IsRising nat_cmp (map number_of opened.passes)
  pub others : (k : ℕ) → In k (map number_of opened.passes) ↔ ((k < pass_count opened) × (In k numbers → ⊥))
  pub count : length opened.passes + length numbers ≡ pass_count opened
