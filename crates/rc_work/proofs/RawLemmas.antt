-- Rounds with one more turn.
use Rattle.std.proofs.Common.{◌≡◌, ℕ, zero, suc, ◌+◌, List, [], ◌∷◌, ◌++◌, length, get_or, set, ap, arith}
use Rattle.rc_work.proofs.Imports.{RawTurn, onto_last}

-- the last round is written at its place
pub set_last : (rounds : List (List RawTurn)) (n : ℕ) (round more : List RawTurn) (turn : RawTurn) → n + 1 ≡ length rounds → round ≡ get_or rounds n round → more ≡ round ++ turn ∷ [] → set rounds n more ≡ onto_last rounds turn
set_last [] n round more turn at is e = absurd (omega arith)
set_last (only ∷ []) zero round more turn at is e = cc
set_last (only ∷ []) (suc n) round more turn at is e = absurd (omega arith)
set_last (first ∷ next ∷ rounds) zero round more turn at is e = absurd (omega arith)
set_last (first ∷ next ∷ rounds) (suc n) round more turn at is e =
    ap (λ (xs : List (List RawTurn)). first ∷ xs) (set_last (next ∷ rounds) n round more turn (omega arith) is e)
