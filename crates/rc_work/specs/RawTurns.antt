-- Turns as they stand in the text.
use Rattle.std.specs.Prelude.{ℕ, List, [], ◌∷◌, ◌++◌, length, sum_by}
use Rattle.rc_work.specs.declared.raw.RawTurn.{RawTurn}

-- how many calls the turns of some rounds have
abbrev pub count_raw : List (List RawTurn) → ℕ
count_raw rounds = sum_by (sum_by (λ turn. length turn.calls)) rounds

-- the rounds with one more turn at the end of the last one
abbrev pub onto_last : List (List RawTurn) → RawTurn → List (List RawTurn)
onto_last [] turn = []
onto_last (round ∷ []) turn = (round ++ turn ∷ []) ∷ []
onto_last (round ∷ next ∷ rounds) turn = round ∷ onto_last (next ∷ rounds) turn
