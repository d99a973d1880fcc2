-- Laws of rounds with one more turn.
use Rattle.std.proofs.Common.{◌≡◌, ℕ, suc, ◌+◌, ◌<◌, List, [], ◌∷◌, ◌++◌, length, refl, ap, arith}
use Rattle.rc_work.specs.Imports.{sum_by, AllByRecursion}
use Rattle.std.proofs.lemmas.List.Sums.{sum_by-append, sum_by-cons}
use Rattle.rc_work.specs.declared.raw.RawTurn.{RawTurn}
use Rattle.rc_work.specs.RawTurns.{count_raw, onto_last}

pub length-onto_last : (rounds : List (List RawTurn)) (turn : RawTurn) → length (onto_last rounds turn) ≡ length rounds
length-onto_last [] turn = refl
length-onto_last (round ∷ []) turn = refl
length-onto_last (round ∷ next ∷ rounds) turn = ap suc (length-onto_last (next ∷ rounds) turn)

-- there are the calls of one more turn
pub count_raw-onto_last : (rounds : List (List RawTurn)) (turn : RawTurn) → 0 < length rounds
    → count_raw (onto_last rounds turn) ≡ count_raw rounds + length turn.calls
count_raw-onto_last [] turn some = absurd (omega arith)
count_raw-onto_last (round ∷ []) turn some =
    let calls : RawTurn → ℕ = λ t. length t.calls in
    omega (
      arith,
      sum_by-cons (sum_by calls) (round ++ turn ∷ []) [],
      sum_by-cons (sum_by calls) round [],
      sum_by-append calls round (turn ∷ []),
      sum_by-cons calls turn [],
    )
count_raw-onto_last (round ∷ next ∷ rounds) turn some =
    let calls : RawTurn → ℕ = λ t. length t.calls in
    omega (
      arith,
      sum_by-cons (sum_by calls) round (onto_last (next ∷ rounds) turn),
      sum_by-cons (sum_by calls) round (next ∷ rounds),
      count_raw-onto_last (next ∷ rounds) turn (omega arith),
    )

-- a round that begins has no calls
pub count_raw-push_round : (rounds : List (List RawTurn)) → count_raw (rounds ++ [] ∷ []) ≡ count_raw rounds
count_raw-push_round rounds =
    let calls : RawTurn → ℕ = λ t. length t.calls in
    omega (arith, sum_by-append (sum_by calls) rounds ([] ∷ []), sum_by-cons (sum_by calls) [] [])

-- what holds of each element and of one more
pub each_push : {X : Type 0} (P : X → Type 0) (xs : List X) (x : X) → AllByRecursion P xs → P x → AllByRecursion P (xs ++ x ∷ [])
each_push P [] x all here = (here, tt)
each_push P (y ∷ xs) x all here = (all.0, each_push P xs x all.1 here)

-- what holds of each turn and of one more
pub each_onto_last : (P : RawTurn → Type 0) (rounds : List (List RawTurn)) (turn : RawTurn) → AllByRecursion (AllByRecursion P) rounds → P turn → AllByRecursion (AllByRecursion P) (onto_last rounds turn)
each_onto_last P [] turn all here = tt
each_onto_last P (round ∷ []) turn all here = (each_push P round turn all.0 here, tt)
each_onto_last P (round ∷ next ∷ rounds) turn all here = (all.0, each_onto_last P (next ∷ rounds) turn all.1 here)
