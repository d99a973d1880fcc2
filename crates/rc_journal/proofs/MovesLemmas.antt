-- A list that was written through a slice.
use Rattle.std.proofs.Common.{◌≡◌, ℕ, List, [], ◌++◌, length, take, drop, sym, ap, ◌∙◌, arith}
use Rattle.rc_journal.proofs.Imports.{append-nil, drop_of_length-le, take-length}

-- the whole of a list, written
pub written : {X : Type 0} (old new : List X) (n : ℕ) → n ≡ length old → length new ≡ length old → take n (new ++ drop (length new) old) ≡ new
written old new n h k =
    let none : drop (length new) old ≡ [] = drop_of_length-le old (omega arith) in
    let all : n ≡ length new = h ∙ sym k in
    ap (λ l. take n (new ++ l)) none ∙ ap (take n) (append-nil new) ∙ ap (λ m. take m new) all ∙ take-length new
