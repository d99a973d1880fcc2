-- Laws of the ends of rows of one width.
use Rattle.std.proofs.Common.{◌≡◌, ℕ, zero, suc, ◌+◌, ◌*◌, ◌≤◌, [], ◌∷◌, ◌++◌, get_or, length, refl, ap, ◌∙◌, arith}
use Rattle.std.proofs.Math.Nat.{suc-mul}
use Rattle.rc_spec.specs.RowEnds.{even_ends}

pub length-even_ends : (start width rows : ℕ) → length (even_ends start width rows) ≡ rows
length-even_ends start width zero = refl
length-even_ends start width (suc rows) = ap suc (length-even_ends (start + width) width rows)

-- the row with a number begins behind so many widths
pub start_even : (start width rows at : ℕ) → at ≤ rows → get_or (start ∷ even_ends start width rows) at 0 ≡ start + at * width
start_even start width rows zero l = omega arith
start_even start width zero (suc at) l = absurd (omega (arith, l))
start_even start width (suc rows) (suc at) l =
    let rest = start_even (start + width) width rows at (omega (arith, l)) in
    let one = suc-mul at width in
    omega (arith, rest, one)

-- one more row of that width
pub even_ends-more : (start width rows : ℕ) → even_ends start width (suc rows) ≡ even_ends start width rows ++ (start + suc rows * width) ∷ []
even_ends-more start width zero = ap (λ n. n ∷ []) (omega arith)
even_ends-more start width (suc rows) =
    let one = suc-mul (suc rows) width in
    ap (λ l. (start + width) ∷ l) (even_ends-more (start + width) width rows ∙ ap (λ n. even_ends (start + width) width rows ++ n ∷ []) (omega (arith, one)))
