-- What a reader of lines knows when it has passed one.
use Rattle.std.proofs.Common.{◌≡◌, ℕ, ◌+◌, ◌-◌, ◌≤◌, List, ◌∷◌, length, take, drop, subst, ap, arith}
use Rattle.std.proofs.lemmas.List.{take_rest}
use Rattle.rc_text.specs.declared.lines.Lines.TheInside.{Inside}
use Rattle.rc_text.specs.Reader.{place_of}
use Rattle.rc_text.specs.Lines.{lines_of, TextPlace, IsLineStart}
use Rattle.rc_text.specs.LinesLaws.{past_end_is, length-lines_of, start-next}

-- the line at a place is passed: the next line begins behind it, and the number of neither is too large
pub record Passes (place : TextPlace) (n : ℕ) : Type 0 where
  pub start : IsLineStart (record { text = place.text; at = place.at + n; line = place.line + 1 })
  pub number : place.line ≤ length place.text

pub passes : (place : TextPlace) (rest : List ℕ) (n : ℕ) → rest ≡ drop place.at place.text → IsLineStart place → n ≤ length rest → lines_of rest ≡ take n rest ∷ lines_of (drop n rest) → Passes place n
passes place rest n rest-is start within first =
    let Q : List ℕ → Type 0 = λ xs. lines_of xs ≡ take n xs ∷ lines_of (drop n xs) in
    let here : Q (drop place.at place.text) = subst Q rest-is first in
    record {
      start = start-next place n start (omega (arith, within, ap length rest-is)) here;
      number = omega (arith, past_end_is place start, ap length here, length-lines_of place.text);
    }

-- the same of a reader's fields, where the line is looked for in the rest of its text
pub reader_passes : (fields : Inside) (n : ℕ) → IsLineStart (place_of fields) →
    let rest = take (length fields.bytes.now - fields.at) (drop fields.at fields.bytes.now) in
    n ≤ length rest → lines_of rest ≡ take n rest ∷ lines_of (drop n rest) → Passes (place_of fields) n
reader_passes fields n start within first =
    passes (place_of fields) _ n (take_rest fields.bytes.now fields.at) start within first
