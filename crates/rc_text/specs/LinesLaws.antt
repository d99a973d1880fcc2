-- The lines of a text are the text, and where they begin.
use Rattle.std.proofs.Common.{◌≡◌, ◌≢◌, ℕ, zero, suc, ◌+◌, ◌-◌, ◌<◌, ◌≤◌, true, false, not, cond, eqb, List, [], ◌∷◌, ◌++◌, length, get_or, take, drop, refl, add-zero, append_assoc, eq-eqb, ap, sym, ◌∙◌, arith}
use Rattle.std.specs.Prelude.{sum_by}
use Rattle.std.specs.List.{concat, list_all, AllByRecursion}
use Rattle.std.proofs.lemmas.Bool.{ne_eqb, eqb-false, eqb-true, and_parts, not-true}
use Rattle.std.proofs.lemmas.List.{length-drop, length-take-le, drop-drop, get_or-drop}
use Rattle.std.proofs.lemmas.List.Sums.{sum_by-cons, sum_by_more, sum_by-take-le}
use Rattle.rc_text.specs.Bytes.{is_text_byte}
use Rattle.rc_text.specs.Lines.{onto_first, lines_of, past_end_of, without_last, bytes_of_line, content_among, TextPlace, lines_from, IsLineStart, IsLine, lacks_line_feed, printed_lines, IsPrintable, bytes_of_content}

-- how long the first line is
abbrev pub first_length : List ℕ → ℕ
first_length [] = 0
first_length (b ∷ bs) = cond (eqb b 10) 1 (suc (first_length bs))

first_line_cons : (b : ℕ) (bs : List ℕ) → lines_of (b ∷ bs) ≡ take (first_length (b ∷ bs)) (b ∷ bs) ∷ lines_of (drop (first_length (b ∷ bs)) (b ∷ bs))
first_line_cons b [] =
    elim (eqb b 10) as (λ v. cond v ((b ∷ []) ∷ lines_of []) (onto_first b (lines_of [])) ≡ take (cond v 1 (suc (first_length []))) (b ∷ []) ∷ lines_of (drop (cond v 1 (suc (first_length []))) (b ∷ []))) [ true ↦ refl | false ↦ refl ]
first_line_cons b (c ∷ cs) =
    elim (eqb b 10) as (λ v. cond v ((b ∷ []) ∷ lines_of (c ∷ cs)) (onto_first b (lines_of (c ∷ cs))) ≡ take (cond v 1 (suc (first_length (c ∷ cs)))) (b ∷ c ∷ cs) ∷ lines_of (drop (cond v 1 (suc (first_length (c ∷ cs)))) (b ∷ c ∷ cs))) [
      | true ↦ refl
      | false ↦ ap (onto_first b) (first_line_cons c cs)
    ]

-- the first line of a text that is not empty, and the others
pub first_line : (text : List ℕ) (n : ℕ) → 0 < length text → n ≡ first_length text → lines_of text ≡ take n text ∷ lines_of (drop n text)
first_line [] n more e = absurd (omega arith)
first_line (b ∷ bs) n more e = rw e (first_line_cons b bs)

length-onto_first : (b : ℕ) (lines : List (List ℕ)) → length (onto_first b lines) ≤ length lines + 1
length-onto_first b [] = omega arith
length-onto_first b (line ∷ lines) = omega arith

-- no text has more lines than bytes
pub length-lines_of : (text : List ℕ) → length (lines_of text) ≤ length text
length-lines_of [] = omega arith
length-lines_of (b ∷ bs) =
    elim (eqb b 10) as (λ v. length (cond v ((b ∷ []) ∷ lines_of bs) (onto_first b (lines_of bs))) ≤ length (b ∷ bs)) [
      | true ↦ omega (arith, length-lines_of bs)
      | false ↦ omega (arith, length-lines_of bs, length-onto_first b (lines_of bs))
    ]

first_length-le : (text : List ℕ) → first_length text ≤ length text
first_length-le [] = omega arith
first_length-le (b ∷ bs) =
    elim (eqb b 10) as (λ v. cond v 1 (suc (first_length bs)) ≤ length (b ∷ bs)) [
      | true ↦ omega arith
      | false ↦ omega (arith, first_length-le bs)
    ]

-- the text from the place on where k lines have passed
pub drop_lines : (k : ℕ) (text : List ℕ) → k ≤ length (lines_of text) → lines_of (drop (sum_by length (take k (lines_of text))) text) ≡ drop k (lines_of text)
drop_lines zero text within = refl
drop_lines (suc k) [] within = absurd (omega arith)
drop_lines (suc k) (b ∷ bs) within =
    let text : List ℕ = b ∷ bs in
    let n : ℕ = first_length text in
    let rest : List ℕ = drop n text in
    let first : lines_of text ≡ take n text ∷ lines_of rest = first_line_cons b bs in
    let passed : ℕ = sum_by length (take k (lines_of rest)) in
    let len : length (take n text) ≡ n = length-take-le n text (first_length-le text) in
    let all : sum_by length (take (suc k) (lines_of text)) ≡ n + passed =
    ap (λ (lines : List (List ℕ)). sum_by length (take (suc k) lines)) first ∙ sum_by-cons length (take n text) (take k (lines_of rest)) ∙ ap (λ (m : ℕ). m + passed) len in
    ap (λ (m : ℕ). lines_of (drop m text)) all
    ∙ ap lines_of (sym (drop-drop passed n text))
    ∙ drop_lines k rest (omega (arith, ap length first))
    ∙ ap (λ (lines : List (List ℕ)). drop (suc k) lines) (sym first)

-- the lines from a place on are those that have not passed
pub lines_from_is : (place : TextPlace) → IsLineStart place → lines_from place ≡ drop (place.line - 1) (lines_of place.text)
lines_from_is place start =
    ap (λ (at : ℕ). lines_of (drop at place.text)) start.before ∙ drop_lines (place.line - 1) place.text (omega (arith, start.first, start.last))

-- the number past the last line, from the start of any line
pub past_end_is : (place : TextPlace) → IsLineStart place → place.line + length (lines_from place) ≡ past_end_of place.text
past_end_is place start =
    omega (arith, start.first, start.last, ap length (lines_from_is place start), length-drop (place.line - 1) (lines_of place.text))

-- no text that is not too long has a large number past its end
pub past_end-le : (text : List ℕ) → past_end_of text ≤ length text + 1
past_end-le text = omega (arith, length-lines_of text)

onto_first-sum : (b : ℕ) (lines : List (List ℕ)) → sum_by length (onto_first b lines) ≡ suc (sum_by length lines)
onto_first-sum b [] = refl
onto_first-sum b (line ∷ lines) = omega (arith, sum_by-cons length (b ∷ line) lines, sum_by-cons length line lines)

-- the lines take up the text
pub sum_lines : (text : List ℕ) → sum_by length (lines_of text) ≡ length text
sum_lines [] = refl
sum_lines (b ∷ bs) =
    elim (eqb b 10) as (λ v. sum_by length (cond v ((b ∷ []) ∷ lines_of bs) (onto_first b (lines_of bs))) ≡ length (b ∷ bs)) [
      | true ↦ omega (arith, sum_by-cons length (b ∷ []) (lines_of bs), sum_lines bs)
      | false ↦ omega (arith, onto_first-sum b (lines_of bs), sum_lines bs)
    ]

-- the start of a line is within the text
pub start-within : (place : TextPlace) → IsLineStart place → place.at ≤ length place.text
start-within place start =
    omega (arith, start.before, sum_by-take-le length (lines_of place.text) (place.line - 1), sum_lines place.text)

-- where a line begins, the next begins behind it
pub start-next : (place : TextPlace) (n : ℕ) → IsLineStart place → n ≤ length (drop place.at place.text) → lines_from place ≡ take n (drop place.at place.text) ∷ lines_of (drop n (drop place.at place.text)) → IsLineStart (record { text = place.text; at = place.at + n; line = place.line + 1 })
start-next place n start within first =
    let lines : List (List ℕ) = lines_of place.text in
    let k : ℕ = place.line - 1 in
    let rest : List ℕ = drop place.at place.text in
    let left : drop k lines ≡ take n rest ∷ lines_of (drop n rest) = sym (lines_from_is place start) ∙ first in
    let more : k < length lines = omega (arith, ap length left, length-drop k lines) in
    let here : get_or lines k [] ≡ take n rest = ap (λ (at : ℕ). get_or lines at []) (sym (add-zero k)) ∙ sym (get_or-drop k lines 0 []) ∙ ap (λ (xs : List (List ℕ)). get_or xs 0 []) left in
    let next : (place.line + 1) - 1 ≡ k + 1 = omega (arith, start.first) in
    record {
      first = omega arith;
      last = omega (arith, more, start.first);
      before = omega (arith, start.before, ap (λ (m : ℕ). sum_by length (take m lines)) next, sum_by_more length lines k [] more, ap length here, length-take-le n rest within);
    }

-- the lines, one after another, are the text
concat-onto_first : (b : ℕ) (lines : List (List ℕ)) → concat (onto_first b lines) ≡ b ∷ concat lines
concat-onto_first b [] = refl
concat-onto_first b (line ∷ lines) = refl

pub concat-lines_of : (text : List ℕ) → concat (lines_of text) ≡ text
concat-lines_of [] = refl
concat-lines_of (b ∷ bs) =
    elim (eqb b 10) as (λ v. concat (cond v ((b ∷ []) ∷ lines_of bs) (onto_first b (lines_of bs))) ≡ b ∷ bs) [
      | true ↦ ap (λ (xs : List ℕ). b ∷ xs) (concat-lines_of bs)
      | false ↦ concat-onto_first b (lines_of bs) ∙ ap (λ (xs : List ℕ). b ∷ xs) (concat-lines_of bs)
    ]

onto_line : (b : ℕ) (line : List ℕ) → b ≢ 10 → IsLine line → IsLine (b ∷ line)
onto_line b [] other is = tt
onto_line b (c ∷ bs) other is = (other, is)

onto_lines : (b : ℕ) (lines : List (List ℕ)) → b ≢ 10 → AllByRecursion IsLine lines → AllByRecursion IsLine (onto_first b lines)
onto_lines b [] other all = (tt, tt)
onto_lines b (line ∷ lines) other all = (onto_line b line other all.0, all.1)

-- each of them is a line
pub each-lines_of : (text : List ℕ) → AllByRecursion IsLine (lines_of text)
each-lines_of [] = tt
each-lines_of (b ∷ bs) =
    elim (eqb b 10) as (λ v. eqb b 10 ≡ v → AllByRecursion IsLine (cond v ((b ∷ []) ∷ lines_of bs) (onto_first b (lines_of bs)))) [
      | true ↦ λ _. (tt, each-lines_of bs)
      | false ↦ λ e. onto_lines b (lines_of bs) (eqb-false b 10 e) (each-lines_of bs)
    ] refl

-- what stands before a line feed is a line with it
pub lines_of-ended : (line rest : List ℕ) → lacks_line_feed line ≡ true → lines_of (line ++ 10 ∷ rest) ≡ (line ++ 10 ∷ []) ∷ lines_of rest
lines_of-ended [] rest lacks = refl
lines_of-ended (b ∷ bs) rest lacks =
    let parts = and_parts (not (eqb b 10)) (lacks_line_feed bs) lacks in
    rw (not-true (eqb b 10) parts.0) (ap (onto_first b) (lines_of-ended bs rest parts.1))

-- what stands behind the last line feed is a line, if it is there
pub lines_of-last : (line : List ℕ) → lacks_line_feed line ≡ true → 0 < length line → lines_of line ≡ line ∷ []
lines_of-last [] lacks more = absurd (omega arith)
lines_of-last (b ∷ []) lacks more =
    let parts = and_parts (not (eqb b 10)) true lacks in
    rw (not-true (eqb b 10) parts.0) refl
lines_of-last (b ∷ c ∷ bs) lacks more =
    let parts = and_parts (not (eqb b 10)) (lacks_line_feed (c ∷ bs)) lacks in
    rw (not-true (eqb b 10) parts.0) (ap (onto_first b) (lines_of-last (c ∷ bs) parts.1 (omega arith)))

-- a list whose last byte is `last`, and one whose last byte is another
without_last-same : (last : ℕ) (bs : List ℕ) (n : ℕ) → length bs ≡ n + 1 → get_or bs n 0 ≡ last → without_last last bs ≡ take n bs
without_last-same last [] n e same = absurd (omega arith)
without_last-same last (b ∷ []) zero e same = rw (eq-eqb b last same) refl
without_last-same last (b ∷ []) (suc n) e same = absurd (omega arith)
without_last-same last (b ∷ c ∷ bs) zero e same = absurd (omega arith)
without_last-same last (b ∷ c ∷ bs) (suc n) e same =
    ap (λ (xs : List ℕ). b ∷ xs) (without_last-same last (c ∷ bs) n (omega arith) same)

without_last-other : (last : ℕ) (bs : List ℕ) (n : ℕ) → length bs ≡ n + 1 → get_or bs n 0 ≢ last → without_last last bs ≡ bs
without_last-other last [] n e other = refl
without_last-other last (b ∷ []) zero e other = rw (ne_eqb b last other) refl
without_last-other last (b ∷ []) (suc n) e other = absurd (omega arith)
without_last-other last (b ∷ c ∷ bs) zero e other = absurd (omega arith)
without_last-other last (b ∷ c ∷ bs) (suc n) e other =
    ap (λ (xs : List ℕ). b ∷ xs) (without_last-other last (c ∷ bs) n (omega arith) other)

-- a list by its last byte, which is `last` or another
pub without_last-is : (last : ℕ) (bs : List ℕ) → 0 < length bs → get_or bs (length bs - 1) 0 ≡ last → without_last last bs ≡ take (length bs - 1) bs
without_last-is last bs more same = without_last-same last bs (length bs - 1) (omega arith) same

pub without_last-is_not : (last : ℕ) (bs : List ℕ) → 0 < length bs → get_or bs (length bs - 1) 0 ≢ last → without_last last bs ≡ bs
without_last-is_not last bs more other = without_last-other last bs (length bs - 1) (omega arith) other

pub ruleset last_byte = (without_last-is, without_last-is_not)

pub without_last-push : (last : ℕ) (bs : List ℕ) → without_last last (bs ++ last ∷ []) ≡ bs
without_last-push last [] = rw (eq-eqb last last refl) refl
without_last-push last (b ∷ []) = ap (λ (xs : List ℕ). b ∷ xs) (without_last-push last [])
without_last-push last (b ∷ c ∷ bs) = ap (λ (xs : List ℕ). b ∷ xs) (without_last-push last (c ∷ bs))

-- a text byte is no byte of another kind
text_byte-differs : (b c : ℕ) → is_text_byte b ≡ true → is_text_byte c ≡ false → eqb b c ≡ false
text_byte-differs b c text other =
    elim (eqb b c) as (λ v. eqb b c ≡ v → v ≡ false) [
      | true ↦ λ e. absurd (let same : is_text_byte b ≡ is_text_byte c = ap is_text_byte (eqb-true b c e) in cc)
      | false ↦ λ _. refl
    ] refl

-- a list of text bytes ends in no other byte, and has no line feed
without_last-text : (last : ℕ) (bs : List ℕ) → is_text_byte last ≡ false → list_all is_text_byte bs ≡ true → without_last last bs ≡ bs
without_last-text last [] other all = refl
without_last-text last (b ∷ []) other all = rw (text_byte-differs b last (and_parts (is_text_byte b) true all).0 other) refl
without_last-text last (b ∷ c ∷ bs) other all =
    ap (λ (xs : List ℕ). b ∷ xs) (without_last-text last (c ∷ bs) other (and_parts (is_text_byte b) (list_all is_text_byte (c ∷ bs)) all).1)

text_lacks_line_feed : (line : List ℕ) → list_all is_text_byte line ≡ true → lacks_line_feed line ≡ true
text_lacks_line_feed [] all = refl
text_lacks_line_feed (b ∷ bs) all =
    let parts = and_parts (is_text_byte b) (list_all is_text_byte bs) all in
    rw (text_byte-differs b 10 parts.0 refl) (text_lacks_line_feed bs parts.1)

-- a printed line is read as it was
pub bytes_of_line-printed : (line : List ℕ) → list_all is_text_byte line ≡ true → bytes_of_line (line ++ 10 ∷ []) ≡ line
bytes_of_line-printed line all = ap (without_last 13) (without_last-push 10 line) ∙ without_last-text 13 line refl all

pub lines_of-printed : (line : List ℕ) (lines : List (List ℕ)) → list_all is_text_byte line ≡ true → lines_of (printed_lines (line ∷ lines)) ≡ (line ++ 10 ∷ []) ∷ lines_of (printed_lines lines)
lines_of-printed line lines all =
    ap lines_of (append_assoc line (10 ∷ []) (printed_lines lines)) ∙ lines_of-ended line (printed_lines lines) (text_lacks_line_feed line all)

pub content-printed : (at number : ℕ) (lines : List (List ℕ)) → AllByRecursion IsPrintable lines → bytes_of_content (content_among at number (lines_of (printed_lines lines))) ≡ lines
content-printed at number [] all = refl
content-printed at number (line ∷ lines) all =
    rw (lines_of-printed line lines all.0.bytes, bytes_of_line-printed line all.0.bytes, all.0.content)
    (ap (λ (others : List (List ℕ)). line ∷ others) (content-printed (at + length (line ++ 10 ∷ [])) (number + 1) lines all.1))
