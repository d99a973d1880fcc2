-- The value of digits, digit by digit, and numbers that are printed.
use Rattle.std.proofs.Common.{◌≡◌, ℕ, zero, suc, ◌+◌, ◌*◌, ◌<◌, ◌≤◌, ◌-◌, true, not, eqb, leb, ◌^◌, Ok, Err, List, [], ◌∷◌, length, get_or, take, refl, ap, ◌∙◌, arith, rules}
use Rattle.std.specs.Char.{is_ascii_digit, digit_value}
use Rattle.std.specs.Fmt.{decimal}
use Rattle.std.specs.List.{list_all}
use Rattle.std.specs.Str.Parse.{digits_value_after}
use Rattle.std.proofs.lemmas.Bool.{lt-ltb, le-ltb, leb-true, le-leb, and_parts, ne_eqb}
use Rattle.std.proofs.lemmas.Fmt.{digits_decimal, digits_value-decimal, decimal_nonempty}
use Rattle.std.proofs.lemmas.List.Sums.{AllPass-from_list_all}
use Rattle.std.proofs.lemmas.Int.Digits.{digits_value_more}
use Rattle.std.proofs.lemmas.Str.Parse.{IsNumeralModel, numerals_by_value}
use Rattle.rc_text.specs.declared.numbers.NumFault.TheVariants.{Range}
use Rattle.rc_text.specs.Bytes.{is_plain_byte}
use Rattle.rc_text.specs.Words.{IsPlain}
use Rattle.rc_text.specs.Numbers.{is_number, number_of, u64_of}

-- each byte of a word of digits is a digit
pub digit_at : (word : List ℕ) (i : ℕ) → list_all is_ascii_digit word ≡ true → i < length word → (48 ≤ get_or word i 0) × (get_or word i 0 ≤ 57)
digit_at word i digits lt =
    let here : is_ascii_digit (get_or word i 0) ≡ true = AllPass-from_list_all is_ascii_digit word digits i 0 lt in
    let parts = and_parts (leb 48 (get_or word i 0)) (leb (get_or word i 0) 57) here in
    (leb-true 48 (get_or word i 0) parts.0, leb-true (get_or word i 0) 57 parts.1)

value_after-ge : (n : ℕ) (ds : List ℕ) → n ≤ digits_value_after 10 n ds
value_after-ge n [] = omega arith
value_after-ge n (d ∷ ds) = omega (arith, value_after-ge (n * 10 + digit_value d) ds)

value_after-take : (n : ℕ) (ds : List ℕ) (i : ℕ) → digits_value_after 10 n (take i ds) ≤ digits_value_after 10 n ds
value_after-take n ds zero = value_after-ge n ds
value_after-take n [] (suc i) = omega arith
value_after-take n (d ∷ ds) (suc i) = value_after-take (n * 10 + digit_value d) ds i

-- the digits so far make no more than all of them
pub number_of-take : (word : List ℕ) (i : ℕ) → number_of (take i word) ≤ number_of word
number_of-take word i = value_after-take 0 word i

digit_value-digit : (b : ℕ) → 48 ≤ b → b ≤ 57 → digit_value b ≡ b - 48
digit_value-digit b low high = rw (le-ltb b 48 low, lt-ltb b 58 (omega arith)) refl

-- one digit more
pub number_of-more : (word : List ℕ) (i : ℕ) → list_all is_ascii_digit word ≡ true → i < length word → number_of (take (i + 1) word) ≡ number_of (take i word) * 10 + (get_or word i 0 - 48)
number_of-more word i digits lt =
    let digit = digit_at word i digits lt in
    digits_value_more 10 word i lt ∙ ap (λ (d : ℕ). number_of (take i word) * 10 + d) (digit_value-digit (get_or word i 0) digit.0 digit.1)

pub digits_of_number : (word : List ℕ) → is_number word ≡ true → list_all is_ascii_digit word ≡ true
digits_of_number word number = (and_parts (not (eqb (length word) 0)) (list_all is_ascii_digit word) number).1

-- a number of which the first digits make too much already
pub out_of_range : (word : List ℕ) (i : ℕ) → is_number word ≡ true → 2 ^ 64 ≤ number_of (take i word) → u64_of word ≡ Err Range
out_of_range word i number large = rw (number, le-ltb (number_of word) (2 ^ 64) (omega (arith, number_of-take word i))) refl

-- a number of 64 bits
pub in_range : (word : List ℕ) → is_number word ≡ true → number_of word < 2 ^ 64 → u64_of word ≡ Ok (number_of word)
in_range word number small = rw (number, lt-ltb (number_of word) (2 ^ 64) small) refl

-- a zero in front doesn't count
pub u64_of-zero : (word : List ℕ) → 0 < length word → u64_of (48 ∷ word) ≡ u64_of word
u64_of-zero [] more = absurd (omega arith)
u64_of-zero (b ∷ bs) more =
    rw (ne_eqb (length (48 ∷ b ∷ bs)) 0 (omega arith), ne_eqb (length (b ∷ bs)) 0 (omega arith)) refl

own : IsNumeralModel (λ ds. list_all is_ascii_digit ds ≡ true) number_of
own = numerals_by_value _ (search rules)

pub is_number-decimal : (n : ℕ) → n < 2 ^ 64 → is_number (decimal n) ≡ true
is_number-decimal n small =
    rw (ne_eqb (length (decimal n)) 0 (omega (arith, decimal_nonempty n small)), digits_decimal own n small) refl

-- a printed number is read
pub u64_of-decimal : (n : ℕ) → n < 2 ^ 64 → u64_of (decimal n) ≡ Ok n
u64_of-decimal n small =
    let value : number_of (decimal n) ≡ n = digits_value-decimal own n small in
    in_range (decimal n) (is_number-decimal n small) (omega arith) ∙ ap (λ (m : ℕ). Ok m) value

plain_digit : (b : ℕ) → is_ascii_digit b ≡ true → is_plain_byte b ≡ true
plain_digit b digit =
    let parts = and_parts (leb 48 b) (leb b 57) digit in
    let low : 48 ≤ b = leb-true 48 b parts.0 in
    let high : b ≤ 57 = leb-true b 57 parts.1 in
    rw (le-leb 32 b (omega arith), le-leb b 126 (omega arith), ne_eqb b 9 (omega arith), ne_eqb b 32 (omega arith)) refl

plain_digits : (ds : List ℕ) → list_all is_ascii_digit ds ≡ true → list_all is_plain_byte ds ≡ true
plain_digits [] all = refl
plain_digits (d ∷ ds) all =
    let parts = and_parts (is_ascii_digit d) (list_all is_ascii_digit ds) all in
    rw (plain_digit d parts.0, plain_digits ds parts.1) refl

-- digits may be written plain
pub plain-number : (ds : List ℕ) → is_number ds ≡ true → IsPlain ds
plain-number [] number = absurd cc
plain-number (d ∷ ds) number =
    let digits = digits_of_number (d ∷ ds) number in
    let digit = and_parts (leb 48 d) (leb d 57) (and_parts (is_ascii_digit d) (list_all is_ascii_digit ds) digits).0 in
    (ne_eqb d 34 (omega (arith, leb-true 48 d digit.0)), plain_digits (d ∷ ds) digits)
