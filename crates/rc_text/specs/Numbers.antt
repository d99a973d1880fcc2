-- Numbers in decimal digits.
use Rattle.std.specs.Prelude.{ℕ, ◌^◌, ◌&&◌, ◌==◌, nat_lt, Bool, not, if◌then◌else◌, List, length, Result, Ok, Err}
use Rattle.std.specs.Char.{is_ascii_digit}
use Rattle.std.specs.List.{list_all}
use Rattle.std.specs.Str.Parse.{digits_value}
use Rattle.rc_text.specs.declared.numbers.NumFault.{NumFault}
use Rattle.rc_text.specs.declared.numbers.NumFault.TheVariants.{Form, Range}

-- one or more decimal digits
abbrev pub is_number : List ℕ → Bool
is_number word = not (length word == 0) && list_all is_ascii_digit word

-- the number that a word of digits stands for
abbrev pub number_of : List ℕ → ℕ
number_of word = digits_value 10 word

-- The number of a word, if it has 64 bits at most: no digits are a fault of form, and a larger number one of range.
abbrev pub u64_of : List ℕ → Result ℕ NumFault
u64_of word = if is_number word then (if nat_lt (number_of word) (2 ^ 64) then Ok (number_of word) else Err Range) else Err Form
