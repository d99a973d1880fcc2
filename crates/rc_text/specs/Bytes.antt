-- The kinds of bytes that the text language knows.
use Rattle.std.specs.Prelude.{ℕ, Bool, ◌==◌, ◌||◌, ◌&&◌, not, nat_le, List, [], ◌∷◌, if◌then◌else◌}

-- a space or a tab
abbrev pub is_blank : ℕ → Bool
is_blank b = b == 32 || b == 9

-- the byte of `"`
abbrev pub is_quote : ℕ → Bool
is_quote b = b == 34

-- a byte that a word may hold: 32 to 126, or a tab
abbrev pub is_text_byte : ℕ → Bool
is_text_byte b = (nat_le 32 b && nat_le b 126) || b == 9

-- a byte that a word may hold where it is written plain
abbrev pub is_plain_byte : ℕ → Bool
is_plain_byte b = is_text_byte b && not (is_blank b)

-- a byte that a word may hold between its quotes
abbrev pub is_quotable_byte : ℕ → Bool
is_quotable_byte b = is_text_byte b && not (is_quote b)

-- the bytes from the first on that is neither a space nor a tab
abbrev pub without_blanks : List ℕ → List ℕ
without_blanks [] = []
without_blanks (b ∷ bs) = if is_blank b then without_blanks bs else b ∷ bs
