-- Texts in the order of their bytes, and the rank of a text among texts.
use Rattle.std.specs.Prelude.{ℕ, List, Option, position}
use Rattle.std.specs.Str.{bytes_eq}
use Rattle.std.specs.declared.cmp.Ordering.{Ordering}
use Rattle.std.specs.Ordering.{nat_cmp}
use Rattle.std.specs.Cmp.Lexicographic.{slice_cmp}
use Rattle.rc_tuple.specs.RisingSet.{gather}

-- the first byte that differs decides, and a text that goes on comes after
abbrev pub text_cmp : List ℕ → List ℕ → Ordering
text_cmp t u = slice_cmp nat_cmp t u

-- the distinct texts, rising
abbrev pub texts_of : List (List ℕ) → List (List ℕ)
texts_of texts = gather text_cmp texts

-- the place of the text among the texts
unfoldable pub rank_of : List (List ℕ) → List ℕ → Option ℕ
rank_of texts t = position (bytes_eq t) texts
