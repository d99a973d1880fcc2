-- The versions of the text language.
use Rattle.std.specs.Prelude.{ℕ, Bool, if◌then◌else◌, List, Option, Some, None, codes}
use Rattle.std.specs.Str.{bytes_eq}
use Rattle.rc_reader.specs.declared.version.Version.{Version}
use Rattle.rc_reader.specs.declared.version.Version.TheVariants.{One, Two}

abbrev pub version_number : Version → ℕ
version_number One = 1
version_number Two = 2

-- the word by which a header names a version
abbrev pub version_word : Version → List ℕ
version_word One = codes "1"
version_word Two = codes "2"

abbrev pub is_version : Version → List ℕ → Bool
is_version version word = bytes_eq word (version_word version)

abbrev pub version_of_word : List ℕ → Option Version
version_of_word word =
    if is_version One word then Some One
    else if is_version Two word then Some Two
    else None

-- the first in a text of the first version, and the second in one of the second
abbrev pub in_version : {A : Type 0} → Version → A → A → A
in_version One first second = first
in_version Two first second = second

-- the most columns of a text
abbrev pub most_columns : Version → ℕ
most_columns version = in_version version 16 32
