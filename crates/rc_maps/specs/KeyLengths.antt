-- How many values the keys of a table have.
use Rattle.std.specs.Prelude.{ℕ, Bool, not, ◌==◌, List, length}
use Rattle.std.specs.List.{list_all}
use Rattle.std.proofs.Common.{Vec, Global}

abbrev pub has_two : List ℕ → Bool
has_two key = length key == 2

-- another number of values
abbrev pub has_other : List ℕ → Bool
has_other key = not (has_two key)

-- each key has two values
abbrev pub all_have_two : List (List ℕ) → Bool
all_have_two keys = list_all has_two keys

-- no key has two values
abbrev pub none_has_two : List (Vec ℕ Global) → Bool
none_has_two keys = list_all (λ k. has_other k.items) keys
