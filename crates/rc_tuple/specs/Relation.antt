-- Relations, functional dependencies, and what they imply.
use Rattle.std.specs.Prelude.{◌≡◌, ℕ, ◌<◌, ◌^◌, Bool, List, ◌&&◌, not}
use Rattle.rc_tuple.specs.Imports.{list_any, nat_cmp}
use Rattle.rc_tuple.specs.RisingSet.{In, IsRising}
use Rattle.rc_tuple.specs.ColSet.{Within}
use Rattle.rc_tuple.specs.Tuple.{Pairs, cols_of, project, tuple_cmp, agree_on}
use Rattle.rc_tuple.specs.declared.dep.Dep.{Dep}

-- the tuple is over these columns, and its values have 64 bits
pub record IsOver (columns : List ℕ) (t : Pairs) : Type 0 where
  pub over : cols_of t ≡ columns
  pub fits : (p : ℕ × ℕ) → In p t → p.1 < 2 ^ 64

-- a set of tuples over the columns, as a rising list
pub record IsRelation (columns : List ℕ) (r : List Pairs) : Type 0 where
  pub rising : IsRising tuple_cmp r
  pub each : (t : Pairs) → In t r → IsOver columns t

-- any two tuples that agree on the first columns agree on the second
abbrev pub SatisfiesOne : List Pairs → List ℕ → List ℕ → Type 0
SatisfiesOne r xs ys = (t u : Pairs) → In t r → In u r → project xs t ≡ project xs u → project ys t ≡ project ys u

abbrev pub Satisfies : List Pairs → List Dep → Type 0
Satisfies r deps = (d : Dep) → In d deps → SatisfiesOne r d.left d.right

-- the columns hold those of the dependencies
abbrev pub HoldsDeps : List ℕ → List Dep → Type 0
HoldsDeps columns deps = (d : Dep) → In d deps → Within d.left columns × Within d.right columns

-- implication: each relation that satisfies the dependencies satisfies xs -> ys
abbrev pub Follows : List Dep → List ℕ → List ℕ → Type 0
Follows deps xs ys = (columns : List ℕ) → IsRising nat_cmp columns → HoldsDeps columns deps → Within xs columns → Within ys columns
    → (r : List Pairs) → IsRelation columns r → Satisfies r deps → SatisfiesOne r xs ys

-- the two tuples agree on the left side and differ on the right
abbrev pub breaks_pair : Dep → Pairs → Pairs → Bool
breaks_pair d t u = agree_on d.left t u && not (agree_on d.right t u)

-- some tuple does so with this one
abbrev pub breaks_with : Dep → Pairs → List Pairs → Bool
breaks_with d t r = list_any (breaks_pair d t) r

-- some two of the tuples do so: the test of SatisfiesOne
abbrev pub breaks : List Pairs → Dep → Bool
breaks r d = list_any (λ t. breaks_with d t r) r
