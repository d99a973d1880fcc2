-- Plans that are written for operations.
use Rattle.std.specs.Prelude.{ℕ, ◌<◌, ◌≤◌, Bool, ◌==◌, List, [], ◌∷◌, ◌++◌, length, map}
use Rattle.rc_handplan.specs.Imports.{nat_cmp, In, IsRising, AreDistinct, Spec, Statement, Lock, Probe, Read, CheckAbsent, CheckFound, CheckDep, Apply, Emit, Commit, Release, AreKnown}
use Rattle.rc_handplan.specs.declared.hand.Hand.{Hand}

-- it is the plan of the operation
abbrev pub is_of : ℕ → Hand → Bool
is_of op hand = hand.op == op

-- the operations that have a plan
abbrev pub ops_of : List Hand → List ℕ
ops_of hands = map (λ hand. hand.op) hands

-- one plan more, which has no statement yet
abbrev pub with_plan : List Hand → ℕ → List Hand
with_plan hands op = hands ++ record { op = op; plan = [] } ∷ []

-- a plan with one statement more
abbrev pub with_statement : Hand → Statement → Hand
with_statement hand statement = record hand { plan = hand.plan ++ statement ∷ [] }

-- the statements of the last plan
abbrev pub last_plan : List Hand → List Statement
last_plan [] = []
last_plan (hand ∷ []) = hand.plan
last_plan (hand ∷ next ∷ hands) = last_plan (next ∷ hands)

-- the plans with one statement more at the end of the last one
abbrev pub onto_last : List Hand → Statement → List Hand
onto_last [] statement = []
onto_last (hand ∷ []) statement = with_statement hand statement ∷ []
onto_last (hand ∷ next ∷ hands) statement = hand ∷ onto_last (next ∷ hands) statement

-- each is the plan of an operation, which has no other, names what the specification has, and has at most 256 statements
pub record AreHands (spec : Spec) (hands : List Hand) : Type 0 where
  pub ops : (hand : Hand) → In hand hands → hand.op < length spec.ops
  pub once : AreDistinct (ops_of hands)
  pub known : (hand : Hand) → In hand hands → AreKnown spec hand.plan
  pub short : (hand : Hand) → In hand hands → length hand.plan ≤ 256

-- the columns of a Probe are a set
abbrev pub HasSet : Statement → Type 0
HasSet (Lock c choice mode) = Unit {0}
HasSet (Probe cols) = IsRising nat_cmp cols
HasSet (Read e mode) = Unit {0}
HasSet CheckAbsent = Unit {0}
HasSet CheckFound = Unit {0}
HasSet (CheckDep dep) = Unit {0}
HasSet Apply = Unit {0}
HasSet Emit = Unit {0}
HasSet Commit = Unit {0}
HasSet (Release c) = Unit {0}

abbrev pub HaveSets : List Statement → Type 0
HaveSets plan = (x : Statement) → In x plan → HasSet x

abbrev pub AllHaveSets : List Hand → Type 0
AllHaveSets hands = (hand : Hand) → In hand hands → HaveSets hand.plan
