-- Plans as they are printed, and what it is that they are read again.
use Rattle.std.specs.Prelude.{◌≡◌, ◌≤◌, ◌<◌, ℕ, List, [], ◌∷◌, ◌++◌, length, map, Ok, codes}
use Rattle.rc_text_laws.specs.Imports.{flat_map, range_with_len, ContentLine, TextPlace, content_from, bytes_of_content, printed_lines, Spec, IsInRange, IsWellNamed, op_at, Statement, ArePlansOf, plan_at, AreKnown, statement_text, plan_text, Hand, Closing, AllKeepRules, AreChosen, OpsHaveSets, plans_alone, HandReading, hands_reading_to, plans_of, AreHands, HaveSets, AllHaveSets, Closes}

-- the lines in which the plan of an operation is printed
abbrev pub plan_lines : Spec → Hand → List (List ℕ)
plan_lines spec hand = (codes "plan " ++ (op_at spec hand.op).name) ∷ map (statement_text spec) hand.plan

-- the plans are read from a place on, and behind their lines these are left
pub record AreReadBack (closing : Closing) (spec : Spec) (place : TextPlace) (hands : List Hand) (left : List (List ℕ)) : Type 0 where
  pub others : List ContentLine
  pub read : hands_reading_to closing spec place ≡ Ok (record { hands = hands; others = others })
  pub left_are : bytes_of_content others ≡ left

-- Plans of different operations, each of at most 256 statements, which name what the specification has, are read again
-- where their lines stand in front of a line that closes them: one that begins with `work`, or with `end`.
abbrev pub AllPlansAreReadBack : Type 0
AllPlansAreReadBack = (closing : Closing) (spec : Spec) (hands : List Hand) (last : List ℕ) (others : List (List ℕ)) (place : TextPlace)
    → IsInRange spec → IsWellNamed spec → AreHands spec hands → AllHaveSets hands
    → Closes closing last → bytes_of_content (content_from place) ≡ flat_map (plan_lines spec) hands ++ last ∷ others
    → AreReadBack closing spec place hands (last ∷ others)

-- so is one plan
abbrev pub PlansAreReadBack : Type 0
PlansAreReadBack = (closing : Closing) (spec : Spec) (op : ℕ) (plan : List Statement) (last : List ℕ) (others : List (List ℕ))
    (place : TextPlace)
    → IsInRange spec → IsWellNamed spec → op < length spec.ops → AreKnown spec plan → HaveSets plan → length plan ≤ 256
    → Closes closing last
    → bytes_of_content (content_from place) ≡ plan_lines spec (record { op = op; plan = plan }) ++ last ∷ others
    → AreReadBack closing spec place (record { op = op; plan = plan } ∷ []) (last ∷ others)

-- whatever plans are read, their lines are read as they
abbrev pub PlansAreReadAgain : Type 0
PlansAreReadAgain = (closing : Closing) (spec : Spec) (first : TextPlace) (reading : HandReading) (last : List ℕ)
    (others : List (List ℕ)) (place : TextPlace) → IsInRange spec → IsWellNamed spec
    → hands_reading_to closing spec first ≡ Ok reading → Closes closing last
    → bytes_of_content (content_from place) ≡ flat_map (plan_lines spec) reading.hands ++ last ∷ others
    → AreReadBack closing spec place reading.hands (last ∷ others)

-- the lines of a plan, each with a line feed behind it, are the text in which it is printed
abbrev pub PlanLinesArePrinted : Type 0
PlanLinesArePrinted = (spec : Spec) (hand : Hand)
    → printed_lines (plan_lines spec hand) ≡ plan_text spec hand.op hand.plan

-- ---- plans that stand alone

-- each operation with its plan
abbrev pub hand_at : List (List Statement) → ℕ → Hand
hand_at plans op = record { op = op; plan = plan_at plans op }

abbrev pub all_hands : Spec → List (List Statement) → List Hand
all_hands spec plans = map (hand_at plans) (range_with_len 0 (length spec.ops))

-- each operation's plan has at most 256 statements
abbrev pub OpsAreShort : Spec → List (List Statement) → Type 0
OpsAreShort spec plans = (op : ℕ) → op < length spec.ops → length (plan_at plans op) ≤ 256

-- The plans of all operations, as they are printed, with the line `end` behind them, are read again.
abbrev pub PrintedPlansAreTaken : Type 0
PrintedPlansAreTaken = (spec : Spec) (plans : List (List Statement)) → IsInRange spec → IsWellNamed spec
    → ArePlansOf spec plans → OpsHaveSets spec plans → OpsAreShort spec plans
    → plans_of spec (plans_alone spec plans) ≡ Ok (all_hands spec plans)

-- They keep the rules of plans, and where they are written they are the chosen plans.
abbrev pub PrintedPlansAreChosen : Type 0
PrintedPlansAreChosen = (spec : Spec) (plans : List (List Statement)) → ArePlansOf spec plans
    → AllKeepRules spec (all_hands spec plans)
    × ((others : List (List Statement)) → AreChosen spec (all_hands spec plans) others
    → (op : ℕ) → op < length spec.ops → plan_at others op ≡ plan_at plans op)
