-- The plans of operations, written one after another.
use Rattle.std.proofs.Common.{◌≡◌, ℕ, zero, suc, ◌+◌, ◌<◌, ◌≤◌, List, [], ◌∷◌, ◌++◌, codes, length, take, Option, Some, Result, Ok, Err, inr, refl, ap, ◌∙◌, subst, arith}
use Rattle.rc_answer.proofs.Imports.{flat_map, range_with_len, slice_get, IsErr, length-range_with_len, Adds, AddsPrefix, adds_more, adds_prefix_longer, adds_prefix_more, printed_lines, Spec, Statement, SpecWithPlans, plan_at, plan_text, IsPlansText, Writes, WritesPart, WritesWhole, ArePlanned, op_text, plans_text, Status, Done, Stop, Memory, Sink}
use Rattle.rc_answer.proofs.WriteLemmas.{part_written, next_written, next_begun, all_written, of_one}

number_there : (a n i j : ℕ) → i < n → a + i ≡ j → slice_get (range_with_len a n) i ≡ Some j
number_there a zero i j h e = absurd (omega arith)
number_there a (suc n) zero j h e = let same : a ≡ j = omega (arith, e) in ap Some same
number_there a (suc n) (suc i) j h e = number_there (a + 1) n i j (omega (arith, h)) (omega (arith, e))

-- the plans of the first operations
abbrev pub first_plans : Spec → List (List Statement) → ℕ → List ℕ
first_plans spec plans count = flat_map (op_text spec plans) (take count (range_with_len 0 (length spec.ops)))

-- what is printed of an operation's plan is its text
pub op_printed : (spec here : Spec) (plans : List (List Statement)) (op : ℕ) (plan : List Statement) (text bytes : List ℕ) → here ≡ spec → plan ≡ plan_at plans op → text ≡ plan_text here op plan
    → bytes ≡ text → bytes ≡ op_text spec plans op
op_printed spec here plans op plan text bytes same is printed all =
    all ∙ printed ∙ ap (λ (s : Spec). plan_text s op plan) same ∙ ap (plan_text spec op) is

-- one plan more
pub plan_written : (spec : Spec) (plans : List (List Statement)) (op : ℕ) (text : List ℕ) (a b c : Option (List ℕ)) → op < length spec.ops → text ≡ op_text spec plans op
    → Adds a (first_plans spec plans op) b → Adds b text c → Adds a (first_plans spec plans (op + 1)) c
plan_written spec plans op text a b c known printed first more =
    next_written (op_text spec plans) a b c (range_with_len 0 (length spec.ops)) op op (number_there 0 (length spec.ops) op op known (omega arith)) first
    (subst (λ (t : List ℕ). Adds b t c) (printed ∙ of_one (op_text spec plans) op) more)

-- a part of one plan more
pub plan_begun : (spec : Spec) (plans : List (List Statement)) (op : ℕ) (text : List ℕ) (a b c : Option (List ℕ)) → op < length spec.ops → text ≡ op_text spec plans op
    → Adds a (first_plans spec plans op) b → AddsPrefix b text c → AddsPrefix a (plans_text spec plans) c
plan_begun spec plans op text a b c known printed first part =
    next_begun (op_text spec plans) a b c (range_with_len 0 (length spec.ops)) op op (number_there 0 (length spec.ops) op op known (omega arith)) first
    (subst (λ (t : List ℕ). AddsPrefix b t c) (printed ∙ of_one (op_text spec plans) op) part)

-- the plans of the first operations are a part of all
pub plans_part : (spec : Spec) (plans : List (List Statement)) (op : ℕ) (a b : Option (List ℕ)) → Adds a (first_plans spec plans op) b → AddsPrefix a (plans_text spec plans) b
plans_part spec plans op a b first = part_written (op_text spec plans) a b (range_with_len 0 (length spec.ops)) op first

-- once no operation is left, all plans are written
pub plans_written : (spec : Spec) (plans : List (List Statement)) (op : ℕ) (a b : Option (List ℕ)) → length spec.ops ≤ op → Adds a (first_plans spec plans op) b → Adds a (plans_text spec plans) b
plans_written spec plans op a b past first =
    all_written (op_text spec plans) a b (range_with_len 0 (length spec.ops)) op (omega (arith, past, length-range_with_len 0 (length spec.ops))) first

-- a writer that stopped left a part
pub part_writes : (A : List ℕ → Status → Type 0) (old new : Option (List ℕ)) (r : Result Status Stop) → IsErr r → WritesPart A old new → Writes A old new r
part_writes A old new (Ok status) e part = cc
part_writes A old new (Err Memory) e part = inr part
part_writes A old new (Err Sink) e part = part

-- ---- the plans, and then another text

-- the line `end`
abbrev pub end_line : List ℕ
end_line = printed_lines (codes "end" ∷ [])

-- what holds of the plans that a compiled specification keeps holds of the accepted one's
pub of_accepted : (P : List ℕ → Type 0) (accepted : Spec) (made : SpecWithPlans) → made.spec ≡ accepted → P (plans_text made.spec made.plans) → P (plans_text accepted made.plans)
of_accepted P accepted made same h = subst (λ (s : Spec). P (plans_text s made.plans)) same h

pub plans_begun : (A : List ℕ → Status → Type 0) (plans others : List ℕ) (a b : Option (List ℕ)) → A (plans ++ others) Done → AddsPrefix a plans b → WritesPart A a b
plans_begun A plans others a b is part = (plans ++ others, Done, is, adds_prefix_longer a b plans others part)

pub others_begun : (A : List ℕ → Status → Type 0) (plans others : List ℕ) (a b c : Option (List ℕ)) → A (plans ++ others) Done → Adds a plans b → AddsPrefix b others c → WritesPart A a c
others_begun A plans others a b c is first part = (plans ++ others, Done, is, adds_prefix_more a b c plans others first part)

pub others_written : (A : List ℕ → Status → Type 0) (plans others : List ℕ) (a b c : Option (List ℕ)) → A (plans ++ others) Done → Adds a plans b → Adds b others c → WritesWhole A a c Done
others_written A plans others a b c is first more = (plans ++ others, is, adds_more a b c plans others first more)

-- the plans and `end` are the text of the plans
pub is_plans_text : (accepted : Spec) (plans : List (List Statement)) → ArePlanned accepted plans → IsPlansText accepted (plans_text accepted plans ++ end_line) Done
is_plans_text accepted plans planned = (plans, planned, refl, refl)
