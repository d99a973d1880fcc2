-- Calls that are made one after another, and the lines of their steps.
use Rattle.std.proofs.Common.{◌≡◌, ℕ, ◌+◌, ◌<◌, ◌≤◌, ◌^◌, List, [], ◌∷◌, ◌++◌, get_or, length, map, take, refl, sym, ap, ◌∙◌, arith}
use Rattle.rc_audit.proofs.Imports.{append-nil, append_assoc, map-append, Pairs, Call, Spec, plain, plain_grows, Step, step_line, turn_head, turn_lines, length-map, length-take-le, take_more, after_steps, after_steps-append, plain_steps, calls_of_plain}

plain_steps-append : (spec : Spec) (r : List Pairs) (xs ys : List Call)
    → plain_steps spec r (xs ++ ys) ≡ plain_steps spec r xs ++ plain_steps spec (after_steps spec r (plain_steps spec r xs)) ys
plain_steps-append spec r [] ys = refl
plain_steps-append spec r (x ∷ xs) ys =
    ap (λ (l : List Step). record { call = x; reply = (plain spec r x).reply } ∷ l) (plain_steps-append spec (plain spec r x).relation xs ys)

-- each call adds a tuple at most
after_few : (spec : Spec) (r : List Pairs) (calls : List Call) → length (after_steps spec r (plain_steps spec r calls)) ≤ length r + length calls
after_few spec r [] = omega arith
after_few spec r (x ∷ calls) =
    let one = plain_grows spec r x in
    let rest = after_few spec (plain spec r x).relation calls in
    omega (arith, one, rest)

-- the steps of the calls before this one, and the relation that they leave
abbrev pub steps_before : Spec → List Pairs → List Call → ℕ → List Step
steps_before spec r calls n = plain_steps spec r (take n calls)

abbrev pub relation_before : Spec → List Pairs → List Call → ℕ → List Pairs
relation_before spec r calls n = after_steps spec r (steps_before spec r calls n)

-- the lines of an entry up to this call
abbrev pub lines_before_call : Spec → List (List ℕ) → ℕ → ℕ → List Pairs → List Call → ℕ → List (List ℕ)
lines_before_call spec texts place thread r calls n =
    turn_head place thread (length calls) ++ map (step_line spec texts place thread) (steps_before spec r calls n)

module _ (spec : Spec) (texts : List (List ℕ)) (place thread : ℕ) (r : List Pairs) (calls : List Call) (n : ℕ) (call : Call) (within : n < length calls) (here : call ≡ get_or calls n call) where
  abbrev pub step : Step
  step = record { call = call; reply = (plain spec (relation_before spec r calls n) call).reply }

  parts : take (n + 1) calls ≡ take n calls ++ call ∷ []
  parts = take_more calls n call within ∙ ap (λ (c : Call). take n calls ++ c ∷ []) (sym here)

  steps_more : steps_before spec r calls (n + 1) ≡ steps_before spec r calls n ++ step ∷ []
  steps_more = ap (plain_steps spec r) parts ∙ plain_steps-append spec r (take n calls) (call ∷ [])

  pub relation_more : relation_before spec r calls (n + 1) ≡ (plain spec (relation_before spec r calls n) call).relation
  relation_more = ap (after_steps spec r) steps_more ∙ after_steps-append spec r (steps_before spec r calls n) (step ∷ [])

  pub lines_more : lines_before_call spec texts place thread r calls (n + 1)
      ≡ lines_before_call spec texts place thread r calls n ++ step_line spec texts place thread step ∷ []
  lines_more =
      ap (λ (l : List Step). turn_head place thread (length calls) ++ map (step_line spec texts place thread) l) steps_more
      ∙ ap (λ l. turn_head place thread (length calls) ++ l) (map-append (step_line spec texts place thread) (steps_before spec r calls n) (step ∷ []))
      ∙ sym (append_assoc (turn_head place thread (length calls)) (map (step_line spec texts place thread) (steps_before spec r calls n)) (step_line spec texts place thread step ∷ []))

  pub few_before : length r + length calls < 2 ^ 63 → length (plain spec (relation_before spec r calls n) call).relation < 2 ^ 63
  few_before few =
      let most = after_few spec r (take n calls) in
      let one = plain_grows spec (relation_before spec r calls n) call in
      omega (arith, few, most, one, length-take-le n calls (omega (arith, within)), within)

-- before the first call
pub lines_none : (spec : Spec) (texts : List (List ℕ)) (place thread : ℕ) (r : List Pairs) (calls : List Call)
    → lines_before_call spec texts place thread r calls 0 ≡ turn_head place thread (length calls)
lines_none spec texts place thread r calls = append-nil (turn_head place thread (length calls))

-- behind the last one
pub lines_all : (spec : Spec) (texts : List (List ℕ)) (place thread : ℕ) (r : List Pairs) (calls : List Call) (n : ℕ) → take n calls ≡ calls
    → lines_before_call spec texts place thread r calls n ≡ turn_lines spec texts place thread (plain_steps spec r calls)
lines_all spec texts place thread r calls n all =
    let steps = plain_steps spec r calls in
    let count : length calls ≡ length steps = ap (λ (l : List Call). length l) (sym (calls_of_plain spec r calls)) ∙ length-map steps (λ (s : Step). s.call) in
    (λ i. turn_head place thread (count i) ++ map (step_line spec texts place thread) (plain_steps spec r (all i)))
