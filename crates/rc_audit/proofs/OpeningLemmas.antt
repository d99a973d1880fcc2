-- The lines of one plan more.
use Rattle.std.proofs.Common.{◌≡◌, ℕ, ◌+◌, List, [], ◌∷◌, ◌++◌, sym, ap, ◌∙◌, arith}
use Rattle.rc_audit.proofs.Imports.{flat_map, range_with_len, append-nil, map-id, flat_map-append, map-range_with_len_more, SpecWithPlans, op_lines}

numbers_more : (n : ℕ) → range_with_len 0 (n + 1) ≡ range_with_len 0 n ++ n ∷ []
numbers_more n =
    let z : 0 + n ≡ n = omega arith in
    sym (map-id (range_with_len 0 (n + 1))) ∙ map-range_with_len_more (λ x. x) 0 n n z ∙ ap (λ l. l ++ n ∷ []) (map-id (range_with_len 0 n))

-- the lines of the first plans
abbrev pub first_plan_lines : SpecWithPlans → ℕ → List (List ℕ)
first_plan_lines compiled ops = flat_map (op_lines compiled.spec compiled.plans) (range_with_len 0 ops)

pub first_more : (compiled : SpecWithPlans) (op : ℕ)
    → first_plan_lines compiled (op + 1) ≡ first_plan_lines compiled op ++ op_lines compiled.spec compiled.plans op
first_more compiled op =
    let f = op_lines compiled.spec compiled.plans in
    ap (flat_map f) (numbers_more op) ∙ flat_map-append f (range_with_len 0 op) (op ∷ []) ∙ ap (λ l. first_plan_lines compiled op ++ l) (append-nil (f op))
