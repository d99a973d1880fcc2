-- Plans that are taken out one after another.
use Rattle.std.proofs.Common.{not, add-one, ◌≡◌, ℕ, zero, suc, ◌+◌, ◌<◌, ◌≤◌, true, false, cond, eqb, ltb, List, [], ◌∷◌, ◌++◌, length, get_or, set, take, drop, Option, Some, None, refl, sym, ap, ◌∙◌, subst, inl, inr, one-add, arith}
use Rattle.rc_handplan.proofs.Imports.{position, position_or_len, cases_lt, eqb-true, ltb-true, ltb-false, ne_eqb, cond_some, get_or_append_left, get_or_push, passes_at_first, In, each_push, plan_at, Statement, plan_for, is_of, Hand}

-- the plan of an operation stands at its place
plan_at_place : (hands : List Hand) (op : ℕ) (hand : Hand) → position_or_len (is_of op) hands < length hands
    → hand ≡ get_or hands (position_or_len (is_of op) hands) hand → plan_for hands op ≡ Some hand.plan
plan_at_place [] op hand lt is = absurd (omega arith)
plan_at_place (first ∷ hands) op hand lt is =
    let place = position_or_len (is_of op) hands in
    elim (eqb first.op op) as (λ v. cond (not v) (1 + place) 0 < suc (length hands) → hand ≡ get_or (first ∷ hands) (cond (not v) (1 + place) 0) hand → cond v (Some first.plan) (plan_for hands op) ≡ Some hand.plan) [
      | true ↦ λ _ here. ap (λ (h : Hand). Some h.plan) (sym here)
      | false ↦ λ within there.
          plan_at_place hands op hand (omega arith)
          (there ∙ ap (λ (n : ℕ). get_or (first ∷ hands) n hand) (one-add place))
    ] lt is

no_place : (hands : List Hand) (op : ℕ) → length hands ≤ position_or_len (is_of op) hands → plan_for hands op ≡ None
no_place [] op le = refl
no_place (first ∷ hands) op le =
    let place = position_or_len (is_of op) hands in
    elim (eqb first.op op) as (λ v. suc (length hands) ≤ cond (not v) (1 + place) 0 → cond v (Some first.plan) (plan_for hands op) ≡ None) [
      | true ↦ λ none. absurd (omega arith)
      | false ↦ λ behind. no_place hands op (omega arith)
    ] le

-- where a plan of the operation is found, it is the one that is written
pub plan_there : (hands : List Hand) (op at : ℕ) (hand : Hand) → position (is_of op) hands ≡ Some at
    → hand ≡ get_or hands at hand → plan_for hands op ≡ Some hand.plan
plan_there hands op at hand found is =
    let place = position_or_len (is_of op) hands in
    let both = cond_some (ltb place (length hands)) place at found in
    plan_at_place hands op hand (ltb-true place (length hands) both.0)
    (is ∙ ap (λ (n : ℕ). get_or hands n hand) (sym both.1))

pub op_there : (hands : List Hand) (op at : ℕ) (hand : Hand) → position (is_of op) hands ≡ Some at
    → hand ≡ get_or hands at hand → hand.op ≡ op
op_there hands op at hand found is =
    let place = position_or_len (is_of op) hands in
    let both = cond_some (ltb place (length hands)) place at found in
    let passes = passes_at_first (is_of op) hands hand (ltb-true place (length hands) both.0) in
    eqb-true hand.op op
    (ap (is_of op) (is ∙ ap (λ (n : ℕ). get_or hands n hand) (sym both.1)) ∙ passes)

pub plan_nowhere : (hands : List Hand) (op : ℕ) → position (is_of op) hands ≡ None → plan_for hands op ≡ None
plan_nowhere hands op e =
    let place = position_or_len (is_of op) hands in
    elim (ltb place (length hands)) as (λ v. ltb place (length hands) ≡ v → cond v (Some place) None ≡ None → plan_for hands op ≡ None) [
      | true ↦ λ _ h. absurd cc
      | false ↦ λ out _. no_place hands op (ltb-false place (length hands) out)
    ] refl e

-- the plans of other operations stay where a plan is taken out
pub others_stay : (hands : List Hand) (at : ℕ) (hand more : Hand) (other : ℕ) → hand ≡ get_or hands at hand
    → more.op ≡ hand.op → (other ≡ hand.op → ⊥) → plan_for (set hands at more) other ≡ plan_for hands other
others_stay [] at hand more other is op-is differs = refl
others_stay (first ∷ hands) zero hand more other is op-is differs =
    let first-is : first.op ≡ hand.op = ap (λ (h : Hand). h.op) (sym is) in
    rw (
      ne_eqb more.op other (λ e. differs (sym e ∙ op-is)),
      ne_eqb first.op other (λ e. differs (sym e ∙ first-is)),
    ) refl
others_stay (first ∷ hands) (suc at) hand more other is op-is differs =
    ap (λ (found : Option (List Statement)). cond (eqb first.op other) (Some first.plan) found)
    (others_stay hands at hand more other is op-is differs)

-- a list, parted at one of its elements
pub parted : (hands : List Hand) (at : ℕ) (hand : Hand) → at < length hands → hand ≡ get_or hands at hand
    → hands ≡ take at hands ++ hand ∷ drop (suc at) hands
parted [] at hand lt is = absurd (omega arith)
parted (first ∷ hands) zero hand lt is = ap (λ (h : Hand). h ∷ hands) (sym is)
parted (first ∷ hands) (suc at) hand lt is =
    ap (λ (rest : List Hand). first ∷ rest) (parted hands at hand (omega arith) is)

one_more : {X : Type 0} (hands : List X) (at : ℕ) (hand : X) → at < length hands → hand ≡ get_or hands at hand
    → take (suc at) hands ≡ take at hands ++ hand ∷ []
one_more [] at hand lt is = absurd (omega arith)
one_more (first ∷ hands) zero hand lt is = ap (λ h. h ∷ []) (sym is)
one_more (first ∷ hands) (suc at) hand lt is =
    ap (λ (rest : List _). first ∷ rest) (one_more hands at hand (omega arith) is)

-- what holds of the first elements, and of the next
pub next_too : {X : Type 0} (P : X → Type 0) (hands : List X) (at : ℕ) (hand : X) → at < length hands
    → hand ≡ get_or hands at hand → ((h : X) → In h (take at hands) → P h) → P hand
    → (h : X) → In h (take (at + 1) hands) → P h
next_too P hands at hand lt is all here h m =
    each_push P (take at hands) hand all here h
    (subst (In h) (ap (λ (n : ℕ). take n hands) (add-one at) ∙ one_more hands at hand lt is) m)

-- what holds of the plans so far, and of one more at the end
pub plan_too : (P : ℕ → List Statement → Type 0) (plans more : List (List Statement)) (op : ℕ) (plan : List Statement)
    → length plans ≡ op → more ≡ plans ++ plan ∷ [] → ((n : ℕ) → n < op → P n (plan_at plans n)) → P op plan
    → (n : ℕ) → n < op + 1 → P n (plan_at more n)
plan_too P plans more op plan count is all here n lt = elim (cases_lt n op) [
  | inl before ↦
      (let same : plan_at more n ≡ plan_at plans n =
      ap (λ (ps : List (List Statement)). plan_at ps n) is
      ∙ get_or_append_left plans (plan ∷ []) [] n (omega arith) in
      subst (P n) (sym same) (all n before))
  | inr after ↦
      (let same : plan_at more n ≡ plan =
      ap (λ (ps : List (List Statement)). plan_at ps n) is ∙ get_or_push plans plan [] n (omega arith) in
      let at : op ≡ n = omega arith in
      subst (P n) (sym same) (subst (λ (m : ℕ). P m plan) at here))
]
