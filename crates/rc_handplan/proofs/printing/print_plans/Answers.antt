use Rattle.std.proofs.Common.{◌≡◌, ℕ, ◌+◌, ◌<◌, inl, inr, subst, List, [], ◌∷◌, ◌++◌, ap, sym, ◌∙◌, arith}
use Rattle.rc_handplan.proofs.Imports.{flat_map, range_with_len, cases_lt, flat_map_more, range_with_len_more, Spec, plan_text, plan_at, HaveSets, op_text}
use Rattle.rc_handplan.proofs.printing.print_plans.Goals as goal

-- what holds below a number and of it
up_to : (n : ℕ) (P : ℕ → Type 0) → ((i : ℕ) → i < n → P i) → P n → (i : ℕ) → i < n + 1 → P i
up_to n P below here i lt = elim (cases_lt i n) [
  | inl before ↦ below i before
  | inr after ↦ (let same : n ≡ i = omega (arith, lt, after) in subst P same here)
]

pub loop-op-preserved : goal.loop-op-preserved
loop-op-preserved c =
    let spec = c.args.compiled.now.spec in
    let plans = c.args.compiled.now.plans in
    let op = c.loop-op.op in
    let printed : c.deref.result.now ≡ op_text spec plans op =
    c.deref.ensures.value ∙ c.in_ok-plan.ensures
    ∙ ap (λ (s : Spec). plan_text s op c.plan-in-loop-op.result.now) (c.spec-spec.ensures.value ∙ c.accepted.ensures.value)
    ∙ ap (plan_text spec op) c.plan-in-loop-op.ensures.value in
    let from_none : 0 + op ≡ op = omega arith in
    record {
      text = c.in_ok-extend_from_slice.ensures.items
          ∙ ap (λ (text : List ℕ). text ++ c.deref.result.now) c.loop-op.invariant.text
          ∙ ap (λ (text : List ℕ). flat_map (op_text spec plans) (range_with_len 0 op) ++ text) printed
          ∙ flat_map_more (op_text spec plans) [] (range_with_len 0 op) op
          ∙ ap (flat_map (op_text spec plans))
          (sym (range_with_len_more 0 op ∙ ap (λ (n : ℕ). range_with_len 0 op ++ n ∷ []) from_none));
      sets = up_to c.loop-op.op (λ n. HaveSets (plan_at plans n)) c.loop-op.invariant.sets
          (subst HaveSets (c.list-in-loop-op.ensures ∙ c.plan.ensures.value) c.have_sets.ensures);
    }
