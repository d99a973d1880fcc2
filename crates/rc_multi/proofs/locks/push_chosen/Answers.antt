use Rattle.std.proofs.Common.{◌≡◌, ℕ, ◌++◌, ◌<◌, List, get_or, length, take, sym, subst, ◌∙◌, ap, arith}
use Rattle.rc_multi.proofs.Imports.{get_or-map, length-map, Shared, CallWithPlan, with_plan, with_plans, class_use, either, in_mode, with_chosen, chosen_stripes}
use Rattle.rc_multi.proofs.ClassLemmas.{chosen_more, group_use_more}
use Rattle.rc_multi.proofs.locks.push_chosen.Goals as goal

pub loop-call-preserved : goal.loop-call-preserved
loop-call-preserved c =
    let spec = c.args.compiled.now.spec in
    let plans = c.args.compiled.now.plans in
    let i : ℕ = c.loop-call.call-index in
    let calls : List CallWithPlan = with_plans plans c.args.calls.now in
    let x : CallWithPlan = with_plan plans c.call-item.result in
    let within : i < length calls = subst (λ n. i < n) (sym (length-map c.args.calls.now (with_plan plans))) c.loop-call-test.true in
    let at : get_or calls i x ≡ x =
    get_or-map (with_plan plans) c.args.calls.now i c.call-item.result x c.loop-call-test.true ∙ ap (with_plan plans) (sym c.call-item.is) in
    let start : length c.args.locks.now.items ≡ c.len-start.result = (let count = c.len-start.ensures in let kept = c.args.locks.now.ok.0 in omega (arith, count, kept)) in
    let before : List ℕ = chosen_stripes spec (take i calls) c.args.class in
    record {
      asked =
          c.or-asked.ensures
          ∙ (λ j. either (c.loop-call.invariant.asked j) ((c.in_ok-put_chosen.ensures.asked ∙ ap (class_use spec c.args.class) (sym at)) j))
          ∙ sym (group_use_more spec c.args.class calls i x within);
      chosen =
          c.in_ok-put_chosen.ensures.chosen c.args.locks.now.items before start c.loop-call.invariant.chosen
          ∙ ap (λ stripes. c.args.locks.now.items ++ in_mode Shared stripes)
          (ap (λ y. with_chosen spec c.args.class y before) (sym at) ∙ sym (chosen_more spec c.args.class calls i x within));
    }
