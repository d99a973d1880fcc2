use Rattle.std.proofs.Common.{◌≡◌, ℕ, ◌++◌, List, length, ◌∙◌, ap, arith}
use Rattle.rc_multi.proofs.Imports.{Shared, StripeLock, CallWithPlan, with_plans, in_mode, chosen_stripes}
use Rattle.rc_multi.proofs.ClassLemmas.{class_in_mode, tail_written}
use Rattle.rc_multi.proofs.locks.push_class.Goals as goal

pub returns-else-asked : goal.returns-else-asked
returns-else-asked c =
    let calls : List CallWithPlan = with_plans c.args.compiled.now.plans c.args.calls.now in
    let stripes : List ℕ = chosen_stripes c.args.compiled.now.spec calls c.args.class in
    let counted : c.push_chosen.new.locks.len ≡ length c.push_chosen.new.locks.items = (let kept = c.push_chosen.new.locks.ok.0 in omega (arith, kept)) in
    let start : c.len-start.result ≡ length c.args.locks.now.items = (let count = c.len-start.ensures in let kept = c.args.locks.now.ok.0 in omega (arith, count, kept)) in
    tail_written (λ (l : StripeLock). let new : StripeLock = (l.0, c.mode-else-asked.result) in new) c.deref_mut.result.now c.push_chosen.new.locks.items c.set_mode.new.locks
    c.args.locks.now.items (in_mode Shared stripes) c.len-start.result c.push_chosen.new.locks.len counted c.deref_mut.ensures.value c.in_ok-asked.ensures.chosen start c.set_mode.ensures
    ∙ ap (λ ls. c.args.locks.now.items ++ ls) (class_in_mode c.args.compiled.now.spec calls c.args.class c.in_ok-asked.asked c.mode-else-asked.result c.in_ok-asked.ensures.asked c.if-asked.false c.mode-else-asked.ensures)
