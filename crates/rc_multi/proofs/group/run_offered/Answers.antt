use Rattle.std.proofs.Common.{◌≡◌, List, Some, Err, ap, subst, sym, ◌∙◌}
use Rattle.rc_multi.proofs.Imports.{IsSameButLent, locks_of, answered_of, told_answer_err, Spec, HeldStripe, Holding, MayTake, held_of, plan_at, taken_after, all_taken, IsFromSo, has_run_over, from_start, held_end, none_risen, ran_taking}
use Rattle.rc_machine.specs.declared.stop.Stop.TheVariants as stop
use Rattle.rc_multi.proofs.group.run_offered.Given.{Over}
use Rattle.rc_multi.proofs.group.run_offered.Goals.{After-run_statements}
use Rattle.rc_multi.proofs.group.run_offered.Goals as goal

-- what the group's holder told at the plan's start is still known at its end
same : (g : Over) (c : After-run_statements g) → g.H.Holder.seen c.run_statements.new.holder.begun.now.value ≡ g.H.Holder.seen c.args.offered.now.holder.now
same g c =
    let spec : Spec = c.args.compiled.now.spec in
    let told : Holding = g.H.Holder.seen c.args.offered.now.holder.now in
    let begun : Holding = g.H.Holder.seen c.args.offered.now.begun.now.value in
    let first : IsFromSo g.O.Starts.start begun spec = from_start g.O.Starts.start spec told begun c.requires.start (ap (λ h. g.H.Holder.seen h) c.requires.begun) c.requires.now in
    let last = c.run_statements.ensures.sound spec (c.requires.sound, first) in
    held_end g.O.Starts.start spec told (g.H.Holder.seen c.run_statements.new.holder.begun.now.value) c.requires.start last.1

-- and all but what is lent is the same
lent : (g : Over) (c : After-run_statements g) → IsSameButLent (g.H.Holder.seen c.args.offered.now.holder.now) (g.H.Holder.seen c.run_statements.new.holder.holder.now)
lent g c = subst (λ (s : Holding). IsSameButLent s (g.H.Holder.seen c.run_statements.new.holder.holder.now)) (same g c) c.run_statements.new.holder.steady

-- and what it holds, as taken
kept : (g : Over) (c : After-run_statements g) → all_taken (held_of (g.H.Holder.seen c.run_statements.new.holder.holder.now)) ≡ all_taken (held_of (g.H.Holder.seen c.args.offered.now.holder.now))
kept g c =
    let k = has_run_over (held_of (g.H.Holder.seen c.run_statements.new.holder.begun.now.value)) (g.H.Holder.seen c.run_statements.new.holder.holder.now) c.run_statements.new.holder.taken.now.items c.run_statements.new.holder.kept in
    ap all_taken k.becomes ∙ taken_after _ (held_of (g.H.Holder.seen c.run_statements.new.holder.begun.now.value)) ∙ ap (λ (s : Holding). all_taken (held_of s)) (same g c)

pub run_statements-requires-clause-lent : goal.run_statements-requires-clause-lent
run_statements-requires-clause-lent g c lock n =
    subst (λ (held : List HeldStripe). MayTake (Some (locks_of held)) lock.0 lock.1) (sym (ap (λ h. held_of (g.H.Holder.seen h)) c.requires.begun)) (c.requires.covered lock n)

pub unreachable-requires : goal.unreachable-requires
unreachable-requires g c =
    none_risen (c.run_statements.ensures.run.refused c.in-Err-Held.field-0-0 (told_answer_err c.run_statements.result c.run_statements.new.reply (stop.Held c.in-Err-Held.field-0-0) (c.in-Err-Held.is ∙ ap Err c.in-Err-Held.field-0-is))).risen

pub returns-in-Ok-clause-ran : goal.returns-in-Ok-clause-ran
returns-in-Ok-clause-ran g c =
    let new = c.run_statements.new.holder in
    ran_taking (held_of (g.H.Holder.seen new.begun.now.value)) (held_of (g.H.Holder.seen c.args.offered.now.holder.now)) (g.H.Holder.seen new.holder.now) new.taken.now.items new.holder.ghost_name
    c.args.compiled.now.spec (plan_at c.args.compiled.now.plans c.args.call.now.op) c.args.call.now c.run_statements.new.reply (ap held_of (same g (goal.at.returns-in-Ok-clause-ran g c).After-run_statements)) new.kept
    (answered_of c.args.compiled.now c.args.call.now _ _ c.run_statements.result _ c.run_statements.new.reply c.in-Ok.is c.run_statements.ensures.run)

pub returns-in-Ok-clause-taken : goal.returns-in-Ok-clause-taken
returns-in-Ok-clause-taken g c = kept g (goal.at.returns-in-Ok-clause-taken g c).After-run_statements

pub returns-in-Err-Memory-clause-taken : goal.returns-in-Err-Memory-clause-taken
returns-in-Err-Memory-clause-taken g c = kept g (goal.at.returns-in-Err-Memory-clause-taken g c).After-run_statements

pub returns-in-Ok-clause-lent : goal.returns-in-Ok-clause-lent
returns-in-Ok-clause-lent g c = lent g (goal.at.returns-in-Ok-clause-lent g c).After-run_statements

pub returns-in-Err-Memory-clause-lent : goal.returns-in-Err-Memory-clause-lent
returns-in-Err-Memory-clause-lent g c = lent g (goal.at.returns-in-Err-Memory-clause-lent g c).After-run_statements
