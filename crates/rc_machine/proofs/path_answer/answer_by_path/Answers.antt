use Rattle.std.proofs.Common.{◌≡◌, ◌∙◌, ap, drop, refl, sym}
use Rattle.rc_machine.proofs.Imports.{op_at, Op, Query, Remove, Spec, held_of, plan_at, HasAnswered, told_answer_ok}
use Rattle.rc_machine.proofs.AccessRunLemmas.{path_replies}
use Rattle.rc_machine.proofs.EdgeChangeLemmas.{others, run_in_place}
use Rattle.rc_machine.proofs.path_answer.answer_by_path.Goals as goal

pub returns-in-Query-clause-run : goal.returns-in-Query-clause-run
returns-in-Query-clause-run g c =
    let compiled = c.args.compiled.now in
    let spec = compiled.spec in
    let plan = plan_at compiled.plans c.args.call.now.op in
    let old = g.H.Holder.seen c.args.holder.now in
    let locked = c.requires.locked in
    let one = g.met.H.Holder.sound_rows c.args.holder.now spec c.requires.sound in
    let kind : (op_at spec c.args.call.now.op).kind ≡ Query c.in-Query.outs c.in-Query.ranges =
    sym (ap (λ (o : Op). o.kind) (c.op.ensures.value ∙ ap (λ (s : Spec). op_at s c.args.call.now.op) (c.spec.ensures.value ∙ c.accepted.ensures.value))) ∙ c.in-Query.is in
    let no_remove : (op_at spec c.args.call.now.op).kind ≡ Remove → ⊥ = (λ is. let same : Query c.in-Query.outs c.in-Query.ranges ≡ Remove = sym kind ∙ is in cc) in
    let reply = c.answer_by_edge.new.reply in
    run_in_place compiled c.args.call.now old old c.answer_by_edge.result reply c.answer_by_edge.ensures.memory (record {
      answered = told_answer_ok (HasAnswered compiled c.args.call.now old) c.answer_by_edge.result reply
          (λ served.
          path_replies spec locked.sealed c.args.call.now locked.fits plan locked.planned (drop c.args.path.locks plan) (others compiled c.args.call.now c.args.path c.args.stripe old locked one no_remove) (held_of old) locked.run one reply served)
          c.answer_by_edge.ensures.answered;
      taken = locked.taken;
      lent = refl;
    })

pub returns-in-Insert-clause-run : goal.returns-in-Insert-clause-run
returns-in-Insert-clause-run g c =
    run_in_place c.args.compiled.now c.args.call.now (g.H.Holder.seen c.args.holder.now) (g.H.Holder.seen c.insert_by_edge.new.holder) c.insert_by_edge.result c.insert_by_edge.new.reply c.insert_by_edge.ensures.memory c.insert_by_edge.ensures.answered

pub returns-in-Update-clause-run : goal.returns-in-Update-clause-run
returns-in-Update-clause-run g c =
    run_in_place c.args.compiled.now c.args.call.now (g.H.Holder.seen c.args.holder.now) (g.H.Holder.seen c.update_by_edge.new.holder) c.update_by_edge.result c.update_by_edge.new.reply c.update_by_edge.ensures.memory c.update_by_edge.ensures.answered
