use Rattle.std.proofs.Common.{Err, ap, ◌∙◌}
use Rattle.rc_audit.proofs.Imports.{held_of-holding, replied_of}
use Rattle.rc_audit.proofs.RelationLemmas.{none_risen, of_relation_after, reply_is}
use Rattle.rc_audit.proofs.relation.Relation.make.Goals as goal

pub run_plan-requires-clause-free : goal.run_plan-requires-clause-free
run_plan-requires-clause-free c = held_of-holding c.args.self.now.instance ∙ c.requires.kept.1.free

pub unreachable-requires : goal.unreachable-requires
unreachable-requires c =
    none_risen c.args.self.now.instance c.run_plan.new.holder
    (c.run_plan.ensures.run.refused c.in-Err-Held.field-0-0 (c.in-Err-Held.is ∙ ap Err c.in-Err-Held.field-0-is)).risen

pub returns-in-Ok : goal.returns-in-Ok
returns-in-Ok c = λ r keeps few. (
  reply_is c.args.compiled.now c.args.call.now c.args.self.now.instance c.run_plan.new.holder c.in-Ok.reply r keeps.of_relation
      c.run_plan.ensures.run.goes_on c.run_plan.ensures.run.taken (replied_of c.args.compiled.now c.args.call.now _ _ c.run_plan.result c.in-Ok.reply c.in-Ok.is c.run_plan.ensures.run),
  record {
    free = c.release_all.ensures.held;
    of_relation =
        of_relation_after c.args.compiled.now c.args.call.now c.args.self.now.instance c.run_plan.new.holder c.in-Ok.reply r keeps.of_relation
        c.run_plan.ensures.run.goes_on c.run_plan.ensures.run.taken (replied_of c.args.compiled.now c.args.call.now _ _ c.run_plan.result c.in-Ok.reply c.in-Ok.is c.run_plan.ensures.run) c.release_all.new.self c.release_all.ensures c.requires.fits few;
  },
)
