use Rattle.std.proofs.Common.{sym, ap, ◌∙◌, subst, List}
use Rattle.rc_rel.specs.declared.entry.Entry.{Entry}
use Rattle.rc_rel.specs.declared.entry.Step.{Step}
use Rattle.rc_generate.specs.Summary.{plus_steps, IsSmall}
use Rattle.rc_generate.proofs.SummaryLemmas.{next_small}
use Rattle.rc_generate.proofs.summary.summarise.Goals as goal

pub count_all-requires : goal.count_all-requires
count_all-requires c =
    subst (λ (steps : List Step). IsSmall (plus_steps c.loop-entry.summary steps)) (sym (c.list.ensures ∙ ap (λ (e : Entry). e.steps) c.entry-item.is))
    (next_small c.loop-entry.summary c.args.history.now c.loop-entry.entry-index c.entry-item.result c.args.tuples.now c.loop-entry-test.true c.requires.calls c.requires.rows
    c.loop-entry.invariant)
