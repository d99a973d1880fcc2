use Rattle.rc_store.proofs.Imports.{List, ap, subst, Entry, Step, IsOfStep, is_kept, no_reply_given, IsFinished}
use Rattle.rc_store.proofs.store.Store.commit_prepared.Goals as goal

pub returns-in-Entry-clause-finished : goal.returns-in-Entry-clause-finished
returns-in-Entry-clause-finished g c step is =
    let here = subst (IsOfStep c.args.pass.now step) c.in-Entry.is is in
    let keeping = c.args.self.now.row.keeping in
    record {
      entry = subst (λ (steps : List Step). IsFinished c.args.self.now.row steps c.args.pass.now c.commit_entry-at.new.pass c.commit_entry-at.result.place c.commit_entry-at.result.nth)
          (ap (λ (e : Entry). e.steps) here.1) c.commit_entry-at.ensures.finished;
      given = no_reply_given keeping step.reply (is_kept keeping c.args.pass.now.kept c.requires.pass.keeps here.0);
    }
