use Rattle.std.proofs.Common.{List, ap, subst, sym, ◌∙◌}
use Rattle.rc_store.proofs.Imports.{Entry, Step, no_reply_given, IsFinished, StoreSeen, one_step}
use Rattle.rc_store.proofs.store.Store.finish.Goals as goal

pub returns-in-Ok-clause-ok : goal.returns-in-Ok-clause-ok
returns-in-Ok-clause-ok g c = record {
  entry = subst (λ (steps : List Step). IsFinished c.args.self.now.row steps c.args.pass.now c.commit_entry-at.new.pass c.commit_entry-at.result.place c.commit_entry-at.result.nth)
      (ap (λ (e : Entry). e.steps) c.entry_of_step-entry.ensures ∙ ap (λ call. one_step call c.args.reply) c.in-Ok.ensures) c.commit_entry-at.ensures.finished;
  given = no_reply_given c.args.self.now.row.keeping c.args.reply (sym (ap (λ (s : StoreSeen). s.row.keeping) c.self.view_is) ∙ sym c.keeping.ensures ∙ c.in-Entries.is);
}
