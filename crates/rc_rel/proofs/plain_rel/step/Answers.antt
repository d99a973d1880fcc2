use Rattle.rc_rel.proofs.Imports.{List, [], ap, subst, Pairs, Outcome, IsKnownToSatisfy}
use Rattle.rc_rel.proofs.ChangeLemmas.{kept_after_remove}
use Rattle.rc_rel.proofs.plain_rel.step.Goals as goal

pub returns-in-Remove-clause-kept : goal.returns-in-Remove-clause-kept
returns-in-Remove-clause-kept c =
    subst (λ (l : List Pairs). IsKnownToSatisfy l c.args.known.now.items) (ap (λ (o : Outcome). o.relation) c.remove.ensures)
    (kept_after_remove [] [] c.args.known.now.items c.args.call.now.args c.args.tuples.now.items c.requires.kept)
