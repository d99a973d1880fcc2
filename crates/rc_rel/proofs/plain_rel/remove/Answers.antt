use Rattle.std.proofs.Common.{List, [], sym, ap, subst, ◌∙◌, Some}
use Rattle.rc_rel.proofs.Imports.{filter, remove, get_or_default, Pairs, matches, Removed, Outcome, IsFirstMatch}
use Rattle.rc_rel.proofs.ChangeLemmas.{removed_at}
use Rattle.rc_rel.proofs.plain_rel.remove.Goals as goal

pub returns-in-Some : goal.returns-in-Some
returns-in-Some c =
    let r : List Pairs = c.args.tuples.now.items in
    let found : IsFirstMatch c.args.args.now c.args.tuples.now.items (Some c.in-Some.at) =
    subst (λ (l : List Pairs). IsFirstMatch c.args.args.now l (Some c.in-Some.at)) c.deref.ensures.value c.in-Some.ensures in
    removed_at (filter (matches c.args.args.now) r) r found.1.0 c.in-Some.at c.requires found.0 found.1.1
    ∙ ap (λ (t : Pairs). let o : Outcome = record { reply = Removed t; relation = remove r c.in-Some.at } in o)
    (sym (c.remove.ensures.value ∙ get_or_default r c.in-Some.at c.remove.result [] found.0))
    ∙ ap (λ (l : List Pairs). let o : Outcome = record { reply = Removed c.remove.result; relation = l } in o) (sym c.remove.ensures.items)
