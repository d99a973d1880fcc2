use Rattle.std.proofs.Common.{List, length, sym, ap, ◌∙◌, subst}
use Rattle.rc_place.proofs.Imports.{In, in_has, has_in, Edge, visited}
use Rattle.rc_place.proofs.adequacy.keeps_a7.Goals as goal

pub returns : goal.returns
returns c =
    let same = c.visited.ensures ∙ ap (λ (l : List Edge). visited c.args.spec.now (length l)) c.list.ensures in (
      λ h. subst (In c.args.column) same (in_has c.visited.result c.args.column (sym c.has.ensures.found ∙ h)),
      λ k. c.has.ensures.found ∙ has_in c.visited.result c.args.column (subst (In c.args.column) (sym same) k),
    )
