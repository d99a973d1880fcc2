use Rattle.std.proofs.Common.{◌≡◌, length, ap, sym, subst, ◌∙◌, arith}
use Rattle.std.specs.List.{All}
use Rattle.std.proofs.lemmas.Option.{IfSome_then}
use Rattle.rc_spec.specs.RowLists.{AreEnds, rows_from}
use Rattle.rc_spec.specs.RowListsLaws.{even_width, last_even}
use Rattle.rc_spec.proofs.row_list.RowList.width.Goals as goal

pub returns : goal.returns
returns c =
    IfSome_then c.width.result c.width.ensures
    (λ width is.
    let count = length c.self.inside.ends in
    let values = c.self.inside.values.items in
    let whole = last_even width count (length values) (subst (λ ends. AreEnds 0 ends (length values)) is c.self.invariant) in
    subst (All (λ row. length row ≡ width)) (ap (λ ends. rows_from 0 ends values) (sym is) ∙ c.self.view_is)
    (even_width 0 width count values (omega (arith, whole))))
