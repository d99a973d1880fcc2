use Rattle.std.proofs.Common.{sym, ap, ◌∙◌}
use Rattle.rc_maps.proofs.Imports.{entries_of, many, none-whole, one}
use Rattle.rc_maps.proofs.ordered_table.OrderedTable.is_empty.Goals as goal

pub returns-in-One : goal.returns-in-One
returns-in-One g c =
    let n = none-whole one c.in-One.map.entries in
    (λ h. ap entries_of c.in-One.is ∙ n.0 (c.is_empty.ensures.0 h), λ h. c.is_empty.ensures.1 (n.1 (ap entries_of (sym c.in-One.is) ∙ h)))

pub returns-in-Many : goal.returns-in-Many
returns-in-Many g c =
    let n = none-whole many c.in-Many.map.entries in (
      λ h. ap entries_of c.in-Many.is ∙ n.0 (c.is_empty-in-Many.ensures.0 h),
      λ h. c.is_empty-in-Many.ensures.1 (n.1 (ap entries_of (sym c.in-Many.is) ∙ h)),
    )
