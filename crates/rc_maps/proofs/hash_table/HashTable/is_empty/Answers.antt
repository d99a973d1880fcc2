use Rattle.std.proofs.Common.{sym, ap, ◌∙◌}
use Rattle.rc_maps.proofs.Imports.{false≢true, both-none, none-both, none-whole, one}
use Rattle.rc_maps.specs.HashTable.{entries_of}
use Rattle.rc_maps.proofs.hash_table.HashTable.is_empty.Goals as goal

pub returns-in-One : goal.returns-in-One
returns-in-One g c =
    let n = none-whole one c.in-One.map.entries in
    (λ h. ap entries_of c.in-One.is ∙ n.0 (c.is_empty.ensures.0 h), λ h. c.is_empty.ensures.1 (n.1 (ap entries_of (sym c.in-One.is) ∙ h)))

pub returns-then-is_empty : goal.returns-then-is_empty
returns-then-is_empty g c =
    let t = c.in-Many in
    let es = t.pairs.map.entries in
    let fs = t.others.map.entries in (
      (λ h. ap entries_of t.is ∙ both-none es fs (c.is_empty-in-Many.ensures.0 c.if-is_empty.true) (c.is_empty-then-is_empty.ensures.0 h)),
      (λ h. c.is_empty-then-is_empty.ensures.1 (none-both es fs (ap entries_of (sym t.is) ∙ h)).1),
    )

pub returns-else-is_empty : goal.returns-else-is_empty
returns-else-is_empty g c =
    let t = c.in-Many in (
      (λ h. absurd (false≢true (sym c.if-is_empty.false ∙ h))),
      (λ h. c.is_empty-in-Many.ensures.1 (none-both t.pairs.map.entries t.others.map.entries (ap entries_of (sym t.is) ∙ h)).0),
    )
