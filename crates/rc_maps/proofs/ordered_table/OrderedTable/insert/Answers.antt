use Rattle.std.proofs.Common.{Some, sym, ap, ◌∙◌}
use Rattle.rc_maps.proofs.Imports.{written, entries_of, changed_many}
use Rattle.rc_maps.specs.OrderedLaws.{changed_one}
use Rattle.rc_maps.proofs.ordered_table.OrderedTable.insert.Goals as goal

pub returns-in_ok-insert-in-One-clause-ok : goal.returns-in_ok-insert-in-One-clause-ok
returns-in_ok-insert-in-One-clause-ok g c =
    let u = c.in_ok-insert-in-One.ensures.updates in
    changed_one c.args.key.now c.in-Some.only.now (Some c.args.value) c.in-One.map.entries c.insert.new.self.entries c.in-Some.ensures.one u.3 u.1
    ∙ ap (λ z. written (entries_of z) c.args.key.now (Some c.args.value)) (sym c.in-One.is)

pub returns-in_ok-insert-in-Many-clause-ok : goal.returns-in_ok-insert-in-Many-clause-ok
returns-in_ok-insert-in-Many-clause-ok g c =
    let u = c.in_ok-insert-in-Many.ensures.updates in
    changed_many c.in_ok-key-in-Many.key.items (Some c.args.value) c.in-Many.map.entries c.insert-in-Many.new.self.entries u.3 u.1
    ∙ (λ i. written (entries_of (sym c.in-Many.is i)) (c.in_ok-key-in-Many.ensures.items i) (Some c.args.value))
