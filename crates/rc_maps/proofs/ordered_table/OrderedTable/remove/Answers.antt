use Rattle.std.proofs.Common.{None, sym, ap, ◌∙◌}
use Rattle.std.specs.FinMap as fin
use Rattle.rc_maps.proofs.Imports.{written, written_again, entries_of, no_one, one, whole, changed_many}
use Rattle.rc_maps.specs.OrderedLaws.{changed_one, found_many, found_one}
use Rattle.rc_maps.proofs.ordered_table.OrderedTable.remove.Goals as goal

pub returns-in-Some-clause-value : goal.returns-in-Some-clause-value
returns-in-Some-clause-value g c =
    sym (found_one c.args.key.now c.in-Some.value.now _ c.in-One.map.entries c.in-Some.ensures.one c.remove.ensures.value)
    ∙ ap (λ z. fin.get (entries_of z) c.args.key.now) (sym c.in-One.is)

pub returns-in-Some-clause-entries : goal.returns-in-Some-clause-entries
returns-in-Some-clause-entries g c =
    let u = c.remove.ensures.updates in
    changed_one c.args.key.now c.in-Some.value.now None c.in-One.map.entries c.remove.new.self.entries c.in-Some.ensures.one u.3 u.1
    ∙ ap (λ z. written (entries_of z) c.args.key.now None) (sym c.in-One.is)

pub returns-in-None-clause-value : goal.returns-in-None-clause-value
returns-in-None-clause-value g c =
    sym (no_one c.args.key.now c.in-One.map.entries c.in-None.ensures.other)
    ∙ ap (λ z. fin.get (entries_of z) c.args.key.now) (sym c.in-One.is)

pub returns-in-None-clause-entries : goal.returns-in-None-clause-entries
returns-in-None-clause-entries g c =
    sym (written_again (whole one c.in-One.map.entries) c.args.key.now None (no_one c.args.key.now c.in-One.map.entries c.in-None.ensures.other))
    ∙ ap (λ z. written (entries_of z) c.args.key.now None) (sym c.in-One.is)

pub returns-in-Many-clause-value : goal.returns-in-Many-clause-value
returns-in-Many-clause-value g c =
    sym (found_many c.args.key.now _ c.in-Many.map.entries c.remove-in-Many.ensures.value)
    ∙ ap (λ z. fin.get (entries_of z) c.args.key.now) (sym c.in-Many.is)

pub returns-in-Many-clause-entries : goal.returns-in-Many-clause-entries
returns-in-Many-clause-entries g c =
    let u = c.remove-in-Many.ensures.updates in
    changed_many c.args.key.now None c.in-Many.map.entries c.remove-in-Many.new.self.entries u.3 u.1
    ∙ ap (λ z. written (entries_of z) c.args.key.now None) (sym c.in-Many.is)
