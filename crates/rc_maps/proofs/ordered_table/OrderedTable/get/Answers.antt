use Rattle.std.proofs.Common.{sym, ap, ◌∙◌}
use Rattle.std.specs.FinMap as fin
use Rattle.rc_maps.proofs.Imports.{entries_of, no_one}
use Rattle.rc_maps.specs.OrderedLaws.{found_many, found_one}
use Rattle.rc_maps.proofs.ordered_table.OrderedTable.get.Goals as goal

pub returns-in-Some : goal.returns-in-Some
returns-in-Some g c =
    sym (found_one c.args.key.now c.in-Some.value.now _ c.in-One.map.entries c.in-Some.ensures.one c.get.ensures.value)
    ∙ ap (λ z. fin.get (entries_of z) c.args.key.now) (sym c.in-One.is)

pub returns-in-None : goal.returns-in-None
returns-in-None g c =
    sym (no_one c.args.key.now c.in-One.map.entries c.in-None.ensures.other)
    ∙ ap (λ z. fin.get (entries_of z) c.args.key.now) (sym c.in-One.is)

pub returns-in-Many : goal.returns-in-Many
returns-in-Many g c =
    sym (found_many c.args.key.now _ c.in-Many.map.entries c.get-in-Many.ensures.value)
    ∙ ap (λ z. fin.get (entries_of z) c.args.key.now) (sym c.in-Many.is)
