use Rattle.std.proofs.Common.{ap, subst, ◌∙◌}
use Rattle.std.specs.FinMap as fin
use Rattle.rc_maps.proofs.Imports.{option_and_then, HasWidth, present, entries_of, has_one_column, no_one}
use Rattle.rc_maps.proofs.ordered_table.OrderedTableEntryEntryTable.add_new.Goals as goal

pub unreachable-requires : goal.unreachable-requires
unreachable-requires c =
    let key = c.args.key.now in
    c.in_default.ensures.other (subst (λ t. HasWidth (has_one_column t) key) c.in-One.is (c.requires
    (ap (option_and_then present) (ap (λ z. fin.get (entries_of z) key) c.in-One.is ∙ no_one key c.in-One.map.entries c.in_default.ensures.other))))
