use Rattle.std.proofs.Common.{◌≡◌, rules, sym, ap, ◌∙◌}
use Rattle.std.specs.FinMap as fin
use Rattle.rc_maps.proofs.Imports.{count_by, values_of, current, by_many, by_one, has_row, entries_of, many, one, values-by_values, len-walk, apart_many}
use Rattle.rc_maps.specs.OrderedLaws.{apart_one}
use Rattle.rc_maps.proofs.ordered_table.OrderedTableEntryEntryTable.count.Goals as goal

pub returns-in-One : goal.returns-in-One
returns-in-One c =
    let es = c.in-One.map.entries in
    let e : c.count.result ≡ count_by has_row (values_of es) = search rules in
    e ∙ ap (count_by has_row) (sym (values-by_values one es)) ∙ sym (len-walk (by_one es) (apart_one es c.values.ensures.ordered))
    ∙ ap (λ z. fin.len (current (entries_of z))) (sym c.in-One.is)

pub returns-in-Many : goal.returns-in-Many
returns-in-Many c =
    let es = c.in-Many.map.entries in
    let e : c.count-in-Many.result ≡ count_by has_row (values_of es) = search rules in
    e ∙ ap (count_by has_row) (sym (values-by_values many es))
    ∙ sym (len-walk (by_many es) (apart_many es c.values-in-Many.ensures.ordered))
    ∙ ap (λ z. fin.len (current (entries_of z))) (sym c.in-Many.is)
