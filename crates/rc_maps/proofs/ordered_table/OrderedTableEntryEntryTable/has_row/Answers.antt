use Rattle.std.proofs.Common.{◌≡◌, ◌<◌, rules, tests, sym, ap, subst, ◌∙◌}
use Rattle.std.specs.Prelude.{IsTrue, ◌↔◌}
use Rattle.std.specs.FinMap as fin
use Rattle.rc_maps.proofs.Imports.{list_any, values_of, YieldsList-from_rest, any_from_yields_List, current, by_many, by_one, has_row, entries_of, many, one, values-by_values, has_row-walk, apart_many}
use Rattle.rc_maps.specs.OrderedLaws.{apart_one}
use Rattle.rc_maps.proofs.ordered_table.OrderedTableEntryEntryTable.has_row.Goals as goal

pub returns-in-One : goal.returns-in-One
returns-in-One c =
    let es = c.in-One.map.entries in
    let e : c.any.result ≡ list_any has_row (values_of es) =
    any_from_yields_List has_row _ _ _ c.any.ensures.ran (YieldsList-from_rest (values_of es) c.values.ensures.rest) (λ x b q k. search (rules, tests)) in
    subst (λ z. IsTrue c.any.result ↔ (0 < fin.len (current (entries_of z)))) (sym c.in-One.is)
    (has_row-walk (by_one es) (apart_one es c.values.ensures.ordered) c.any.result (e ∙ ap (list_any has_row) (sym (values-by_values one es))))

pub returns-in-Many : goal.returns-in-Many
returns-in-Many c =
    let es = c.in-Many.map.entries in
    let e : c.any-in-Many.result ≡ list_any has_row (values_of es) =
    any_from_yields_List has_row _ _ _ c.any-in-Many.ensures.ran (YieldsList-from_rest (values_of es) c.values-in-Many.ensures.rest) (λ x b q k. search (rules, tests)) in
    subst (λ z. IsTrue c.any-in-Many.result ↔ (0 < fin.len (current (entries_of z)))) (sym c.in-Many.is)
    (has_row-walk (by_many es) (apart_many es c.values-in-Many.ensures.ordered) c.any-in-Many.result (e ∙ ap (list_any has_row) (sym (values-by_values many es))))
