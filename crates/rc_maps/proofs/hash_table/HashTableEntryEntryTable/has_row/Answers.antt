use Rattle.std.proofs.Common.{◌≡◌, ◌<◌, ◌++◌, Bool, rules, tests, sym, ap, subst, ◌∙◌}
use Rattle.std.specs.Prelude.{IsTrue, ◌↔◌, ◌||◌}
use Rattle.std.specs.FinMap as fin
use Rattle.rc_maps.proofs.Imports.{list_any, values_of, YieldsList-from_rest, any_from_yields_List, list_any-append, current, by_many, by_one, by_two, has_row, one, values-by_values, has_row-walk, apart_one, apart_both, values-both}
use Rattle.rc_maps.specs.HashTable.{entries_of}
use Rattle.rc_maps.proofs.hash_table.HashTableEntryEntryTable.has_row.Goals as goal
use Rattle.rc_maps.proofs.hash_table.HashTableEntryEntryTable.has_row.Goals.{After-values-in_others}

pub returns-in-One : goal.returns-in-One
returns-in-One c =
    let es = c.in-One.map.entries in
    let e : c.any.result ≡ list_any has_row (values_of es) =
    any_from_yields_List has_row _ _ _ c.any.ensures.ran (YieldsList-from_rest (values_of es) c.values.ensures.rest) (λ x b q k. search (rules, tests)) in
    subst (λ z. IsTrue c.any.result ↔ (0 < fin.len (current (entries_of z)))) (sym c.in-One.is)
    (has_row-walk (by_one es) (apart_one es c.values.ensures.unique) c.any.result (e ∙ ap (list_any has_row) (sym (values-by_values one es))))

-- an entry of either half, once both are walked
in_both : (c : After-values-in_others) (b : Bool)
    → b ≡ (list_any has_row (values_of c.in-Many.pairs.map.entries) || list_any has_row (values_of c.in-Many.others.map.entries))
    → IsTrue b ↔ (0 < fin.len (current (entries_of c.args.self.now)))
in_both c b is =
    let es = c.in-Many.pairs.map.entries in
    let fs = c.in-Many.others.map.entries in
    let apart =
    apart_both es fs c.values-in_pairs.ensures.unique c.values-in_others.ensures.unique c.in-Many.pairs.all_have_two
    c.in-Many.others.none_has_two in
    subst (λ z. IsTrue b ↔ (0 < fin.len (current (entries_of z)))) (sym c.in-Many.is)
    (has_row-walk (by_two es ++ by_many fs) apart b
    (is ∙ sym (list_any-append has_row (values_of es) (values_of fs)) ∙ ap (list_any has_row) (sym (values-both es fs))))

pub returns-then-any : goal.returns-then-any
returns-then-any c =
    let es = c.in-Many.pairs.map.entries in
    let fs = c.in-Many.others.map.entries in
    let e : c.any-in-Many.result ≡ list_any has_row (values_of es) =
    any_from_yields_List has_row _ _ _ c.any-in-Many.ensures.ran (YieldsList-from_rest (values_of es) c.values-in_pairs.ensures.rest) (λ x b q k. search (rules, tests)) in
    in_both (goal.at.returns-then-any c).After-values-in_others c.any-in-Many.result
    (c.if-any.true ∙ ap (λ b. b || list_any has_row (values_of fs)) (sym c.if-any.true ∙ e))

pub returns-else-any : goal.returns-else-any
returns-else-any c =
    let es = c.in-Many.pairs.map.entries in
    let fs = c.in-Many.others.map.entries in
    let e : c.any-in-Many.result ≡ list_any has_row (values_of es) =
    any_from_yields_List has_row _ _ _ c.any-in-Many.ensures.ran (YieldsList-from_rest (values_of es) c.values-in_pairs.ensures.rest) (λ x b q k. search (rules, tests)) in
    let f : c.any-else-any.result ≡ list_any has_row (values_of fs) =
    any_from_yields_List has_row _ _ _ c.any-else-any.ensures.ran (YieldsList-from_rest (values_of fs) c.values-in_others.ensures.rest) (λ x b q k. search (rules, tests)) in
    in_both (goal.at.returns-else-any c).After-values-in_others c.any-else-any.result
    (f ∙ ap (λ b. b || list_any has_row (values_of fs)) (sym c.if-any.false ∙ e))
