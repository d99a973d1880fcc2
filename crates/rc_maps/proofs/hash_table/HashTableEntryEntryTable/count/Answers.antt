use Rattle.std.proofs.Common.{◌≡◌, ◌+◌, ◌++◌, cond, rules, sym, ap, ◌∙◌}
use Rattle.std.specs.FinMap as fin
use Rattle.rc_maps.proofs.Imports.{count_by, values_of, sum_by-append, current, by_many, by_one, by_two, has_row, one, values-by_values, len-walk, apart_one, apart_both, values-both}
use Rattle.rc_maps.specs.HashTable.{entries_of}
use Rattle.rc_maps.proofs.hash_table.HashTableEntryEntryTable.count.Goals as goal

pub returns-in-One : goal.returns-in-One
returns-in-One c =
    let es = c.in-One.map.entries in
    let e : c.count.result ≡ count_by has_row (values_of es) = search rules in
    e ∙ ap (count_by has_row) (sym (values-by_values one es)) ∙ sym (len-walk (by_one es) (apart_one es c.values.ensures.unique))
    ∙ ap (λ z. fin.len (current (entries_of z))) (sym c.in-One.is)

pub returns-in-Many : goal.returns-in-Many
returns-in-Many c =
    let es = c.in-Many.pairs.map.entries in
    let fs = c.in-Many.others.map.entries in
    let e : c.count-in_pairs.result ≡ count_by has_row (values_of es) = search rules in
    let f : c.count-in_others.result ≡ count_by has_row (values_of fs) = search rules in
    let apart =
    apart_both es fs c.values-in-Many.ensures.unique c.values-in-Many-2.ensures.unique c.in-Many.pairs.all_have_two
    c.in-Many.others.none_has_two in
    (λ i. e i + f i) ∙ sym (sum_by-append (λ v. cond (has_row v) 1 0) (values_of es) (values_of fs))
    ∙ ap (count_by has_row) (sym (values-both es fs))
    ∙ sym (len-walk (by_two es ++ by_many fs) apart) ∙ ap (λ z. fin.len (current (entries_of z))) (sym c.in-Many.is)
