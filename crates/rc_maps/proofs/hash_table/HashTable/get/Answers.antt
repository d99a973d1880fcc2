use Rattle.std.proofs.Common.{sym, ap, ◌∙◌}
use Rattle.std.specs.FinMap as fin
use Rattle.rc_maps.specs.HashTable.{entries_of}
use Rattle.rc_maps.proofs.Imports.{no_one, found_many, found_one, found_two, others-found, pairs-found}
use Rattle.rc_maps.proofs.hash_table.HashTable.get.Goals as goal

pub returns-in-Some : goal.returns-in-Some
returns-in-Some g c =
    sym (found_one c.args.key.now c.in-Some.value.now _ c.in-One.map.entries c.in-Some.ensures.one c.get.ensures.value)
    ∙ ap (λ z. fin.get (entries_of z) c.args.key.now) (sym c.in-One.is)

pub returns-in-None : goal.returns-in-None
returns-in-None g c =
    sym (no_one c.args.key.now c.in-One.map.entries c.in-None.ensures.other)
    ∙ ap (λ z. fin.get (entries_of z) c.args.key.now) (sym c.in-One.is)

pub returns-in-Some-both : goal.returns-in-Some-both
returns-in-Some-both g c =
    let key = c.args.key.now in
    let es = c.in-Many.pairs.map.entries in
    let fs = c.in-Many.others.map.entries in
    let pair = c.in-Some-both in
    pairs-found key pair.pair.now es fs pair.ensures.same pair.ensures.two c.in-Many.others.none_has_two _
    (sym (found_two pair.pair.now _ es c.get-in-Some-both.ensures.value))
    ∙ ap (λ z. fin.get (entries_of z) key) (sym c.in-Many.is)

pub returns-in-None-both : goal.returns-in-None-both
returns-in-None-both g c =
    let key = c.args.key.now in
    let es = c.in-Many.pairs.map.entries in
    let fs = c.in-Many.others.map.entries in
    others-found key es fs c.in-None-both.ensures.other c.in-Many.pairs.all_have_two _ (sym (found_many key _ fs c.get-in-None-both.ensures.value))
    ∙ ap (λ z. fin.get (entries_of z) key) (sym c.in-Many.is)
