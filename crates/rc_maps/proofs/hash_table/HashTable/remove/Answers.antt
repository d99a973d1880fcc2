use Rattle.std.proofs.Common.{None, sym, ap, ◌∙◌}
use Rattle.std.specs.FinMap as fin
use Rattle.rc_maps.proofs.Imports.{written, written_again, others-changed, others-found, pairs-changed, pairs-found, no_one, one, whole, changed_one, found_one}
use Rattle.rc_maps.specs.HashTable.{entries_of}
use Rattle.rc_maps.proofs.hash_table.HashTable.remove.Goals as goal

pub returns-in-Some-clause-value : goal.returns-in-Some-clause-value
returns-in-Some-clause-value g c =
    sym (found_one c.args.key.now c.in-Some.value.now _ c.in-One.map.entries c.in-Some.ensures.one c.remove.ensures.value)
    ∙ ap (λ z. fin.get (entries_of z) c.args.key.now) (sym c.in-One.is)

pub returns-in-Some-clause-entries : goal.returns-in-Some-clause-entries
returns-in-Some-clause-entries g c =
    let u = c.remove.ensures.updates in
    changed_one c.args.key.now c.in-Some.value.now None c.in-One.map.entries c.remove.new.self.entries c.in-Some.ensures.one u.3 u.1
    ∙ ap (λ z. written (entries_of z) c.args.key.now None) (sym c.in-One.is)

pub returns-in-None-clause-value : goal.returns-in-None-clause-value
returns-in-None-clause-value g c =
    sym (no_one c.args.key.now c.in-One.map.entries c.in-None.ensures.other)
    ∙ ap (λ z. fin.get (entries_of z) c.args.key.now) (sym c.in-One.is)

pub returns-in-None-clause-entries : goal.returns-in-None-clause-entries
returns-in-None-clause-entries g c =
    sym (written_again (whole one c.in-One.map.entries) c.args.key.now None (no_one c.args.key.now c.in-One.map.entries c.in-None.ensures.other))
    ∙ ap (λ z. written (entries_of z) c.args.key.now None) (sym c.in-One.is)

pub returns-in-Some-both-clause-value : goal.returns-in-Some-both-clause-value
returns-in-Some-both-clause-value g c =
    let key = c.args.key.now in
    let es = c.in-Many.pairs.map.entries in
    let fs = c.in-Many.others.map.entries in
    let pair = c.in-Some-both in
    pairs-found key pair.pair.now es fs pair.ensures.same pair.ensures.two c.in-Many.others.none_has_two _ c.remove-in-Some-both.ensures.value
    ∙ ap (λ z. fin.get (entries_of z) key) (sym c.in-Many.is)

pub returns-in-Some-both-clause-entries : goal.returns-in-Some-both-clause-entries
returns-in-Some-both-clause-entries g c =
    let key = c.args.key.now in
    let es = c.in-Many.pairs.map.entries in
    let fs = c.in-Many.others.map.entries in
    let pair = c.in-Some-both in
    pairs-changed key pair.pair.now es fs pair.ensures.same pair.ensures.two c.in-Many.others.none_has_two
    c.remove-in-Some-both.new.self.map.entries None c.remove-in-Some-both.ensures.entries
    ∙ ap (λ z. written (entries_of z) key None) (sym c.in-Many.is)

pub returns-in-None-both-clause-value : goal.returns-in-None-both-clause-value
returns-in-None-both-clause-value g c =
    let key = c.args.key.now in
    let es = c.in-Many.pairs.map.entries in
    let fs = c.in-Many.others.map.entries in
    others-found key es fs c.in-None-both.ensures.other c.in-Many.pairs.all_have_two _ c.remove-in-None-both.ensures.value
    ∙ ap (λ z. fin.get (entries_of z) key) (sym c.in-Many.is)

pub returns-in-None-both-clause-entries : goal.returns-in-None-both-clause-entries
returns-in-None-both-clause-entries g c =
    let key = c.args.key.now in
    let es = c.in-Many.pairs.map.entries in
    let fs = c.in-Many.others.map.entries in
    others-changed key es fs c.in-None-both.ensures.other c.in-Many.pairs.all_have_two
    c.remove-in-None-both.new.self.map.entries None c.remove-in-None-both.ensures.entries
    ∙ ap (λ z. written (entries_of z) key None) (sym c.in-Many.is)
