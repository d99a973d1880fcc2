use Rattle.std.proofs.Common.{Some, sym, ap, ◌∙◌}
use Rattle.rc_maps.proofs.Imports.{written, changed_one, by_many, by_two, others_of, on_err, first-kept, others-changed, pairs-changed, second-kept}
use Rattle.rc_maps.specs.HashTable.{entries_of}
use Rattle.rc_maps.proofs.hash_table.HashTable.insert.Goals as goal

pub returns-in_ok-insert-in-One-clause-ok : goal.returns-in_ok-insert-in-One-clause-ok
returns-in_ok-insert-in-One-clause-ok g c =
    let u = c.in_ok-insert-in-One.ensures.updates in
    changed_one c.args.key.now c.in-Some.only.now (Some c.args.value) c.in-One.map.entries c.insert.new.self.entries c.in-Some.ensures.one u.3 u.1
    ∙ ap (λ z. written (entries_of z) c.args.key.now (Some c.args.value)) (sym c.in-One.is)

pub returns-in_err-insert-in-Some-both-clause-err : goal.returns-in_err-insert-in-Some-both-clause-err
returns-in_err-insert-in-Some-both-clause-err g c =
    on_err _ (first-kept (by_two c.in-Many.pairs.map.entries) (by_two c.insert-in-Some-both.new.self.map.entries)
    (by_many c.in-Many.others.map.entries) c.in_err-insert-in-Some-both.ensures.err
    ∙ ap entries_of (sym c.in-Many.is))

pub returns-in_ok-insert-in-Some-both-clause-ok : goal.returns-in_ok-insert-in-Some-both-clause-ok
returns-in_ok-insert-in-Some-both-clause-ok g c =
    let key = c.args.key.now in
    let es = c.in-Many.pairs.map.entries in
    let fs = c.in-Many.others.map.entries in
    let pair = c.in-Some-both in
    pairs-changed key pair.pair.now es fs pair.ensures.same pair.ensures.two c.in-Many.others.none_has_two
    c.insert-in-Some-both.new.self.map.entries (Some c.args.value) c.in_ok-insert-in-Some-both.ensures.ok
    ∙ ap (λ z. written (entries_of z) key (Some c.args.value)) (sym c.in-Many.is)

pub returns-in_err-insert-in-None-clause-err : goal.returns-in_err-insert-in-None-clause-err
returns-in_err-insert-in-None-clause-err g c =
    on_err _ (second-kept (by_two c.in-Many.pairs.map.entries) (by_many c.in-Many.others.map.entries)
    (by_many c.insert-in-None.new.self.map.entries) c.in_err-insert-in-None.ensures.err
    ∙ ap entries_of (sym c.in-Many.is))

pub returns-in_ok-insert-in-None-clause-ok : goal.returns-in_ok-insert-in-None-clause-ok
returns-in_ok-insert-in-None-clause-ok g c =
    let key = c.args.key.now in
    let es = c.in-Many.pairs.map.entries in
    let fs = c.in-Many.others.map.entries in
    let put = c.in_ok-insert-in-None.ensures.ok
    ∙ ap (λ z. written (others_of c.in-Many.others) z (Some c.args.value)) c.in_ok-key-in-None.ensures.items in
    others-changed key es fs c.in-None.ensures.other c.in-Many.pairs.all_have_two c.insert-in-None.new.self.map.entries (Some c.args.value) put
    ∙ ap (λ z. written (entries_of z) key (Some c.args.value)) (sym c.in-Many.is)
