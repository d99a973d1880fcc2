use Rattle.std.proofs.Common.{◌++◌, sym, ap, subst, ◌∙◌}
use Rattle.std.specs.FinMap as fin
use Rattle.rc_maps.proofs.Imports.{option_and_then, on_err_weaker, HasWidth, IsAddedNew, present, if_ok, by_many, by_two, added-pairs, first-kept, no_one}
use Rattle.rc_maps.specs.HashTable.{entries_of, has_one_column}
use Rattle.rc_maps.proofs.hash_table.HashTableEntryEntryTable.add_new.Goals as goal

pub unreachable-requires : goal.unreachable-requires
unreachable-requires c =
    let key = c.args.key.now in
    c.in_default.ensures.other (subst (λ t. HasWidth (has_one_column t) key) c.in-One.is (c.requires
    (ap (option_and_then present) (ap (λ z. fin.get (entries_of z) key) c.in-One.is ∙ no_one key c.in-One.map.entries c.in_default.ensures.other))))

pub returns-in-Some-both-clause-ok : goal.returns-in-Some-both-clause-ok
returns-in-Some-both-clause-ok c =
    let t = c.in-Many in
    let pair = c.in-Some-both in
    if_ok c.add_new.result
    (λ b h. subst (λ z. IsAddedNew (entries_of z) (fin.from_entries (by_two c.add_new.new.self.map.entries ++ by_many t.others.map.entries)) c.args.key.now c.args.extra.now b) (sym t.is)
    (added-pairs c.args.key.now pair.pair.now t.pairs.map.entries t.others.map.entries pair.ensures.same pair.ensures.two
    t.others.none_has_two c.add_new.new.self.map.entries c.args.extra.now b h)) c.add_new.ensures.ok

pub returns-in-Some-both-clause-err : goal.returns-in-Some-both-clause-err
returns-in-Some-both-clause-err c =
    let t = c.in-Many in
    on_err_weaker c.add_new.result
    (λ e. first-kept (by_two t.pairs.map.entries) (by_two c.add_new.new.self.map.entries) (by_many t.others.map.entries) e
    ∙ ap entries_of (sym t.is)) c.add_new.ensures.err
