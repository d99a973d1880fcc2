use Rattle.std.proofs.Common.{◌≡◌, ◌<◌, ◌^◌, IfOk, refl, sym, ap, subst, ◌∙◌}
use Rattle.std.specs.FinMap as fin
use Rattle.rc_maps.proofs.Imports.{option_and_then, on_err_weaker, on_ok_weaker, HasExtra, count_of, once_more, present, by_many, by_two, pairs_of, first-kept, pairs-found, raised-pairs}
use Rattle.rc_maps.specs.HashTable.{entries_of}
use Rattle.rc_maps.proofs.hash_table.HashTableEntryEntryTable.raise.Goals as goal
use Rattle.rc_maps.proofs.hash_table.HashTableEntryEntryTable.raise.Goals.{In-Some-both}

-- what the table has at a key of two values is what the map of these keys has
kept : (c : In-Some-both) → fin.get (entries_of c.args.self.now) c.args.key.now ≡ fin.get (pairs_of c.in-Many.pairs) c.in-Some-both.pair.now
kept c =
    let t = c.in-Many in
    let pair = c.in-Some-both in
    ap (λ z. fin.get (entries_of z) c.args.key.now) t.is
    ∙ sym (pairs-found c.args.key.now pair.pair.now t.pairs.map.entries t.others.map.entries pair.ensures.same pair.ensures.two
    t.others.none_has_two (fin.get (pairs_of t.pairs) pair.pair.now) refl)

pub raise-requires-clause-room : goal.raise-requires-clause-room
raise-requires-clause-room c =
    subst (λ z. count_of z < 2 ^ 63) (kept (goal.at.raise-requires-clause-room c).In-Some-both) c.requires.room

pub raise-requires-clause-same : goal.raise-requires-clause-same
raise-requires-clause-same c =
    let at = kept (goal.at.raise-requires-clause-same c).In-Some-both in
    subst (λ z. HasExtra (option_and_then present z) c.args.extra.now) at c.requires.same

pub returns-in-Some-both-clause-ok : goal.returns-in-Some-both-clause-ok
returns-in-Some-both-clause-ok c =
    let t = c.in-Many in
    let pair = c.in-Some-both in
    on_ok_weaker c.raise.result
    (λ h. raised-pairs c.args.key.now pair.pair.now t.pairs.map.entries t.others.map.entries pair.ensures.same pair.ensures.two
    t.others.none_has_two c.raise.new.self.map.entries c.args.extra.now h
    ∙ ap (λ z. once_more (entries_of z) c.args.key.now c.args.extra.now) (sym t.is)) c.raise.ensures.ok

pub returns-in-Some-both-clause-before : goal.returns-in-Some-both-clause-before
returns-in-Some-both-clause-before c =
    let at = kept (goal.at.returns-in-Some-both-clause-before c).In-Some-both in
    subst (λ z. IfOk c.raise.result (λ before. before ≡ count_of z)) (sym at) c.raise.ensures.before

pub returns-in-Some-both-clause-err : goal.returns-in-Some-both-clause-err
returns-in-Some-both-clause-err c =
    let t = c.in-Many in
    on_err_weaker c.raise.result
    (λ e. first-kept (by_two t.pairs.map.entries) (by_two c.raise.new.self.map.entries) (by_many t.others.map.entries) e
    ∙ ap entries_of (sym t.is)) c.raise.ensures.err
