use Rattle.std.proofs.Common.{◌≡◌, true, false, ℕ, List, [], sym, ap, subst, ◌∙◌, None, Some}
use Rattle.rc_rel.proofs.Imports.{In, put, Pairs, tuple_cmp, Dep, Inserted, Outcome, first_broken_dependency, insert-present, insert-absent, IsKnownToSatisfy}
use Rattle.rc_rel.proofs.ChangeLemmas.{agreement_found, kept_with, kept_without}
use Rattle.rc_rel.proofs.plain_rel.insert.Goals as goal

pub from_list-requires : goal.from_list-requires
from_list-requires c = λ k m. c.requires.pattern k (subst (λ (l : List ℕ). In k l) c.list.ensures m)

pub returns-then-any_agrees-clause-ok : goal.returns-then-any_agrees-clause-ok
returns-then-any_agrees-clause-ok c =
    insert-present 0 c.args.pattern.now c.args.deps.now c.args.args.now [] c.args.tuples.now.items
    (agreement_found true c.from_list.result c.list.result.now c.args.pattern.now c.args.args.now c.deref.result.now c.args.tuples.now.items
    c.if-any_agrees.ensures c.from_list.ensures.value c.list.ensures c.deref.ensures.value)

pub returns-in-Some-clause-ok : goal.returns-in-Some-clause-ok
returns-in-Some-clause-ok c =
    insert-absent 0 c.args.pattern.now c.args.deps.now c.args.args.now [] c.args.tuples.now.items (Some c.in-Some.number)
    (agreement_found false c.from_list.result c.list.result.now c.args.pattern.now c.args.args.now c.deref.result.now c.args.tuples.now.items
    c.if-any_agrees.ensures c.from_list.ensures.value c.list.ensures c.deref.ensures.value)
    (ap (λ (l : List Pairs). first_broken_dependency 1 c.args.deps.now (put tuple_cmp c.args.args.now l)) (sym c.deref-3.ensures.value) ∙ sym c.in-Some.ensures)

pub returns-in_err-put_tuple-clause-kept : goal.returns-in_err-put_tuple-clause-kept
returns-in_err-put_tuple-clause-kept c =
    let none : first_broken_dependency 1 c.args.deps.now (put tuple_cmp c.args.args.now c.args.tuples.now.items) ≡ None =
    ap (λ (l : List Pairs). first_broken_dependency 1 c.args.deps.now (put tuple_cmp c.args.args.now l)) (sym c.deref-3.ensures.value) ∙ sym c.in_default.ensures in
    subst (λ (l : List Dep). IsKnownToSatisfy c.put_tuple.new.tuples.items l) (sym c.in_ok-remember.ensures.ok)
    (subst (λ (l : List Pairs). IsKnownToSatisfy l c.args.deps.now) (sym c.in_err-put_tuple.ensures.err)
    (kept_without c.args.deps.now c.args.args.now c.args.tuples.now.items c.requires.kept.rising none))

pub returns-clause-ok : goal.returns-clause-ok
returns-clause-ok c =
    let none : first_broken_dependency 1 c.args.deps.now (put tuple_cmp c.args.args.now c.args.tuples.now.items) ≡ None =
    ap (λ (l : List Pairs). first_broken_dependency 1 c.args.deps.now (put tuple_cmp c.args.args.now l)) (sym c.deref-3.ensures.value) ∙ sym c.in_default.ensures in
    insert-absent 0 c.args.pattern.now c.args.deps.now c.args.args.now [] c.args.tuples.now.items None
    (agreement_found false c.from_list.result c.list.result.now c.args.pattern.now c.args.args.now c.deref.result.now c.args.tuples.now.items
    c.if-any_agrees.ensures c.from_list.ensures.value c.list.ensures c.deref.ensures.value) none
    ∙ ap (λ (l : List Pairs). let o : Outcome = record { reply = Inserted; relation = l } in o)
    (ap (λ (t : Pairs). put tuple_cmp t c.args.tuples.now.items) (sym c.in_ok-tuple.ensures) ∙ sym c.in_ok-put_tuple.ensures.ok)

pub returns-clause-kept : goal.returns-clause-kept
returns-clause-kept c =
    let none : first_broken_dependency 1 c.args.deps.now (put tuple_cmp c.args.args.now c.args.tuples.now.items) ≡ None =
    ap (λ (l : List Pairs). first_broken_dependency 1 c.args.deps.now (put tuple_cmp c.args.args.now l)) (sym c.deref-3.ensures.value) ∙ sym c.in_default.ensures in
    subst (λ (l : List Dep). IsKnownToSatisfy c.put_tuple.new.tuples.items l) (sym c.in_ok-remember.ensures.ok)
    (subst (λ (l : List Pairs). IsKnownToSatisfy l c.args.deps.now)
    (ap (λ (t : Pairs). put tuple_cmp t c.args.tuples.now.items) (sym c.in_ok-tuple.ensures) ∙ sym c.in_ok-put_tuple.ensures.ok)
    (kept_with c.args.deps.now c.args.args.now c.args.tuples.now.items c.requires.kept.rising none))
