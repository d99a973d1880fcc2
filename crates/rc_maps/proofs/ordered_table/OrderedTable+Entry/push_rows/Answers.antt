use Rattle.std.proofs.Common.{◌≡◌, ◌∷◌, [], ◌++◌, length, take, sym, ap, subst, ◌∙◌}
use Rattle.rc_maps.proofs.Imports.{Values, Counted, listed, Items, values_in, by_many, by_one, entries_of, rising_many, rising_one, IsPushed, IsPushed-all, IsPushed-kept, IsPushed-next, on_err}
use Rattle.rc_maps.proofs.ordered_table.OrderedTable+Entry.push_rows.Goals as goal

pub loop-key-preserved : goal.loop-key-preserved
loop-key-preserved c =
    let all : Items = by_one c.into_iter-key-iterator.result in
    let left : Items = by_one c.next.new.self in
    let e : Values × Counted = (c.in-Some.key.now ∷ [], c.in-Some.entry.now) in
    let out : Values = c.loop-key.out.items in
    let step : by_one c.loop-key.key-iterator ≡ e ∷ left = ap by_one c.in-Some.ensures.steps in
    let key : c.from_ref.result.now ≡ c.in-Some.key.now ∷ [] = c.from_ref.ensures.value in
    IsPushed-next all left e c.args.out.now.items out c.push_row.new.out.items
    (subst (λ z. IsPushed all z c.args.out.now.items out) step c.loop-key.invariant)
    (c.in_ok-push_row-in-One.ensures.ok ∙ ap (λ k. out ++ values_in ((k, e.1) ∷ [])) key)

pub returns-in_err-push_row-in-One-clause-err : goal.returns-in_err-push_row-in-One-clause-err
returns-in_err-push_row-in-One-clause-err c =
    let out : Values = c.loop-key.out.items in
    on_err c.from_residual-in_err-push_row-in-One.result
    (ap (take (length c.args.out.now.items)) c.in_err-push_row-in-One.ensures.err
    ∙ IsPushed-kept (by_one c.into_iter-key-iterator.result) (by_one c.loop-key.key-iterator) c.args.out.now.items out c.loop-key.invariant)

pub loop-key-2-preserved : goal.loop-key-2-preserved
loop-key-2-preserved c =
    let all : Items = by_many c.into_iter-key-iterator-in-Many.result in
    let left : Items = by_many c.next-in-loop-key-2.new.self in
    let e : Values × Counted = (c.in-Some-2.key.now.items, c.in-Some-2.entry.now) in
    let out : Values = c.loop-key-2.out.items in
    let step : by_many c.loop-key-2.key-iterator ≡ e ∷ left = ap by_many c.in-Some-2.ensures.steps in
    let key : c.as_slice.result.now ≡ c.in-Some-2.key.now.items = c.as_slice.ensures.value in
    IsPushed-next all left e c.args.out.now.items out c.push_row-in-loop-key-2.new.out.items
    (subst (λ z. IsPushed all z c.args.out.now.items out) step c.loop-key-2.invariant)
    (c.in_ok-push_row-in-Many.ensures.ok ∙ ap (λ k. out ++ values_in ((k, e.1) ∷ [])) key)

pub returns-in_err-push_row-in-Many-clause-err : goal.returns-in_err-push_row-in-Many-clause-err
returns-in_err-push_row-in-Many-clause-err c =
    let out : Values = c.loop-key-2.out.items in
    on_err c.from_residual-in_err-push_row-in-Many.result
    (ap (take (length c.args.out.now.items)) c.in_err-push_row-in-Many.ensures.err
    ∙ IsPushed-kept (by_many c.into_iter-key-iterator-in-Many.result) (by_many c.loop-key-2.key-iterator)
    c.args.out.now.items out c.loop-key-2.invariant)

pub returns-in-None-clause-ok : goal.returns-in-None-clause-ok
returns-in-None-clause-ok c =
    let gives = c.into_iter-key-iterator.ensures.into_iter_gives in
    let old : Values = c.args.out.now.items in
    let out : Values = c.loop-key.out.items in
    let all : Items = by_one c.in-One.map.entries in
    let h : IsPushed all [] old out =
    subst (λ (z : Items × Items). IsPushed z.0 z.1 old out) (λ i. (by_one (gives.0 i), by_one (c.in-None.ensures.steps.0 i))) c.loop-key.invariant in
    IsPushed-all all old out h (rising_one c.in-One.map.entries gives.5) ∙ ap (λ z. old ++ listed (entries_of z)) (sym c.in-One.is)

pub returns-in-None-2-clause-ok : goal.returns-in-None-2-clause-ok
returns-in-None-2-clause-ok c =
    let gives = c.into_iter-key-iterator-in-Many.ensures.into_iter_gives in
    let old : Values = c.args.out.now.items in
    let out : Values = c.loop-key-2.out.items in
    let all : Items = by_many c.in-Many.map.entries in
    let h : IsPushed all [] old out =
    subst (λ (z : Items × Items). IsPushed z.0 z.1 old out) (λ i. (by_many (gives.0 i), by_many (c.in-None-2.ensures.steps.0 i)))
    c.loop-key-2.invariant in
    IsPushed-all all old out h (rising_many c.in-Many.map.entries gives.5) ∙ ap (λ z. old ++ listed (entries_of z)) (sym c.in-Many.is)
