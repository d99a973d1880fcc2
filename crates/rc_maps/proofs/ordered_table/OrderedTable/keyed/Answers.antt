use Rattle.std.proofs.Common.{◌≡◌, ◌++◌, map, sym, ap, subst, ◌∙◌}
use Rattle.rc_maps.proofs.Imports.{All, append-nil, HasWidth, by_many, by_one, pair_of, has_one_column, rising_many, rising_one, one_widths}
use Rattle.rc_maps.specs.Keyed.{IsKeyed}
use Rattle.rc_maps.proofs.ordered_table.OrderedTable.keyed.Given as given
use Rattle.rc_maps.proofs.ordered_table.OrderedTable.keyed.Goals as goal

-- at its end the walk over keys of one column has gathered all
gathered : (g : given.Over) (c : goal.In-None g) → map pair_of c.loop-key.all.items ≡ by_one c.in-One.map.entries
gathered g c =
    let all = map pair_of c.loop-key.all.items in
    sym (append-nil all) ∙ ap (λ z. all ++ by_one z) (sym c.in-None.ensures.steps.0) ∙ c.loop-key.invariant
    ∙ ap by_one c.into_iter-key-iterator.ensures.into_iter_gives.0

pub returns-in-None-clause-rising : goal.returns-in-None-clause-rising
returns-in-None-clause-rising g c =
    subst IsKeyed (sym (gathered g c)) (rising_one c.in-One.map.entries c.into_iter-key-iterator.ensures.into_iter_gives.5)

pub returns-in-None-clause-widths : goal.returns-in-None-clause-widths
returns-in-None-clause-widths g c =
    let all = c.loop-key.all.items in
    subst (λ z. All (λ k. HasWidth (has_one_column z) k.key.now) all) (sym c.in-One.is) (one_widths all c.in-One.map.entries (gathered g c))

pub returns-in-None-2-clause-rising : goal.returns-in-None-2-clause-rising
returns-in-None-2-clause-rising g c =
    let all = c.loop-key-2.all.items in
    let gives = c.into_iter-key-iterator-in-Many.ensures.into_iter_gives in
    let e : map pair_of all ≡ by_many c.in-Many.map.entries =
    sym (append-nil (map pair_of all)) ∙ ap (λ z. map pair_of all ++ by_many z) (sym c.in-None-2.ensures.steps.0) ∙ c.loop-key-2.invariant
    ∙ ap by_many gives.0 in
    subst IsKeyed (sym e) (rising_many c.in-Many.map.entries gives.5)
