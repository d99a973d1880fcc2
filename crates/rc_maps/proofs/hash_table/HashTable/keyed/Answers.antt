use Rattle.std.proofs.Common.{◌≡◌, ◌++◌, map, sym, ap, subst, ◌∙◌}
use Rattle.rc_maps.proofs.Imports.{All, append-nil, HasWidth, AreApart, by_many, by_one, by_two, pair_of, apart_one, apart_both, one_widths}
use Rattle.rc_maps.specs.HashTable.{has_one_column}
use Rattle.rc_maps.proofs.hash_table.HashTable.keyed.Given as given
use Rattle.rc_maps.proofs.hash_table.HashTable.keyed.Goals as goal

-- at its end the walk over keys of one column has gathered all
gathered : (g : given.Over) (c : goal.In-None g) → map pair_of c.loop-key.all.items ≡ by_one c.in-One.map.entries
gathered g c =
    let all = map pair_of c.loop-key.all.items in
    sym (append-nil all) ∙ ap (λ z. all ++ by_one z) (sym c.in-None.ensures.steps.0) ∙ c.loop-key.invariant
    ∙ ap by_one c.into_iter-key-iterator.ensures.into_iter_gives.0

pub returns-in-None-clause-apart : goal.returns-in-None-clause-apart
returns-in-None-clause-apart g c =
    subst AreApart (sym (gathered g c)) (apart_one c.in-One.map.entries c.into_iter-key-iterator.ensures.into_iter_gives.4)

pub returns-in-None-clause-widths : goal.returns-in-None-clause-widths
returns-in-None-clause-widths g c =
    let all = c.loop-key.all.items in
    subst (λ z. All (λ k. HasWidth (has_one_column z) k.key.now) all) (sym c.in-One.is) (one_widths all c.in-One.map.entries (gathered g c))

pub returns-in-None-3-clause-apart : goal.returns-in-None-3-clause-apart
returns-in-None-3-clause-apart g c =
    let es = c.in-Many.pairs.map.entries in
    let fs = c.in-Many.others.map.entries in
    let pairs = c.loop-pair.all.items in
    let all = c.loop-key-2.all.items in
    let in_pairs = c.into_iter-pair-iterator.ensures.into_iter_gives in
    let in_others = c.into_iter-key-iterator-in-Many.ensures.into_iter_gives in
    let walked : map pair_of pairs ≡ by_two es =
    sym (append-nil (map pair_of pairs)) ∙ ap (λ z. map pair_of pairs ++ by_two z) (sym c.in-None-2.ensures.steps.0)
    ∙ c.loop-pair.invariant ∙ ap by_two in_pairs.0 in
    let e : map pair_of all ≡ by_two es ++ by_many fs =
    sym (append-nil (map pair_of all)) ∙ ap (λ z. map pair_of all ++ by_many z) (sym c.in-None-3.ensures.steps.0) ∙ c.loop-key-2.invariant
    ∙ (λ i. walked i ++ by_many (in_others.0 i)) in
    subst AreApart (sym e) (apart_both es fs in_pairs.4 in_others.4 c.in-Many.pairs.all_have_two c.in-Many.others.none_has_two)
