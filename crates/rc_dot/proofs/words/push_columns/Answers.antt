use Rattle.std.proofs.Common.{◌≡◌, ◌∙◌, ◌<◌, ◌++◌, Option, ℕ, get_or, length, refl, sym, ap, subst, arith}
use Rattle.rc_dot.proofs.Imports.{IsSome, slice_get-get_or, slice_get_in, Column, at_found, no_column, column_text}
use Rattle.rc_dot.proofs.DotLemmas.{columns_more, first_column}
use Rattle.rc_dot.proofs.words.push_columns.Goals as goal

pub bounds-list-first : goal.bounds-list-first
bounds-list-first c =
    let below : c.in-Some.first < length c.args.spec.now.columns = c.requires.below c.in-Some.first (slice_get_in c.args.cols 0 c.in-Some.first (sym c.nth.ensures.value ∙ c.in-Some.is)) in
    omega (arith, below, ap length c.list.ensures)

pub loop-place-init : goal.loop-place-init
loop-place-init c =
    let first = c.in-Some.first in
    let there = sym c.nth.ensures.value ∙ c.in-Some.is in
    let below : first < length c.args.spec.now.columns = c.requires.below first (slice_get_in c.args.cols 0 first there) in
    let found : get_or c.args.spec.now.columns first no_column ≡ c.index-list-first.result =
    at_found c.list.result.now c.args.spec.now.columns first no_column c.index-list-first.result c.list.ensures below c.index-list-first.is in
    c.in_ok-push_bytes.ensures.ok
    ∙ ap (λ l. c.args.text.now.items ++ l) (c.name.ensures ∙ ap (λ (k : Column). k.name) (sym found) ∙ sym (first_column c.args.spec.now c.args.cols first there))

pub unwrap-requires : goal.unwrap-requires
unwrap-requires c =
    let below : c.loop-place.place < length c.args.cols = omega (arith, c.loop-place-test.true, c.len-place-end.ensures.value) in
    subst (λ (o : Option ℕ). IsSome o) (sym (c.nth-in-loop-place.ensures.value ∙ slice_get-get_or c.args.cols c.loop-place.place 0 below)) refl

pub push_column-requires : goal.push_column-requires
push_column-requires c = c.requires.below c.unwrap.result (slice_get_in c.args.cols c.loop-place.place c.unwrap.result (sym c.nth-in-loop-place.ensures.value ∙ c.unwrap.ensures))

pub loop-place-preserved : goal.loop-place-preserved
loop-place-preserved c =
    c.in_ok-push_column.ensures ∙ ap (λ l. l ++ column_text c.args.spec.now c.unwrap.result) c.loop-place.invariant
    ∙ columns_more c.args.spec.now c.args.text.now.items c.args.cols c.loop-place.place c.unwrap.result c.loop-place.auto.place
    (sym c.nth-in-loop-place.ensures.value ∙ c.unwrap.ensures)
