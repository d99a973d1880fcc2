use Rattle.std.proofs.Common.{◌≡◌, ◌/◌, length, refl, sym, ap, ◌∙◌}
use Rattle.std.specs.FinMap as fin
use Rattle.rc_maps.proofs.Imports.{rows_in, items_of, halved, len_is}
use Rattle.rc_maps.proofs.block.Block.halves.Goals as goal

pub invariant_of-result : goal.invariant_of-result
invariant_of-result g c =
    let h = halved c.self.inside.rows.items c.args.self.now c.self.view_is c.self.invariant.keyed c.deref.result.now c.split_at.result.0.now
    c.split_at.result.1.now c.in_ok-lower.lower.items c.in_ok-upper.upper.items c.deref.ensures.value c.split_at.ensures.by_index.0
    c.in_ok-lower.ensures.items c.in_ok-upper.ensures.items in
    record { narrow = c.self.invariant.narrow; keyed = h.lower }

pub invariant_of-result-2 : goal.invariant_of-result-2
invariant_of-result-2 g c =
    let h = halved c.self.inside.rows.items c.args.self.now c.self.view_is c.self.invariant.keyed c.deref.result.now c.split_at.result.0.now
    c.split_at.result.1.now c.in_ok-lower.lower.items c.in_ok-upper.upper.items c.deref.ensures.value c.split_at.ensures.by_index.0
    c.in_ok-lower.ensures.items c.in_ok-upper.ensures.items in
    record { narrow = c.self.invariant.narrow; keyed = h.upper }

pub returns-clause-parts : goal.returns-clause-parts
returns-clause-parts g c =
    let h = halved c.self.inside.rows.items c.args.self.now c.self.view_is c.self.invariant.keyed c.deref.result.now c.split_at.result.0.now
    c.split_at.result.1.now c.in_ok-lower.lower.items c.in_ok-upper.upper.items c.deref.ensures.value c.split_at.ensures.by_index.0
    c.in_ok-lower.ensures.items c.in_ok-upper.ensures.items in
    h.parts

pub returns-clause-half : goal.returns-clause-half
returns-clause-half g c =
    let h = halved c.self.inside.rows.items c.args.self.now c.self.view_is c.self.invariant.keyed c.deref.result.now c.split_at.result.0.now
    c.split_at.result.1.now c.in_ok-lower.lower.items c.in_ok-upper.upper.items c.deref.ensures.value c.split_at.ensures.by_index.0
    c.in_ok-lower.ensures.items c.in_ok-upper.ensures.items in
    let rows = c.self.inside.rows.items in
    let lower = c.in_ok-lower.lower.items in
    let of : rows_in (items_of lower) ≡ rows_in (items_of lower) = refl in
    let all : fin.len c.args.self.now ≡ c.len.result =
    len_is rows c.args.self.now c.self.view_is c.self.invariant.keyed ∙ sym (c.len.ensures ∙ c.self.inside.rows.ok.0) in
    len_is lower (rows_in (items_of lower)) of h.lower ∙ ap length c.in_ok-lower.ensures.items ∙ c.split_at.ensures.front_len
    ∙ ap (λ n. n / 2) (sym all)
