use Rattle.std.proofs.Common.{◌≡◌, Some, arith, sym, ap, subst, ◌∙◌}
use Rattle.std.specs.FinMap as fin
use Rattle.rc_maps.proofs.Imports.{option_and_then, extra_of, present, IsAt, IsKeyed, items_of, kept_at, present_gone, present_there}
use Rattle.rc_maps.proofs.block.Block.get.Goals as goal
use Rattle.rc_maps.proofs.block.Block.get.Goals.{After-index-row}

pub place_of-requires : goal.place_of-requires
place_of-requires g c =
    let narrow = c.self.invariant.narrow in
    (omega arith, subst (λ z. IsKeyed (items_of z)) (sym c.deref.ensures.value) c.self.invariant.keyed)

-- the row found is what is kept at the key
kept : (g : _) (c : After-index-row g) → fin.get c.args.self.now c.args.key.now ≡ Some (c.index-row.result.now.extra, c.index-row.result.now.count)
kept g c =
    kept_at c.self.inside.rows.items c.args.self.now c.self.view_is c.args.key.now c.in-Some.at c.index-row.result.now
    (subst (λ z. IsAt c.args.key.now (items_of z) c.in-Some.at) c.deref.ensures.value c.in-Some.ensures.found) c.index-row.ensures

pub returns-then-row-gt0 : goal.returns-then-row-gt0
returns-then-row-gt0 g c =
    let row = c.index-row.result.now in
    ap Some c.as_slice.ensures
    ∙ sym (ap (λ o. extra_of (option_and_then present o)) (kept g (goal.at.returns-then-row-gt0 g c).After-index-row)
    ∙ ap extra_of (present_there row.extra row.count c.if-row-gt0.true))

pub returns-else-row-gt0 : goal.returns-else-row-gt0
returns-else-row-gt0 g c =
    let row = c.index-row.result.now in
    sym (ap (λ o. extra_of (option_and_then present o)) (kept g (goal.at.returns-else-row-gt0 g c).After-index-row)
    ∙ ap extra_of (present_gone row.extra row.count (omega arith)))
