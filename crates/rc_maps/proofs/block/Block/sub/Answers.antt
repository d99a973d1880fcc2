use Rattle.std.proofs.Common.{◌≡◌, ◌-◌, ◌<◌, Some, arith, sym, ap, subst, ◌∙◌}
use Rattle.rc_maps.proofs.Imports.{IsSome, slice_set, option_and_then, count_of, one_less, present, written, IsAt, counts, items_of, IsWritten, at_key, kept_at, set_row}
use Rattle.std.specs.FinMap as fin
use Rattle.rc_maps.proofs.block.Block.sub.Goals as goal
use Rattle.rc_maps.proofs.block.Block.sub.Goals.{After-index-row}

-- the row found is the key's among the block's rows
is_at : (g : _) (c : After-index-row g) → IsAt c.args.key.now (items_of c.self.inside.rows.items) c.in-Some.at
is_at g c = subst (λ z. IsAt c.args.key.now (items_of z) c.in-Some.at) c.deref.ensures.value c.in-Some.ensures.found

-- it is what is kept at the key
kept : (g : _) (c : After-index-row g) → fin.get c.args.self.now c.args.key.now ≡ Some (c.index-row.result.now.extra, c.index-row.result.now.count)
kept g c =
    kept_at c.self.inside.rows.items c.args.self.now c.self.view_is c.args.key.now c.in-Some.at c.index-row.result.now (is_at g c)
    c.index-row.ensures

-- it has one less
lowered : (g : _) (c : After-index-row g) → IsWritten c.self.inside.rows.items c.args.self.now c.self.view_is
    (slice_set c.self.inside.rows.items c.in-Some.at (record { key = c.index-row.result.now.key; extra = c.index-row.result.now.extra; count = c.index-row.result.now.count - 1 }))
    c.args.key.now (c.index-row.result.now.extra, c.index-row.result.now.count - 1)
lowered g c =
    set_row c.self.inside.rows.items c.args.self.now c.self.view_is c.args.key.now c.in-Some.at c.index-row.result.now
    (record { key = c.index-row.result.now.key; extra = c.index-row.result.now.extra; count = c.index-row.result.now.count - 1 })
    c.self.invariant.keyed (is_at g c) c.index-row.ensures
    (at_key c.self.inside.rows.items c.args.self.now c.self.view_is c.args.key.now c.in-Some.at c.index-row.result.now (is_at g c)
    c.index-row.ensures)

pub overflow_sub-count : goal.overflow_sub-count
overflow_sub-count g c =
    let row = c.index-row.result.now in
    let l : 0 < row.count = counts (row.extra, row.count)
    (subst IsSome (ap (option_and_then present) (kept g (goal.at.overflow_sub-count g c).After-index-row)) c.requires) in
    omega arith

pub invariant_of-self : goal.invariant_of-self
invariant_of-self g c = record { narrow = c.self.invariant.narrow; keyed = (lowered g (goal.at.invariant_of-self g c).After-index-row).keyed }

pub returns-clause-now : goal.returns-clause-now
returns-clause-now g c =
    let a = (goal.at.returns-clause-now g c).After-index-row in
    (lowered g a).kept ∙ ap (λ o. written c.args.self.now c.args.key.now (one_less o)) (sym (kept g a))

pub returns-clause-before : goal.returns-clause-before
returns-clause-before g c = ap count_of (sym (kept g (goal.at.returns-clause-before g c).After-index-row))
