use Rattle.std.proofs.Common.{◌≡◌, ◌+◌, ◌<◌, ◌^◌, ◌∷◌, [], None, Some, arith, sym, ap, subst, ◌∙◌}
use Rattle.rc_maps.proofs.Imports.{insert, slice_set, Values, Rows, count_of, IsAt, IsGap, IsKeyed, rows_in, get_none, items_of, IsWritten, kept_at, put_row, set_row}
use Rattle.std.specs.FinMap as fin
use Rattle.rc_maps.proofs.block.Block.add.Goals as goal
use Rattle.rc_maps.proofs.block.Block.add.Goals.{After-index, In-Err}

-- the row found is the key's among the block's rows
is_at : (g : _) (c : After-index g) → IsAt c.args.key.now (items_of c.self.inside.rows.items) c.in-Ok.at
is_at g c =
    subst (λ key. IsAt key (items_of c.self.inside.rows.items) c.in-Ok.at) (sym c.in-Some.ensures.one)
    (subst (λ z. IsAt (c.in-Some.key.now ∷ []) (items_of z) c.in-Ok.at) c.deref.ensures.value c.in-Ok.ensures.found)

-- it is what is kept at the key
kept : (g : _) (c : After-index g) → fin.get c.args.self.now c.args.key.now ≡ Some (c.index.result.now.extra, c.index.result.now.count)
kept g c =
    kept_at c.self.inside.rows.items c.args.self.now c.self.view_is c.args.key.now c.in-Ok.at c.index.result.now (is_at g c) c.index.ensures

-- it has one more
raised : (g : _) (c : After-index g) → IsWritten c.self.inside.rows.items c.args.self.now c.self.view_is
    (slice_set c.self.inside.rows.items c.in-Ok.at (record { key = c.in-Some.key.now; extra = c.in-Some-as_array.extra.now; count = c.index.result.now.count + 1 }))
    c.args.key.now (c.in-Some-as_array.extra.now, c.index.result.now.count + 1)
raised g c =
    set_row c.self.inside.rows.items c.args.self.now c.self.view_is c.args.key.now c.in-Ok.at c.index.result.now
    (record { key = c.in-Some.key.now; extra = c.in-Some-as_array.extra.now; count = c.index.result.now.count + 1 })
    c.self.invariant.keyed (is_at g c) c.index.ensures c.in-Some.ensures.one

-- or else a row goes in at the place found
is_gap : (g : _) (c : In-Err g) → IsGap c.args.key.now (items_of c.self.inside.rows.items) c.in-Err.at
is_gap g c =
    subst (λ key. IsGap key (items_of c.self.inside.rows.items) c.in-Err.at) (sym c.in-Some.ensures.one)
    (subst (λ z. IsGap (c.in-Some.key.now ∷ []) (items_of z) c.in-Err.at) c.deref.ensures.value c.in-Err.ensures.gap)

-- as nothing is kept at the key
not_kept : (g : _) (c : In-Err g) → fin.get c.args.self.now c.args.key.now ≡ None
not_kept g c =
    get_none c.args.self.now c.args.key.now (items_of c.self.inside.rows.items) c.in-Err.at c.self.view_is c.self.invariant.keyed (is_gap g c)

started : (g : _) (c : In-Err g) → IsWritten c.self.inside.rows.items c.args.self.now c.self.view_is
    (insert c.self.inside.rows.items c.in-Err.at (record { key = c.in-Some.key.now; extra = c.in-Some-as_array.extra.now; count = 1 }))
    c.args.key.now (c.in-Some-as_array.extra.now, 1)
started g c =
    put_row c.self.inside.rows.items c.args.self.now c.self.view_is c.args.key.now c.in-Err.at
    (record { key = c.in-Some.key.now; extra = c.in-Some-as_array.extra.now; count = 1 }) c.self.invariant.keyed (is_gap g c) c.in-Some.ensures.one

pub overflow_add-count : goal.overflow_add-count
overflow_add-count g c =
    let l : c.index.result.now.count < 2 ^ 63 = subst (λ o. count_of o < 2 ^ 63) (kept g (goal.at.overflow_add-count g c).After-index) c.requires.room in
    omega arith

pub invariant_of-self : goal.invariant_of-self
invariant_of-self g c = record { narrow = c.self.invariant.narrow; keyed = (raised g (goal.at.invariant_of-self g c).After-index).keyed }

pub invariant_of-self-in-Err : goal.invariant_of-self-in-Err
invariant_of-self-in-Err g c = record {
  narrow = c.self.invariant.narrow;
  keyed =
      subst (λ z. IsKeyed (items_of z)) (sym c.in_ok-insert-in-Err.ensures.items)
      (started g (goal.at.invariant_of-self-in-Err g c).In-Err).keyed;
}

pub returns-in-Ok-clause-ok : goal.returns-in-Ok-clause-ok
returns-in-Ok-clause-ok g c =
    let m : Rows = c.args.self.now in
    let key : Values = c.args.key.now in
    let a = (goal.at.returns-in-Ok-clause-ok g c).After-index in
    (raised g a).kept ∙ ap (λ (z : Values). fin.insert m key (z, c.index.result.now.count + 1)) c.in-Some-as_array.ensures.cases.same
    ∙ ap (λ o. fin.insert m key (c.args.extra.now, count_of o + 1)) (sym (kept g a))

pub returns-in-Ok-clause-before : goal.returns-in-Ok-clause-before
returns-in-Ok-clause-before g c = ap count_of (sym (kept g (goal.at.returns-in-Ok-clause-before g c).After-index))

pub returns-in_ok-insert-in-Err-clause-ok : goal.returns-in_ok-insert-in-Err-clause-ok
returns-in_ok-insert-in-Err-clause-ok g c =
    let m : Rows = c.args.self.now in
    let key : Values = c.args.key.now in
    let a = (goal.at.returns-in_ok-insert-in-Err-clause-ok g c).In-Err in
    ap (λ z. rows_in (items_of z)) c.in_ok-insert-in-Err.ensures.items ∙ (started g a).kept
    ∙ ap (λ (z : Values). fin.insert m key (z, 1)) c.in-Some-as_array.ensures.cases.same
    ∙ ap (λ o. fin.insert m key (c.args.extra.now, count_of o + 1)) (sym (not_kept g a))

pub returns-in_ok-insert-in-Err-clause-before : goal.returns-in_ok-insert-in-Err-clause-before
returns-in_ok-insert-in-Err-clause-before g c =
    ap count_of (sym (not_kept g (goal.at.returns-in_ok-insert-in-Err-clause-before g c).In-Err))
