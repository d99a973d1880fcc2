use Rattle.std.proofs.Common.{◌≡◌, ◌∷◌, [], None, Some, refl, arith, sym, ap, subst, ◌∙◌}
use Rattle.rc_maps.proofs.Imports.{IsSome, insert, slice_set, option_and_then, Values, present, IsAt, IsGap, IsKeyed, rows_in, get_none, items_of, IsWritten, gone_in, kept_at, none_other, present_gone, present_there, put_row, set_row}
use Rattle.std.specs.FinMap as fin
use Rattle.rc_maps.proofs.block.Block.add_new.Goals as goal
use Rattle.rc_maps.proofs.block.Block.add_new.Goals.{After-index, In-Err}

-- the row found is the key's among the block's rows
is_at : (g : _) (c : After-index g) → IsAt c.args.key.now (items_of c.self.inside.rows.items) c.in-Ok.at
is_at g c =
    subst (λ key. IsAt key (items_of c.self.inside.rows.items) c.in-Ok.at) (sym c.in-Some.ensures.one)
    (subst (λ z. IsAt (c.in-Some.key.now ∷ []) (items_of z) c.in-Ok.at) c.as_slice-rows.ensures.value c.in-Ok.ensures.found)

-- it is what is kept at the key
kept : (g : _) (c : After-index g) → fin.get c.args.self.now c.args.key.now ≡ Some (c.index.result.now.extra, c.index.result.now.count)
kept g c =
    kept_at c.self.inside.rows.items c.args.self.now c.self.view_is c.args.key.now c.in-Ok.at c.index.result.now (is_at g c) c.index.ensures

-- the row starts at its place
restarted : (g : _) (c : After-index g) → IsWritten c.self.inside.rows.items c.args.self.now c.self.view_is
    (slice_set c.self.inside.rows.items c.in-Ok.at (record { key = c.in-Some.key.now; extra = c.in-Some-as_array.extra.now; count = 1 }))
    c.args.key.now (c.in-Some-as_array.extra.now, 1)
restarted g c =
    set_row c.self.inside.rows.items c.args.self.now c.self.view_is c.args.key.now c.in-Ok.at c.index.result.now
    (record { key = c.in-Some.key.now; extra = c.in-Some-as_array.extra.now; count = 1 })
    c.self.invariant.keyed (is_at g c) c.index.ensures c.in-Some.ensures.one

-- or else a row goes in at the place found
is_gap : (g : _) (c : In-Err g) → IsGap c.args.key.now (items_of c.self.inside.rows.items) c.in-Err.at
is_gap g c =
    subst (λ key. IsGap key (items_of c.self.inside.rows.items) c.in-Err.at) (sym c.in-Some.ensures.one)
    (subst (λ z. IsGap (c.in-Some.key.now ∷ []) (items_of z) c.in-Err.at) c.as_slice-rows.ensures.value c.in-Err.ensures.gap)

-- as nothing is kept at the key
not_kept : (g : _) (c : In-Err g) → fin.get c.args.self.now c.args.key.now ≡ None
not_kept g c =
    get_none c.args.self.now c.args.key.now (items_of c.self.inside.rows.items) c.in-Err.at c.self.view_is c.self.invariant.keyed (is_gap g c)

started : (g : _) (c : In-Err g) → IsWritten c.self.inside.rows.items c.args.self.now c.self.view_is
    (insert c.self.inside.rows.items c.in-Err.at (record { key = c.in-Some.key.now; extra = c.in-Some-as_array.extra.now; count = 1 }))
    c.args.key.now (c.in-Some-as_array.extra.now, 1)
started g c =
    put_row c.self.inside.rows.items c.args.self.now c.self.view_is c.args.key.now c.in-Err.at
    (record { key = c.in-Some.key.now; extra = c.in-Some-as_array.extra.now; count = 1 }) c.self.invariant.keyed (is_gap g c) c.in-Some.ensures.one

pub unreachable-requires : goal.unreachable-requires
unreachable-requires g c =
    let rows = c.self.inside.rows.items in
    c.in_default.ensures.other (c.requires.one (ap (option_and_then present)
    (gone_in rows c.args.self.now c.self.view_is c.args.key.now (none_other rows c.args.key.now c.in_default.ensures.other))))

pub returns-then-index-gt0-clause-ok : goal.returns-then-index-gt0-clause-ok
returns-then-index-gt0-clause-ok g c =
    let row = c.index.result.now in (
      subst IsSome (sym (ap (option_and_then present) (kept g (goal.at.returns-then-index-gt0-clause-ok g c).After-index)
          ∙ present_there row.extra row.count c.if-index-gt0.true)) refl,
      refl,
    )

pub invariant_of-self : goal.invariant_of-self
invariant_of-self g c = record { narrow = c.self.invariant.narrow; keyed = (restarted g (goal.at.invariant_of-self g c).After-index).keyed }

pub invariant_of-self-in-Continue-1 : goal.invariant_of-self-in-Continue-1
invariant_of-self-in-Continue-1 g c = record {
  narrow = c.self.invariant.narrow;
  keyed =
      subst (λ z. IsKeyed (items_of z)) (sym c.in_ok-insert-in-Err.ensures.items)
      (started g (goal.at.invariant_of-self-in-Continue-1 g c).In-Err).keyed;
}

pub returns-else-index-gt0-clause-ok : goal.returns-else-index-gt0-clause-ok
returns-else-index-gt0-clause-ok g c =
    let row = c.index.result.now in
    let a = (goal.at.returns-else-index-gt0-clause-ok g c).After-index in (
      ap (option_and_then present) (kept g a) ∙ present_gone row.extra row.count (omega arith),
      (restarted g a).kept ∙ ap (λ (z : Values). fin.insert c.args.self.now c.args.key.now (z, 1)) c.in-Some-as_array.ensures.cases.same,
    )

pub returns-in_ok-insert-in-Err-clause-ok : goal.returns-in_ok-insert-in-Err-clause-ok
returns-in_ok-insert-in-Err-clause-ok g c =
    let a = (goal.at.returns-in_ok-insert-in-Err-clause-ok g c).In-Err in (
      ap (option_and_then present) (not_kept g a),
      ap (λ z. rows_in (items_of z)) c.in_ok-insert-in-Err.ensures.items ∙ (started g a).kept
          ∙ ap (λ (z : Values). fin.insert c.args.self.now c.args.key.now (z, 1)) c.in-Some-as_array.ensures.cases.same,
    )
