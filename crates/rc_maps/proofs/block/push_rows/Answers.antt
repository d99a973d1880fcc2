use Rattle.std.proofs.Common.{◌≡◌, ℕ, suc, ◌+◌, ◌*◌, ◌<◌, ◌++◌, length, drop, take, sym, ap, subst, ◌∙◌, arith}
use Rattle.rc_maps.proofs.Imports.{drop_more, length-map, take-map, Values, values_in, rows_pushed, item_of, items_of, item_at}
use Rattle.rc_maps.proofs.block.push_rows.Goals as goal

-- n rows are one and the others
more_rows : (width n : ℕ) → width * (n + 1) ≡ width * n + width
more_rows width n = omega arith

add_one : (n : ℕ) → suc n ≡ n + 1
add_one n = omega arith

pub loop-row-preserved : goal.loop-row-preserved
loop-row-preserved g c =
    let rows = c.args.rows.now in
    let n : ℕ = c.loop-row.row-index in
    let old : Values = c.args.out.now.items in
    let row = c.row-item.result in
    let l : n < length (items_of rows) = subst (λ z. n < z) (sym (length-map rows item_of)) c.loop-row-test.true in
    let so_far : c.loop-row.out.items ≡ old ++ values_in (take n (items_of rows)) =
    c.loop-row.invariant.items ∙ ap (λ z. old ++ values_in z) (sym (take-map item_of n rows)) in
    let left : length (drop n rows) ≡ length (drop (n + 1) rows) + 1 =
    ap length (drop_more rows n row c.loop-row-test.true) ∙ add_one (length (drop (n + 1) rows)) in
    let room : (g.row.EXTRA + 1) * length (drop n rows) ≡ (g.row.EXTRA + 1) * length (drop (n + 1) rows) + (g.row.EXTRA + 1) =
    ap (λ z. (g.row.EXTRA + 1) * z) left ∙ more_rows (g.row.EXTRA + 1) (length (drop (n + 1) rows)) in
    record {
      items =
          rows_pushed old c.loop-row.out.items c.push_row.new.out.items (items_of rows) n (item_of row) so_far c.push_row.ensures.items l
          (item_at rows n row c.row-item.is)
          ∙ ap (λ z. old ++ values_in z) (take-map item_of (n + 1) rows);
      room = omega (arith, c.push_row.ensures.len, c.push_row.ensures.capacity, c.loop-row.invariant.room);
    }
