use Rattle.std.proofs.Common.{◌≡◌, ℕ, ◌-◌, ◌≤◌, List, [], ◌∷◌, length, Some, refl, sym, ap, ◌∙◌, arith}
use Rattle.rc_work.proofs.Imports.{codes, slice_get, slice_get_read, slice_get_past, final_row, final_after}
use Rattle.rc_work.proofs.report.print_final_line.Goals as goal

pub returns-then-place-rows : goal.returns-then-place-rows
returns-then-place-rows c =
    ap (λ (l : List ℕ). Some l) c.in_ok-print_tuple.ensures
    ∙ sym (final_row c.args.spec.now c.args.ranks.now c.args.rows.now c.args.number _ c.if-number-eq0.false c.if-place-rows.true
    (slice_get_read c.args.rows.now (length c.args.rows.now) (c.args.number - 1) c.index-rows-place.result refl c.if-place-rows.true c.index-rows-place.is))

pub returns-then-place-rows-2 : goal.returns-then-place-rows-2
returns-then-place-rows-2 c =
    let e : c.args.number - 1 - length c.args.rows.now ≡ 0 = let h = c.if-place-rows-2.true in omega arith in
    ap (λ (l : List ℕ). Some l) c.in_ok-from_slice.ensures.items
    ∙ sym (final_after c.args.spec.now c.args.ranks.now c.args.rows.now c.args.number c.if-number-eq0.false c.if-place-rows.false
    ∙ ap (slice_get (codes "end" ∷ [])) e)

pub returns : goal.returns
returns c =
    let e : 1 ≤ c.args.number - 1 - length c.args.rows.now = let h = c.if-place-rows-2.false in let k = c.if-place-rows.false in omega arith in
    sym (final_after c.args.spec.now c.args.ranks.now c.args.rows.now c.args.number c.if-number-eq0.false c.if-place-rows.false
    ∙ slice_get_past (codes "end" ∷ []) (c.args.number - 1 - length c.args.rows.now) e)
