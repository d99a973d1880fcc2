use Rattle.std.proofs.Common.{◌≡◌, ℕ, ◌+◌, None, Some, take, sym, ap, ◌∙◌, arith}
use Rattle.std.specs.FinMap as fin
use Rattle.rc_maps.proofs.Imports.{take_all, Rows, current, extra_of, count_in, len-rows, items_of, counted, present_gone, present_there}
use Rattle.rc_maps.proofs.block.Block.len.Goals as goal
use Rattle.rc_maps.proofs.block.Block.len.Goals.{then-row-gt0, else-row-gt0}

pub loop-row-preserved : goal.loop-row-preserved
loop-row-preserved g c =
    let rows = c.deref-row-items.result.now in
    let n : ℕ = c.loop-row.row-index in
    let row = c.row-item.result in
    let so_far : ℕ = count_in (items_of (take n rows)) in
    let h : c.loop-row.count ≡ so_far = c.loop-row.invariant.count in
    elim c.if-row-gt0.branch [
      | then-row-gt0 w ↦
          let e : count_in (items_of (take (n + 1) rows)) ≡ so_far + 1 =
          counted rows n row (Some row.extra) c.loop-row-test.true c.row-item.is
          (ap extra_of (sym (present_there row.extra row.count w.if-row-gt0.true))) in
          let i : c.if-row-gt0.count ≡ c.loop-row.count + 1 = w.count-is in
          record { count = omega arith; within = omega arith }
      | else-row-gt0 w ↦
          let e : count_in (items_of (take (n + 1) rows)) ≡ so_far + 0 =
          counted rows n row None c.loop-row-test.true c.row-item.is
          (ap extra_of (sym (present_gone row.extra row.count (omega (arith, w.if-row-gt0.false))))) in
          let i : c.if-row-gt0.count ≡ c.loop-row.count = w.count-is in
          record { count = omega arith; within = omega arith }
    ]

pub returns : goal.returns
returns g c =
    let rows = c.deref-row-items.result.now in
    c.loop-row.invariant.count ∙ ap (λ z. count_in (items_of z)) (take_all c.loop-row.row-index rows (omega arith) ∙ c.deref-row-items.ensures.value)
    ∙ sym (len-rows (items_of c.self.inside.rows.items) c.self.invariant.keyed)
    ∙ ap (λ (z : Rows). fin.len (current z)) c.self.view_is
