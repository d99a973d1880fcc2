use Rattle.std.proofs.Common.{◌≡◌, ◌+◌, ◌++◌, ◌∷◌, [], cond, map, true, false, ap, sym, ◌∙◌, arith, length}
use Rattle.rc_bindings.proofs.Imports.{append_assoc, append-nil, has, columns_below, register, columns_below_all, length-columns_below_more, place_within, values_next}
use Rattle.rc_bindings.proofs.binding.push_registers.Goals as goal
use Rattle.rc_bindings.proofs.binding.push_registers.Goals.{then-has, else-has}

pub loop-col-init : goal.loop-col-init
loop-col-init c = record {
  items = c.in_ok-reserve.ensures.items ∙ sym (append-nil c.args.values.now.items);
  room = let room = c.in_ok-reserve.ensures.ok in let count = c.len.ensures.value in omega (arith, room, count);
}

pub push_reserved-requires : goal.push_reserved-requires
push_reserved-requires c =
    let l = place_within c.args.cols c.loop-col.col c.has.ensures.set (sym c.has.ensures.found ∙ c.if-has.true) in
    let room = c.loop-col.invariant.room in
    omega (arith, l, room)

pub loop-col-preserved : goal.loop-col-preserved
loop-col-preserved c =
    let cols = c.args.cols in
    let values = c.args.registers.now in
    let n = c.loop-col.col in
    let before = map (register values) (columns_below cols n) in
    let next = values_next cols values n in
    let count = length-columns_below_more cols n in
    let room = c.loop-col.invariant.room in
    elim c.if-has.branch [
      | then-has w ↦
          let h : has cols n ≡ true = sym c.has.ensures.found ∙ w.if-has.true in
          let more : length (columns_below cols (n + 1)) ≡ length (columns_below cols n) + 1 = count ∙ ap (λ b. length (columns_below cols n) + cond b 1 0) h in
          let l = place_within cols n c.has.ensures.set h in
          let len = ap (λ z. z.len) w.values-is ∙ w.push_reserved.ensures.len in
          let cap = ap (λ z. z.cap) w.values-is ∙ w.push_reserved.ensures.capacity in
          record {
            items = ap (λ z. z.items) w.values-is ∙ w.push_reserved.ensures.items ∙ ap (λ z. z ++ register values n ∷ []) c.loop-col.invariant.items
                ∙ append_assoc c.args.values.now.items before (register values n ∷ [])
                ∙ ap (λ b. c.args.values.now.items ++ (before ++ cond b (register values n ∷ []) [])) (sym h) ∙ ap (λ z. c.args.values.now.items ++ z) (sym next);
            room = omega (arith, len, cap, room, more, l);
          }
      | else-has w ↦
          let h : has cols n ≡ false = sym c.has.ensures.found ∙ w.if-has.false in
          let same : length (columns_below cols (n + 1)) ≡ length (columns_below cols n) + 0 = count ∙ ap (λ b. length (columns_below cols n) + cond b 1 0) h in
          let len = ap (λ z. z.len) w.values-is in
          let cap = ap (λ z. z.cap) w.values-is in
          record {
            items = ap (λ z. z.items) w.values-is ∙ c.loop-col.invariant.items ∙ ap (λ z. c.args.values.now.items ++ z) (sym (append-nil before))
                ∙ ap (λ b. c.args.values.now.items ++ (before ++ cond b (register values n ∷ []) [])) (sym h) ∙ ap (λ z. c.args.values.now.items ++ z) (sym next);
            room = omega (arith, len, cap, room, same);
          }
    ]

pub returns : goal.returns
returns c =
    let width : c.loop-col.col ≡ length c.args.registers.now = omega (arith, c.loop-col.auto.col-end, c.loop-col-test.false) in
    c.loop-col.invariant.items ∙ ap (λ n. c.args.values.now.items ++ map (register c.args.registers.now) (columns_below c.args.cols n)) width
    ∙ ap (λ xs. c.args.values.now.items ++ map (register c.args.registers.now) xs) (columns_below_all (length c.args.registers.now) c.args.cols c.requires.below)
