use Rattle.std.proofs.Common.{◌≡◌, ◌+◌, ◌-◌, ◌<◌, ◌++◌, ◌∷◌, ℕ, List, cond, drop, get_or, length, set, take, refl, sym, ap, ◌∙◌, arith}
use Rattle.rc_bindings.proofs.Imports.{length-set, drop_more, length-append, length-drop, length-take-le, set-append_right, take-append-drop, In, in_has, project, IsSetBelow, all_written}
use Rattle.rc_bindings.proofs.bindings.write.Goals as goal
use Rattle.rc_bindings.proofs.bindings.write.Goals.{then-has, else-has}

-- a register of the row
inside : (cols : List ℕ) (start : ℕ) (old row now : List ℕ) (k : ℕ) → IsSetBelow (length (drop start old)) cols → In k cols → now ≡ take start old ++ row → length row ≡ length (drop start old)
    → (start + k < length now) × (start + k < length old) × (length (take start old) ≡ start)
inside cols start old row now k below m is width =
    let l : k < length (drop start old) = below.below k m in
    let left = length-drop start old in
    let front = length-take-le start old (omega (arith, l, left)) in
    let both = length-append (take start old) row in
    let same = ap length is in
    (omega (arith, l, left, front, both, same, width), omega (arith, l, left), front)

pub loop-pair-init : goal.loop-pair-init
loop-pair-init c = record {
  row = drop c.args.start c.args.registers.now;
  beside = sym (take-append-drop c.args.start c.args.registers.now);
  width = refl;
  whole = refl;
}

pub overflow_add-index : goal.overflow_add-index
overflow_add-index c =
    let p = get_or c.args.pairs.now c.loop-pair.pair-index (0, 0) in
    let m : In p.0 c.args.cols = in_has c.args.cols p.0 (sym c.has.ensures.found ∙ c.if-has.true) in
    let f = (inside c.args.cols c.args.start c.args.registers.now c.loop-pair.invariant.row c.loop-pair.registers p.0 c.requires.columns m c.loop-pair.invariant.beside c.loop-pair.invariant.width).1 in
    let few = c.requires.few in
    omega (arith, f, few)

pub offset_bounds-registers-index : goal.offset_bounds-registers-index
offset_bounds-registers-index c =
    let p = get_or c.args.pairs.now c.loop-pair.pair-index (0, 0) in
    let m : In p.0 c.args.cols = in_has c.args.cols p.0 (sym c.has.ensures.found ∙ c.if-has.true) in
    let f = (inside c.args.cols c.args.start c.args.registers.now c.loop-pair.invariant.row c.loop-pair.registers p.0 c.requires.columns m c.loop-pair.invariant.beside c.loop-pair.invariant.width).1 in
    let few = c.requires.few in
    omega (arith, f, few)

pub bounds-registers-index : goal.bounds-registers-index
bounds-registers-index c =
    let p = get_or c.args.pairs.now c.loop-pair.pair-index (0, 0) in
    let m : In p.0 c.args.cols = in_has c.args.cols p.0 (sym c.has.ensures.found ∙ c.if-has.true) in
    (inside c.args.cols c.args.start c.args.registers.now c.loop-pair.invariant.row c.loop-pair.registers p.0 c.requires.columns m c.loop-pair.invariant.beside c.loop-pair.invariant.width).0

pub loop-pair-preserved : goal.loop-pair-preserved
loop-pair-preserved c =
    let p = get_or c.args.pairs.now c.loop-pair.pair-index (0, 0) in
    let old = c.args.registers.now in
    let row : List ℕ = c.loop-pair.invariant.row in
    let rest = drop (c.loop-pair.pair-index + 1) c.args.pairs.now in
    let next : drop c.loop-pair.pair-index c.args.pairs.now ≡ p ∷ rest = drop_more c.args.pairs.now c.loop-pair.pair-index (0, 0) c.loop-pair-test.true in
    elim c.if-has.branch [
      | then-has w ↦
          let m : In p.0 c.args.cols = in_has c.args.cols p.0 (sym c.has.ensures.found ∙ w.if-has.true) in
          let f = inside c.args.cols c.args.start old row c.loop-pair.registers p.0 c.requires.columns m c.loop-pair.invariant.beside c.loop-pair.invariant.width in
          let place : c.args.start + p.0 - c.args.start ≡ p.0 = omega arith in
          record {
            row = set row p.0 p.1;
            beside = w.registers-is ∙ ap (λ l. set l (c.args.start + p.0) p.1) c.loop-pair.invariant.beside
                ∙ set-append_right (take c.args.start old) row c.args.start (c.args.start + p.0) p.1 f.2 (omega arith) ∙ ap (λ n. take c.args.start old ++ set row n p.1) place;
            width = length-set row p.0 p.1 ∙ c.loop-pair.invariant.width;
            whole = ap (λ b. all_written (cond b (p ∷ project c.args.cols rest) (project c.args.cols rest)) row) (sym (sym c.has.ensures.found ∙ w.if-has.true))
                ∙ ap (λ ps. all_written (project c.args.cols ps) row) (sym next) ∙ c.loop-pair.invariant.whole;
          }
      | else-has w ↦ record {
        row = row;
        beside = w.registers-is ∙ c.loop-pair.invariant.beside;
        width = c.loop-pair.invariant.width;
        whole = ap (λ b. all_written (cond b (p ∷ project c.args.cols rest) (project c.args.cols rest)) row) (sym (sym c.has.ensures.found ∙ w.if-has.false))
            ∙ ap (λ ps. all_written (project c.args.cols ps) row) (sym next) ∙ c.loop-pair.invariant.whole;
      }
    ]
