use Rattle.std.proofs.Common.{◌≡◌, ◌≤◌, inl, inr, subst, sym, ◌∙◌, arith}
use Rattle.rc_bindings.proofs.Imports.{eq-or-lt_of_le, false≢true, ranked, Equal, In, has_in, in_has, register, tuple_in-decided, tuple_in-equal}
use Rattle.rc_bindings.proofs.binding.compare.Goals as goal

pub bounds-others-col : goal.bounds-others-col
bounds-others-col c = c.requires.too.below c.loop-col.col (in_has c.args.cols c.loop-col.col (sym c.has.ensures.found ∙ c.if-not-has.false))

pub loop-col-preserved-then-not-has : goal.loop-col-preserved-then-not-has
loop-col-preserved-then-not-has c k m l =
    elim (eq-or-lt_of_le (let k≤ : k ≤ c.loop-col.col = omega (arith, l) in k≤)) [
      | inl same ↦ absurd (false≢true (sym c.if-not-has.true ∙ c.has.ensures.found ∙ has_in c.args.cols c.loop-col.col (subst (λ n. In n c.args.cols) same m)))
      | inr less ↦ c.loop-col.invariant k m less
    ]

pub loop-col-preserved : goal.loop-col-preserved
loop-col-preserved c k m l =
    elim (eq-or-lt_of_le (let k≤ : k ≤ c.loop-col.col = omega (arith, l) in k≤)) [
      | inl same ↦ subst (λ n. register c.args.registers.now n ≡ register c.args.others.now n) (sym same)
          (ranked (register c.args.registers.now c.loop-col.col) (register c.args.others.now c.loop-col.col) Equal (sym c.in-Equal.is ∙ c.cmp.ensures))
      | inr less ↦ c.loop-col.invariant k m less
    ]

pub returns-in_default : goal.returns-in_default
returns-in_default c =
    sym (tuple_in-decided c.args.cols c.args.registers.now c.args.others.now c.loop-col.col c.cmp.result c.in_default.not-Equal c.requires.below.set.rising
    (in_has c.args.cols c.loop-col.col (sym c.has.ensures.found ∙ c.if-not-has.false)) c.loop-col.invariant (sym c.cmp.ensures))

pub returns : goal.returns
returns c =
    sym (tuple_in-equal c.args.cols c.args.registers.now c.args.others.now
    (λ k m. c.loop-col.invariant k m (let l = c.requires.below.below k m in let out = c.loop-col-test.false in omega (arith, l, out))))
