use Rattle.std.proofs.Common.{ℕ, filter, sym, ap, subst, ◌∙◌, arith}
use Rattle.rc_machine.proofs.Imports.{take_all, Within, has, IsTuple, Pairs, cols_of, hash_of}
use Rattle.rc_machine.proofs.StripeLemmas.{columns_met, hash_with, hash_without}
use Rattle.rc_machine.proofs.stripe.hash_of.Goals as goal
use Rattle.rc_machine.proofs.stripe.hash_of.Goals.{then-has, else-has}

pub loop-pair-preserved : goal.loop-pair-preserved
loop-pair-preserved c =
    let t : Pairs = c.pairs-pair-items.result.now in
    let i : ℕ = c.loop-pair.pair-index in
    let tuple : IsTuple t = subst IsTuple (sym c.pairs-pair-items.ensures.pairs) c.pairs-pair-items.ensures.tuple in
    elim c.if-has.branch [
      | then-has w ↦ w.hash-is ∙ w.mix-hash.ensures ∙ sym (hash_with c.args.cols t tuple i (0, 0) c.loop-pair-test.true c.loop-pair.hash c.loop-pair.invariant (sym c.has.ensures.found ∙ w.if-has.true))
      | else-has w ↦ w.hash-is ∙ sym (hash_without c.args.cols t i (0, 0) c.loop-pair-test.true c.loop-pair.hash c.loop-pair.invariant (sym c.has.ensures.found ∙ w.if-has.false))
    ]

pub returns : goal.returns
returns c =
    let t : Pairs = c.pairs-pair-items.result.now in
    let tuple : IsTuple t = subst IsTuple (sym c.pairs-pair-items.ensures.pairs) c.pairs-pair-items.ensures.tuple in
    let end = c.loop-pair-test.false in
    c.loop-pair.invariant ∙ ap (λ (z : Pairs). hash_of (filter (has c.args.cols) (cols_of z)) t) (take_all c.loop-pair.pair-index t (omega (arith, end)))
    ∙ ap (λ cols. hash_of cols t) (columns_met c.args.cols t tuple (subst (λ (z : Pairs). Within c.args.cols (cols_of z)) (sym c.pairs-pair-items.ensures.pairs) c.requires) c.within.ensures.set)
    ∙ ap (hash_of c.args.cols) c.pairs-pair-items.ensures.pairs
