use Rattle.std.proofs.Common.{◌≡◌, cond, ap, sym, ◌∙◌, arith}
use Rattle.rc_bindings.proofs.Imports.{value, hash_of, mix, OneBinding, columns_below, columns_below_all, hash_of_next}
use Rattle.rc_bindings.proofs.binding.Binding.hash_of.Goals as goal
use Rattle.rc_bindings.proofs.binding.Binding.hash_of.Goals.{then-has, else-has}

pub loop-col-preserved : goal.loop-col-preserved
loop-col-preserved c =
    let t = c.args.self.now.tuple in
    let before = hash_of (columns_below c.args.cols c.loop-col.col) t in
    let after = mix before (value t c.loop-col.col) in
    elim c.if-has.branch [
      | then-has w ↦
          w.hash-is ∙ w.mix-hash.ensures ∙ ap (mix c.loop-col.hash) w.value.ensures
          ∙ ap (λ h. mix h (value t c.loop-col.col)) c.loop-col.invariant
          ∙ ap (λ b. cond b after before) (sym (sym c.has.ensures.found ∙ w.if-has.true)) ∙ sym (hash_of_next c.args.cols t c.loop-col.col)
      | else-has w ↦
          w.hash-is ∙ c.loop-col.invariant ∙ ap (λ b. cond b after before) (sym (sym c.has.ensures.found ∙ w.if-has.false)) ∙ sym (hash_of_next c.args.cols t c.loop-col.col)
    ]

pub returns : goal.returns
returns c =
    let seen = ap (λ (z : OneBinding). z.width) c.self.view_is in
    let width : c.loop-col.col ≡ c.args.self.now.width = omega (arith, c.loop-col.auto.col-end, c.loop-col-test.false, seen) in
    c.loop-col.invariant ∙ ap (λ n. hash_of (columns_below c.args.cols n) c.args.self.now.tuple) width
    ∙ ap (λ xs. hash_of xs c.args.self.now.tuple) (columns_below_all c.args.self.now.width c.args.cols c.requires)
