use Rattle.std.proofs.Common.{◌≡◌, ◌+◌, ◌*◌, ◌++◌, ◌∷◌, [], ap, sym, ◌∙◌, suc, arith}
use Rattle.rc_spec.proofs.Imports.{suc-mul, add-one, even_ends, even_ends-more}
use Rattle.rc_spec.proofs.row_ends.even.Goals as goal

pub loop-preserved : goal.loop-preserved
loop-preserved c =
    let more = suc-mul c.loop.counter c.args.width in
    let sofar = c.loop.invariant.0 in
    let place : c.loop.end + c.args.width ≡ suc c.loop.counter * c.args.width = omega (arith, more, sofar) in (
      place ∙ ap (λ n. n * c.args.width) (sym (add-one c.loop.counter)),
      c.in_ok-push.ensures.items
          ∙ ap (λ l. l ++ (c.loop.end + c.args.width) ∷ []) c.loop.invariant.1
          ∙ ap (λ n. even_ends 0 c.args.width c.loop.counter ++ n ∷ []) (omega (arith, place))
          ∙ sym (even_ends-more 0 c.args.width c.loop.counter)
          ∙ ap (even_ends 0 c.args.width) (sym (add-one c.loop.counter)),
    )
