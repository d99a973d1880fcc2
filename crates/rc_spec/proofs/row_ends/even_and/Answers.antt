use Rattle.std.proofs.Common.{◌≡◌, ◌+◌, ◌^◌, ◌<◌, ◌++◌, ◌∷◌, [], SomeIff, ap, subst, ◌∙◌, suc, arith}
use Rattle.rc_spec.proofs.Imports.{suc-mul, even_ends, even_ends-more}
use Rattle.rc_spec.proofs.row_ends.even_and.Goals as goal

pub returns-then-end-rows-clause-ends : goal.returns-then-end-rows-clause-ends
returns-then-end-rows-clause-ends c =
    let added = (subst (λ r. SomeIff r (c.args.rows + 1 < 2 ^ 64) (c.args.rows + 1)) c.in_ok-more.ensures.ok_part c.checked_add.ensures).1 in
    let more : c.in_ok-more.more ≡ suc c.args.rows = omega (arith, added) in
    let one = suc-mul c.args.rows c.args.width in
    let same = c.if-end-rows.true in
    let fits = c.requires in
    ap (even_ends 0 c.args.width) more
    ∙ even_ends-more 0 c.args.width c.args.rows
    ∙ ap (λ n. even_ends 0 c.args.width c.args.rows ++ n ∷ []) (omega (arith, one, same, fits))
