use Rattle.std.proofs.Common.{◌<◌, sym, ap, subst, length, arith}
use Rattle.rc_spec.proofs.Imports.{slice_get_within, In, get_or_in, Op, no_op}
use Rattle.rc_spec.proofs.fitting.fits.Goals as goal

pub columns_given-given-requires-clause-known : goal.columns_given-given-requires-clause-known
columns_given-given-requires-clause-known c =
    let below : c.args.call.now.op < length c.args.spec.now.ops = omega (arith, c.if-call-list.false, ap length c.list.ensures) in
    subst (λ (o : Op). In o c.args.spec.now.ops) (sym c.op-op.ensures.value) (get_or_in c.args.spec.now.ops c.args.call.now.op no_op below)

pub returns-then-call-list : goal.returns-then-call-list
returns-then-call-list c = (
  (λ same. cc),
  (λ fit.
      let below = slice_get_within c.args.spec.now.ops c.args.call.now.op fit.0 fit.1.known in
      absurd (omega (arith, below, c.if-call-list.true, ap length c.list.ensures))),
)
