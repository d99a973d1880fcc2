use Rattle.std.proofs.Common.{◌≡◌, length, drop}
use Rattle.rc_instance.proofs.Imports.{settled, each_at}
use Rattle.rc_instance.proofs.fragments.settle_held.Given as goal

abbrev pub invariant-loop-stripe : goal.invariant-loop-stripe
invariant-loop-stripe l = record {
  long : length l.fragments ≡ length l.fn.fragments;
  rest : each_at settled (drop l.stripe-index l.stripes) l.fragments ≡ each_at settled l.stripes l.fn.fragments;
}
