use Rattle.std.proofs.Common.{◌≡◌, length, drop}
use Rattle.rc_instance.proofs.Imports.{rolled_back, each_at}
use Rattle.rc_instance.proofs.fragments.revert_held.Given as goal

abbrev pub invariant-loop-stripe : goal.invariant-loop-stripe
invariant-loop-stripe l = record {
  long : length l.fragments ≡ length l.fn.fragments;
  rest : each_at rolled_back (drop l.stripe-index l.stripes) l.fragments ≡ each_at rolled_back l.stripes l.fn.fragments;
}
