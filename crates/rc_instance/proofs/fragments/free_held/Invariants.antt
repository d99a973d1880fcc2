use Rattle.std.proofs.Common.{◌≡◌, length, drop, None}
use Rattle.rc_instance.specs.Fragments.{each_at}
use Rattle.rc_instance.proofs.fragments.free_held.Given as goal

abbrev pub invariant-loop-stripe : goal.invariant-loop-stripe
invariant-loop-stripe l = record {
  long : length l.held ≡ length l.fn.held;
  rest : each_at (λ _. None) (drop l.stripe-index l.stripes) l.held ≡ each_at (λ _. None) l.stripes l.fn.held;
}
