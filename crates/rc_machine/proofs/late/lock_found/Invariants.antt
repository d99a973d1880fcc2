use Rattle.std.proofs.Common.{◌≡◌, drop, take}
use Rattle.rc_machine.proofs.Imports.{Spec, GoesOn, held_of, plan_at, IsBehind, IsOnlyMatch, AreTakenAsOffered, AreStripesOf}
use Rattle.rc_machine.proofs.late.lock_found.Given as goal

abbrev pub invariant-loop-at : goal.invariant-loop-at
invariant-loop-at g l = record {
  behind : IsBehind l.compiled.spec (plan_at l.compiled.plans l.call.op) l.call l.fn.path.edge
      (take l.at (drop l.fn.path.locks (plan_at l.compiled.plans l.call.op))) (drop l.at (drop l.fn.path.locks (plan_at l.compiled.plans l.call.op))) (held_of (g.H.Holder.seen l.holder));
  found : IsOnlyMatch l.compiled.spec (held_of (g.H.Holder.seen l.holder)) l.call.args l.tuple;
  stripes : AreStripesOf l.compiled.spec l.tuple l.stripes.items;
  taken : AreTakenAsOffered (g.H.Holder.seen l.holder);
  counted : (g.H.Holder.seen l.holder).refusals ≡ (g.H.Holder.seen l.fn.holder).refusals;
  goes_on : GoesOn (g.H.Holder.seen l.fn.holder) (g.H.Holder.seen l.holder);
  sound : (spec : Spec) → g.H.Holder.is_sound l.fn.holder spec → g.H.Holder.is_sound l.holder spec;
}
