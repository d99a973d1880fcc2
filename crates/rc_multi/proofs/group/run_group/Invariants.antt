use Rattle.std.specs.Prelude.{◌≡◌}
use Rattle.rc_multi.proofs.Imports.{held_of, IsSameButLent, IsGroupAt, all_taken}
use Rattle.rc_multi.proofs.group.run_group.Given as goal

abbrev pub invariant-loop-call : goal.invariant-loop-call
invariant-loop-call g l = record {
  at : IsGroupAt l.compiled.spec l.calls l.call-index (all_taken (held_of (g.H.Holder.seen l.fn.holder))) (held_of (g.H.Holder.seen l.holder)) l.replies.items;
  sound : g.H.Holder.is_sound l.holder l.compiled.spec;
  lent : IsSameButLent (g.H.Holder.seen l.fn.holder) (g.H.Holder.seen l.holder);
}
