use Rattle.std.proofs.Common.{◌≡◌, ◌+◌, ◌≤◌, List, length, ap, sym, subst, ◌∙◌}
use Rattle.rc_store.proofs.Imports.{EndedPass, counted_passes, counted_on, many_counted}
use Rattle.rc_store.proofs.resume.with_counts.Goals as goal

more : (c : goal.After-push_reserved) → c.push_reserved.new.self.items ≡ counted_passes c.args.made.now (c.loop-number.number + 1)
more c = c.push_reserved.ensures.items ∙ counted_on c.args.made.now c.loop-number.number c.made_by_pass.result c.loop-number.ended.items c.loop-number.invariant.ended c.made_by_pass.ensures

pub loop-number-preserved : goal.loop-number-preserved
loop-number-preserved c = record {
  ended = more c;
  count = ap (λ (l : List EndedPass). length l) (more c) ∙ many_counted c.args.made.now (c.loop-number.number + 1);
  room = subst (λ n. c.args.passes ≤ n) (sym c.push_reserved.ensures.capacity) c.loop-number.invariant.room;
}
