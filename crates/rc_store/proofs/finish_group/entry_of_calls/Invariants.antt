use Rattle.std.proofs.Common.{◌≡◌, ◌+◌, ◌++◌, drop, length}
use Rattle.rc_rel.specs.History.{with_replies}
use Rattle.rc_store.proofs.finish_group.entry_of_calls.Given as goal

abbrev pub invariant-loop-call : goal.invariant-loop-call
invariant-loop-call l = record {
  count : length l.replies.items + l.call-index ≡ length l.calls;
  steps : l.steps.items ++ with_replies (drop l.call-index l.calls) l.replies.items ≡ with_replies l.calls l.fn.replies.items;
}
