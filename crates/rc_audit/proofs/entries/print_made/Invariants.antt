use Rattle.std.proofs.Common.{◌≡◌, ◌+◌, ◌<◌, ◌^◌, List, length}
use Rattle.rc_audit.proofs.Imports.{Pairs, Keeps}
use Rattle.rc_audit.proofs.PrintLemmas.{lines_before_call, relation_before}
use Rattle.rc_audit.proofs.entries.print_made.Given as goal

abbrev pub invariant-loop-call : goal.invariant-loop-call
invariant-loop-call l =
    (r : List Pairs) → Keeps l.compiled.spec l.fn.relation r → length r + length l.calls < 2 ^ 63
    → (l.lines ≡ lines_before_call l.compiled.spec l.work.ranks l.place l.thread r l.calls l.call-index)
    × Keeps l.compiled.spec l.relation (relation_before l.compiled.spec r l.calls l.call-index)
