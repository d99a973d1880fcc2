use Rattle.std.proofs.Common.{ap, ◌∙◌}
use Rattle.rc_fragment.proofs.Imports.{edge_table, full_fragment}
use Rattle.rc_fragment.proofs.FullReadLemmas.{full_none}
use Rattle.rc_fragment.proofs.fragment.Fragment.empty.Goals as goal

pub returns : goal.returns
returns c =
    ap full_fragment c.in_ok-empty.ensures.value
    ∙ (λ i. record { table = edge_table c.args.accepted.now; now = full_none (edge_table c.args.accepted.now) i; taken = full_none (edge_table c.args.accepted.now) i; room = 0; changes = 0 })
