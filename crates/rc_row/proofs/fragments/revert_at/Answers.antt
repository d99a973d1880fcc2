use Rattle.std.proofs.Common.{◌∙◌}
use Rattle.rc_fragment.specs.FragmentRows.{rolled_back}
use Rattle.rc_row.proofs.TurnLemmas.{read_here}
use Rattle.rc_row.proofs.ChangeLemmas.{set_here}
use Rattle.rc_row.proofs.fragments.revert_at.Goals as goal

pub returns-clause-items : goal.returns-clause-items
returns-clause-items c =
    let h = c.place_of-at.ensures in
    let held = c.args.held.now.items in
    let at = c.place_of-at.result in
    let x = c.index_mut.result.now in
    set_here held c.args.stripe at h c.requires.rising rolled_back x c.revert.new.self (c.index_mut.ensures.value ∙ read_here held c.args.stripe at h x) c.revert.ensures
