use Rattle.std.proofs.Common.{◌≡◌, ◌∙◌}
use Rattle.rc_row.proofs.Imports.{on_ok_weaker, with_promise}
use Rattle.rc_row.proofs.TurnLemmas.{read_here}
use Rattle.rc_row.proofs.ChangeLemmas.{set_here}
use Rattle.rc_row.proofs.fragments.own_at.Goals as goal

pub returns-clause-ok : goal.returns-clause-ok
returns-clause-ok c =
    let h = c.place_of-at.ensures in
    let held = c.args.held.now.items in
    let at = c.place_of-at.result in
    let x = c.index_mut.result.now in
    let is : x ≡ h.here = c.index_mut.ensures.value ∙ read_here held c.args.stripe at h x in
    on_ok_weaker c.own.result (set_here held c.args.stripe at h c.requires.rising (with_promise c.args.changes) x c.own.new.self is) c.own.ensures.ok
