use Rattle.std.proofs.Common.{◌≡◌, subst, ap, ◌∙◌}
use Rattle.rc_row.proofs.Imports.{HeldRows, OfHeld, PassSeen}
use Rattle.rc_row.proofs.TurnLemmas.{read_here}
use Rattle.rc_row.proofs.ChangeLemmas.{of_held_here}
use Rattle.rc_row.proofs.WholeLemmas.{rising_there}
use Rattle.rc_row.proofs.pass.Pass.fragment.Goals as goal

pub place_of-at-requires-clause-rising : goal.place_of-at-requires-clause-rising
place_of-at-requires-clause-rising c = rising_there c.self.inside c.self.invariant

pub returns : goal.returns
returns c =
    let held = c.self.inside.held.items in
    let at = c.place_of-at.result in
    let h = c.place_of-at.ensures in
    subst (λ (s : PassSeen). OfHeld s.held c.args.stripe (λ f. c.fragment.result.now ≡ f)) c.self.view_is
    (of_held_here held c.args.stripe at h (rising_there c.self.inside c.self.invariant) (λ f. c.fragment.result.now ≡ f)
    (c.fragment.ensures ∙ ap (λ (x : HeldRows). x.fragment) (c.index.ensures ∙ read_here held c.args.stripe at h c.index.result.now)))
