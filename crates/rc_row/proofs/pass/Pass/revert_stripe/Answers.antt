use Rattle.rc_row.proofs.Imports.{refl, rolled_back, held_with}
use Rattle.rc_row.proofs.ChangeLemmas.{hands-held_with, taken-held_with}
use Rattle.rc_row.proofs.WholeLemmas.{held_there, whole_with}
use Rattle.rc_row.proofs.pass.Pass.revert_stripe.Goals as goal

pub revert_at-requires-clause-held : goal.revert_at-requires-clause-held
revert_at-requires-clause-held c = held_there c.self.inside c.self.invariant c.args.self.now c.self.view_is c.args.stripe c.requires.held

pub invariant_of-self : goal.invariant_of-self
invariant_of-self c =
    let held = c.self.inside.held.items in
    whole_with c.self.inside c.revert_at.new.held (held_with c.args.stripe rolled_back held) c.self.invariant c.revert_at.ensures.items
    (hands-held_with c.args.stripe rolled_back held) (taken-held_with c.args.stripe rolled_back (λ f. refl) held) c.revert_at.ensures.room
