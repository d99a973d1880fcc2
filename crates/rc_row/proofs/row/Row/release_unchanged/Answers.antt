use Rattle.std.proofs.Common.{◌∙◌, subst}
use Rattle.rc_row.proofs.Imports.{Exclusive, Shared, core_of, stripes_of, IsHeldSo}
use Rattle.rc_row.proofs.GiveAllLemmas.{held_so, inside_so}
use Rattle.rc_row.proofs.BackLemmas.{held_there, of_row_there, rest_there, stripe_held, without_there}
use Rattle.rc_row.proofs.row.Row.release_unchanged.Goals as goal

pub revert_stripe-requires : goal.revert_stripe-requires
revert_stripe-requires c = record { held = stripe_held c.args.pass.now.held (core_of c.args.pass.now).held c.args.stripe c.args.mode c.requires.held c.held_agrees.ensures }

pub unlock-requires-clause-pass : goal.unlock-requires-clause-pass
unlock-requires-clause-pass c = of_row_there c.args.self.now c.args.pass.now c.revert_stripe.new.self c.args.stripe c.revert_stripe.ensures c.requires.pass

pub unlock-requires-clause-held : goal.unlock-requires-clause-held
unlock-requires-clause-held c =
    held_there c.args.self.now c.args.pass.now c.revert_stripe.new.self c.args.stripe c.revert_stripe.ensures c.args.stripe Exclusive
    (held_so c.args.pass.now.held (core_of c.args.pass.now).held c.args.stripe Exclusive (subst (IsHeldSo c.args.pass.now.held c.args.stripe) c.in-Exclusive.is c.requires.held) c.held_agrees.ensures)

pub unlock-requires-clause-rest : goal.unlock-requires-clause-rest
unlock-requires-clause-rest c = rest_there c.args.self.now c.args.pass.now c.revert_stripe.new.self c.args.stripe c.revert_stripe.ensures

pub unshare-requires-clause-pass : goal.unshare-requires-clause-pass
unshare-requires-clause-pass c = of_row_there c.args.self.now c.args.pass.now c.revert_stripe.new.self c.args.stripe c.revert_stripe.ensures c.requires.pass

pub unshare-requires-clause-held : goal.unshare-requires-clause-held
unshare-requires-clause-held c =
    held_there c.args.self.now c.args.pass.now c.revert_stripe.new.self c.args.stripe c.revert_stripe.ensures c.args.stripe Shared
    (held_so c.args.pass.now.held (core_of c.args.pass.now).held c.args.stripe Shared (subst (IsHeldSo c.args.pass.now.held c.args.stripe) c.in-Shared.is c.requires.held) c.held_agrees.ensures)

pub returns-in-Exclusive-clause-value : goal.returns-in-Exclusive-clause-value
returns-in-Exclusive-clause-value c = c.unlock.ensures.value ∙ without_there c.args.self.now c.args.pass.now c.revert_stripe.new.self c.args.stripe c.revert_stripe.ensures

pub returns-in-Exclusive-clause-inside : goal.returns-in-Exclusive-clause-inside
returns-in-Exclusive-clause-inside c = inside_so (stripes_of c.args.self.now) c.args.pass.now.held c.args.stripe c.args.mode c.requires.pass.inside c.requires.held

pub returns-in-Shared-clause-value : goal.returns-in-Shared-clause-value
returns-in-Shared-clause-value c = c.unshare.ensures.value ∙ without_there c.args.self.now c.args.pass.now c.revert_stripe.new.self c.args.stripe c.revert_stripe.ensures

pub returns-in-Shared-clause-inside : goal.returns-in-Shared-clause-inside
returns-in-Shared-clause-inside c = inside_so (stripes_of c.args.self.now) c.args.pass.now.held c.args.stripe c.args.mode c.requires.pass.inside c.requires.held
