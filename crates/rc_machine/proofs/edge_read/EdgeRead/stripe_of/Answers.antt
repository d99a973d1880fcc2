use Rattle.std.proofs.Common.{◌≡◌, ◌+◌, length, subst, sym, ap, ◌∙◌, arith}
use Rattle.rc_machine.proofs.Imports.{class_among, IsSetBelow, class_of, physical_stripe_below, placed_total, band_start, physical_stripe, stripe_of, Class, Spec}
use Rattle.rc_machine.proofs.ReadLemmas.{class_known}
use Rattle.rc_machine.proofs.edge_read.EdgeRead.stripe_of.Goals as goal
use Rattle.rc_machine.proofs.edge_read.EdgeRead.stripe_of.Goals.{After-stripe_of}

pub stripe_of-requires-clause-within : goal.stripe_of-requires-clause-within
stripe_of-requires-clause-within c =
    let spec : Spec = c.args.self.now.spec.now in
    subst (λ w. IsSetBelow w c.args.self.now.class.now.cols) (sym c.requires.wide)
    (subst (λ (z : Class). IsSetBelow (length spec.columns) z.cols) (sym c.requires.resolved.class)
    (class_among spec (class_of spec c.args.self.now.edge) c.requires.sealed.in_range (class_known spec c.requires.sealed c.args.self.now.edge c.requires.known)))

-- the stripe is the binding's
is : (c : After-stripe_of) → c.args.self.now.resolved.now.start + c.stripe_of.result ≡ physical_stripe c.args.self.now.spec.now (class_of c.args.self.now.spec.now c.args.self.now.edge) c.args.binding.now.tuple
is c =
    ap (λ n. n + c.stripe_of.result) c.requires.resolved.edge.start
    ∙ ap (λ n. band_start c.args.self.now.spec.now (class_of c.args.self.now.spec.now c.args.self.now.edge) + n) (c.stripe_of.ensures.value ∙ ap (λ (z : Class). stripe_of z c.args.binding.now.tuple) c.requires.resolved.class)

pub overflow_add-result : goal.overflow_add-result
overflow_add-result c =
    let spec : Spec = c.args.self.now.spec.now in
    let placed = c.requires.sealed.accepted.placed in
    let below = physical_stripe_below spec (class_of spec c.args.self.now.edge) c.args.binding.now.tuple placed (class_known spec c.requires.sealed c.args.self.now.edge c.requires.known) in
    let total = placed_total spec placed in
    let same = is c in
    omega (arith, below, total, same)

pub returns : goal.returns
returns c = is (goal.at.returns c).After-stripe_of
