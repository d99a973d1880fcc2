use Rattle.std.proofs.Common.{◌≡◌, ◌∷◌, [], true, false, subst, sym, ◌∙◌}
use Rattle.rc_machine.proofs.Imports.{false≢true, Within, test_from_within, within_from_test, In, cols_of, Class, class_at, class_of, held_of, stripes_held, HasMergedOn}
use Rattle.rc_machine.proofs.ReadLemmas.{band_is_all, keyed_is_all, on_ok}
use Rattle.rc_machine.proofs.read.push_joined.Given.{Over}
use Rattle.rc_machine.proofs.read.push_joined.Goals.{After-within}
use Rattle.rc_machine.proofs.read.push_joined.Goals as goal

-- what the test says of the binding and the class's columns
keyed : (g : Over) (c : After-within g) → c.within.result ≡ true → Within (class_at c.args.read.now.spec.now (class_of c.args.read.now.spec.now c.args.read.now.edge)).cols (cols_of c.args.binding.now.tuple)
keyed g c h =
    subst (λ (z : Class). Within z.cols (cols_of c.args.binding.now.tuple)) c.requires.read.resolved.class
    (subst (λ z. Within c.args.read.now.class.now.cols z) (c.cols.ensures.columns ∙ sym c.cols.ensures.of_tuple) (within_from_test c.args.read.now.class.now.cols c.cols.result (sym c.within.ensures.found ∙ h)))

unkeyed : (g : Over) (c : After-within g) → c.within.result ≡ false → Within (class_at c.args.read.now.spec.now (class_of c.args.read.now.spec.now c.args.read.now.edge)).cols (cols_of c.args.binding.now.tuple) → ⊥
unkeyed g c h w =
    false≢true (sym h ∙ c.within.ensures.found ∙ test_from_within c.args.read.now.class.now.cols c.cols.result
    (subst (λ z. Within c.args.read.now.class.now.cols z) (sym (c.cols.ensures.columns ∙ sym c.cols.ensures.of_tuple))
    (subst (λ (z : Class). Within z.cols (cols_of c.args.binding.now.tuple)) (sym c.requires.read.resolved.class) w)))

pub push_found-requires-clause-held : goal.push_found-requires-clause-held
push_found-requires-clause-held g c =
    let at = goal.at.push_found-requires-clause-held g c in
    subst (λ z. In z (stripes_held (held_of (g.H.Holder.seen c.args.holder.now)))) (sym c.stripe_of-stripe.ensures) (c.requires.covered.keyed (keyed g at.After-within c.if-within.true))

pub returns-then-within-clause-merged : goal.returns-then-within-clause-merged
returns-then-within-clause-merged g c =
    let at = goal.at.returns-then-within-clause-merged g c in
    on_ok c.push_found.result (λ f. keyed_is_all c.args.read.now.spec.now c.requires.read.sealed c.args.read.now.edge c.requires.read.known c.args.binding.now.tuple (held_of (g.H.Holder.seen c.args.holder.now)) c.requires.good c.args.found.now.tuples c.push_found.new.found.tuples (keyed g at.After-within c.if-within.true)
    (subst (λ z. HasMergedOn c.args.binding.now.tuple c.args.read.now.edge (held_of (g.H.Holder.seen c.args.holder.now)) (z ∷ []) c.args.found.now.tuples c.push_found.new.found.tuples) c.stripe_of-stripe.ensures f)) c.push_found.ensures.merged

pub push_from_band-requires-clause-held : goal.push_from_band-requires-clause-held
push_from_band-requires-clause-held g c s m =
    c.requires.covered.all (unkeyed g (goal.at.push_from_band-requires-clause-held g c).After-within c.if-within.false) s m

pub returns-clause-merged : goal.returns-clause-merged
returns-clause-merged g c =
    on_ok c.push_from_band.result (λ f. band_is_all c.args.read.now.spec.now c.requires.read.sealed c.args.read.now.edge c.requires.read.known c.args.binding.now.tuple (held_of (g.H.Holder.seen c.args.holder.now)) c.requires.good c.args.found.now.tuples c.push_from_band.new.found.tuples
    f) c.push_from_band.ensures.merged
