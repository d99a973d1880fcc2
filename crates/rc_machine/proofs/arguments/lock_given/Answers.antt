use Rattle.std.proofs.Common.{◌≡◌, ◌∷◌, [], ℕ, OnOk, ap, inl, refl, subst, sym, take, ◌∙◌}
use Rattle.rc_machine.proofs.Imports.{nat_cmp, rising_range, In, gather, gather-rising, nat_order, Pairs, cols_of, class_at, band_start, physical_stripe, Spec, stripes_locked, IsKeyBound, band, Which, HasLocked, HasRefusedOne}
use Rattle.rc_plan.specs.declared.statement.Which.TheVariants as which
use Rattle.rc_machine.proofs.arguments.lock_given.Goals as goal

-- what is taken: the tuple's stripe
tuple_stripe : (spec : Spec) (c : ℕ) (choice : Which) (t : Pairs) → choice ≡ which.Keyed → physical_stripe spec c t ∷ [] ≡ gather nat_cmp (stripes_locked spec c choice (t ∷ []))
tuple_stripe spec c choice t e = ap (λ z. gather nat_cmp (stripes_locked spec c z (t ∷ []))) (sym e)

-- or all of the class
all_stripes : (spec : Spec) (c : ℕ) (choice : Which) (t : Pairs) → choice ≡ which.All → band spec c ≡ gather nat_cmp (stripes_locked spec c choice (t ∷ []))
all_stripes spec c choice t e =
    sym (gather-rising nat_cmp nat_order (band spec c) (rising_range (band_start spec c) (class_at spec c).stripes)) ∙ ap (λ z. gather nat_cmp (stripes_locked spec c z (t ∷ []))) (sym e)

pub lock_stripe-requires-clause-within : goal.lock_stripe-requires-clause-within
lock_stripe-requires-clause-within g c = subst (λ z. IsKeyBound c.args.compiled.now.spec c.args.class z (cols_of c.args.tuple.now)) c.in-Keyed.is c.requires.within

pub lock_stripe-requires-clause-lent : goal.lock_stripe-requires-clause-lent
lock_stripe-requires-clause-lent g c =
    let spec = c.args.compiled.now.spec in
    let stripe : ℕ = physical_stripe spec c.args.class c.args.tuple.now in
    c.requires.lent stripe (subst (λ z. In stripe (stripes_locked spec c.args.class z (c.args.tuple.now ∷ []))) (sym c.in-Keyed.is) (inl refl))

pub lock_stripe-requires-clause-above : goal.lock_stripe-requires-clause-above
lock_stripe-requires-clause-above g c =
    let spec = c.args.compiled.now.spec in
    let stripe : ℕ = physical_stripe spec c.args.class c.args.tuple.now in
    c.requires.above stripe (subst (λ z. In stripe (stripes_locked spec c.args.class z (c.args.tuple.now ∷ []))) (sym c.in-Keyed.is) (inl refl))

pub lock_band-requires-clause-lent : goal.lock_band-requires-clause-lent
lock_band-requires-clause-lent g c s m = c.requires.lent s (subst (λ z. In s (stripes_locked c.args.compiled.now.spec c.args.class z (c.args.tuple.now ∷ []))) (sym c.in-All.is) m)

pub lock_band-requires-clause-above : goal.lock_band-requires-clause-above
lock_band-requires-clause-above g c s m = c.requires.above s (subst (λ z. In s (stripes_locked c.args.compiled.now.spec c.args.class z (c.args.tuple.now ∷ []))) (sym c.in-All.is) m)

pub returns-in-Keyed-clause-ok : goal.returns-in-Keyed-clause-ok
returns-in-Keyed-clause-ok g c =
    subst (λ z. OnOk c.lock_stripe.result (HasLocked (g.H.Holder.seen c.args.holder.now) (g.H.Holder.seen c.lock_stripe.new.holder) z c.args.mode))
    (tuple_stripe c.args.compiled.now.spec c.args.class c.args.which c.args.tuple.now c.in-Keyed.is) c.lock_stripe.ensures.ok

pub returns-in-Keyed-clause-some : goal.returns-in-Keyed-clause-some
returns-in-Keyed-clause-some g c =
    subst (λ z. (n : ℕ) × HasLocked (g.H.Holder.seen c.args.holder.now) (g.H.Holder.seen c.lock_stripe.new.holder) (take n z) c.args.mode)
    (tuple_stripe c.args.compiled.now.spec c.args.class c.args.which c.args.tuple.now c.in-Keyed.is) c.lock_stripe.ensures.some

pub returns-in-Keyed-clause-refused : goal.returns-in-Keyed-clause-refused
returns-in-Keyed-clause-refused g c h e =
    subst (λ z. HasRefusedOne (g.H.Holder.seen c.args.holder.now) (g.H.Holder.seen c.lock_stripe.new.holder) z c.args.mode h)
    (tuple_stripe c.args.compiled.now.spec c.args.class c.args.which c.args.tuple.now c.in-Keyed.is) (c.lock_stripe.ensures.refused h e)

pub returns-in-All-clause-ok : goal.returns-in-All-clause-ok
returns-in-All-clause-ok g c =
    subst (λ z. OnOk c.lock_band.result (HasLocked (g.H.Holder.seen c.args.holder.now) (g.H.Holder.seen c.lock_band.new.holder) z c.args.mode))
    (all_stripes c.args.compiled.now.spec c.args.class c.args.which c.args.tuple.now c.in-All.is) c.lock_band.ensures.ok

pub returns-in-All-clause-some : goal.returns-in-All-clause-some
returns-in-All-clause-some g c =
    subst (λ z. (n : ℕ) × HasLocked (g.H.Holder.seen c.args.holder.now) (g.H.Holder.seen c.lock_band.new.holder) (take n z) c.args.mode)
    (all_stripes c.args.compiled.now.spec c.args.class c.args.which c.args.tuple.now c.in-All.is) c.lock_band.ensures.some

pub returns-in-All-clause-refused : goal.returns-in-All-clause-refused
returns-in-All-clause-refused g c h e =
    subst (λ z. HasRefusedOne (g.H.Holder.seen c.args.holder.now) (g.H.Holder.seen c.lock_band.new.holder) z c.args.mode h)
    (all_stripes c.args.compiled.now.spec c.args.class c.args.which c.args.tuple.now c.in-All.is) (c.lock_band.ensures.refused h e)
