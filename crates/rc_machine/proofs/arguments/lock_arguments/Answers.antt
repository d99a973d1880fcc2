use Rattle.std.proofs.Common.{◌≡◌, ◌+◌, ◌∷◌, ◌++◌, [], ℕ, None, List, Err, drop, get_or, take, true, refl, sym, ap, subst, ◌∙◌, inl, arith, add-one}
use Rattle.rc_machine.proofs.Imports.{take-suc, false≢true, map-append, nat_cmp, In, gather, gather_in, nat_order, physical_stripe, AreOfOneRelation, HeldStripe, MayTake, held_of, goes_on_again, goes_on_same, Mode, cols_of, is_given_lock, first_at, given_lock_falls, given_lock_locks, key_bound_more, stripes_locked, Statement, Lock, Which, AreLockedFor, stripes_held, IsAt}
use Rattle.rc_machine.proofs.AccessRunLemmas.{one_lock_more}
use Rattle.rc_machine.proofs.GoLemmas.{at_is, lock_named, lock_refused, locked_told, refused_since, still_taken}
use Rattle.rc_machine.proofs.StepLemmas.{begins, lock_above, lock_step}
use Rattle.rc_machine.proofs.StripeLemmas.{no_stripes}
use Rattle.rc_machine.proofs.arguments.lock_arguments.Given.{Over}
use Rattle.rc_machine.proofs.arguments.lock_arguments.Goals.{In-loop-at}
use Rattle.rc_machine.proofs.arguments.lock_arguments.Goals as goal

-- the statement is a Lock that the arguments tell
first : (g : Over) (c : In-loop-at g) (d : Statement) → is_given_lock c.args.compiled.now.spec (cols_of c.args.call.now.args) (get_or c.args.plan.now c.loop-at.at d) ≡ true
first g c d = first_at (is_given_lock c.args.compiled.now.spec (cols_of c.args.call.now.args)) c.args.plan.now c.args.locks c.loop-at.at d c.requires.within c.requires.first c.loop-at-test.true

-- and the first of those that are left
starts : (g : Over) (c : In-loop-at g) (d : Statement) (class : ℕ) (which : Which) (mode : Mode) → get_or c.args.plan.now c.loop-at.at d ≡ Lock class which mode
    → IsAt c.args.compiled.now.spec c.args.plan.now c.args.call.now (Lock class which mode ∷ drop (c.loop-at.at + 1) c.args.plan.now) (c.args.call.now.args ∷ []) None (held_of (g.H.Holder.seen c.loop-at.holder))
starts g c d class which mode is =
    let test = c.loop-at-test.true in
    let within = c.requires.within in
    at_is c.args.compiled.now.spec c.args.plan.now c.args.call.now c.loop-at.at d _ (c.args.call.now.args ∷ []) None (held_of (g.H.Holder.seen c.loop-at.holder)) (omega (arith, test, within))
    is c.loop-at.invariant.run

-- what is held, as taken, is of one relation
one : (g : Over) (c : In-loop-at g) → AreOfOneRelation c.args.compiled.now.spec (held_of (g.H.Holder.seen c.loop-at.holder))
one g c = g.met.H.Holder.sound_rows c.loop-at.holder c.args.compiled.now.spec (c.loop-at.invariant.sound c.args.compiled.now.spec c.requires.sound)

pub loop-at-init : goal.loop-at-init
loop-at-init g c =
    let spec = c.args.compiled.now.spec in
    let plan : List Statement = c.args.plan.now in
    record {
      run = subst (λ (z : List HeldStripe). IsAt spec plan c.args.call.now plan (c.args.call.now.args ∷ []) None z) (sym c.requires.free) (begins spec c.requires.sealed plan c.args.call.now c.requires.fits c.requires.planned);
      held = λ class e. absurd (false≢true e);
      stripes = no_stripes spec c.args.call.now.args _ c.clear.ensures.items;
      taken = λ h m. absurd (subst (In h) c.requires.free m);
      counted = refl;
      goes_on = goes_on_same (g.H.Holder.seen c.args.holder.now);
      sound = λ spec h. h;
    }

pub lock_given-requires-clause-known : goal.lock_given-requires-clause-known
lock_given-requires-clause-known g c = (starts g (goal.at.lock_given-requires-clause-known g c).In-loop-at _ _ _ _ c.in-Lock.is).known _ (inl refl)

pub lock_given-requires-clause-within : goal.lock_given-requires-clause-within
lock_given-requires-clause-within g c =
    let at = (goal.at.lock_given-requires-clause-within g c).In-loop-at in
    let run = starts g at _ _ _ _ c.in-Lock.is in
    let r = one g at in
    key_bound_more c.args.compiled.now.spec c.in-Lock.class c.in-Lock.which run.progress.columns (cols_of c.args.call.now.args) ((run.on r.0 r.1).search.columns c.args.call.now.args (inl refl)) run.keeps.0.k3

pub lock_given-requires-clause-lent : goal.lock_given-requires-clause-lent
lock_given-requires-clause-lent g c stripe m =
    let at = (goal.at.lock_given-requires-clause-lent g c).In-loop-at in
    subst (λ lends. MayTake lends stripe c.in-Lock.mode) (sym c.loop-at.invariant.goes_on.lends)
    (c.requires.lent (stripe, c.in-Lock.mode)
    (lock_named c.args.compiled.now.spec c.requires.sealed c.args.plan.now c.args.call.now c.requires.fits c.requires.planned _ _ _ _ _ _ _ (starts g at _ _ _ _ c.in-Lock.is) (one g at) stripe m))

pub lock_given-requires-clause-above : goal.lock_given-requires-clause-above
lock_given-requires-clause-above g c =
    lock_above c.args.compiled.now.spec c.requires.sealed c.args.plan.now c.args.call.now _ _ _ _ _ _ _ (starts g (goal.at.lock_given-requires-clause-above g c).In-loop-at _ _ _ _ c.in-Lock.is)

pub returns-in_err-lock_given-clause-taken : goal.returns-in_err-lock_given-clause-taken
returns-in_err-lock_given-clause-taken g c =
    locked_told (g.H.Holder.seen c.loop-at.holder) (g.H.Holder.seen c.lock_given.new.holder) _ c.in-Lock.mode c.in_err-lock_given.ensures.some.1 c.in_err-lock_given.ensures.goes_on c.loop-at.invariant.taken

pub returns-in_err-lock_given-clause-stopped : goal.returns-in_err-lock_given-clause-stopped
returns-in_err-lock_given-clause-stopped g c h e = still_taken _ _ _ _ _ c.in_err-lock_given.ensures.some.1 c.loop-at.invariant.run.unchanged

pub returns-in_err-lock_given-clause-refused : goal.returns-in_err-lock_given-clause-refused
returns-in_err-lock_given-clause-refused g c h e =
    let given = c.from_residual.ensures.1 in
    let is = rw e at given in
    let spec = c.args.compiled.now.spec in
    let old = g.H.Holder.seen c.loop-at.holder in
    let new = g.H.Holder.seen c.lock_given.new.holder in
    let n = c.in_err-lock_given.ensures.some.0 in
    refused_since spec c.args.plan.now c.args.call.now (g.H.Holder.seen c.args.holder.now) old new h c.loop-at.invariant.goes_on
    (lock_refused spec c.args.plan.now c.args.call.now _ _ _ _ _ _ old new n (starts g (goal.at.returns-in_err-lock_given-clause-refused g c).In-loop-at _ _ _ _ c.in-Lock.is) c.in_err-lock_given.ensures.some.1
    (g.met.H.Holder.sound_rows c.lock_given.new.holder spec (c.in_err-lock_given.ensures.sound spec (c.loop-at.invariant.sound spec c.requires.sound))) h
    (c.in_err-lock_given.ensures.refused h (ap Err (sym is))))

pub unreachable-requires : goal.unreachable-requires
unreachable-requires g c =
    given_lock_locks c.args.compiled.now.spec (cols_of c.args.call.now.args) _ (first g (goal.at.unreachable-requires g c).In-loop-at _) (λ class which mode is. c.in_default.not-Lock class which mode is)

pub loop-at-preserved : goal.loop-at-preserved
loop-at-preserved g c =
    let at = (goal.at.loop-at-preserved g c).In-loop-at in
    let spec = c.args.compiled.now.spec in
    let plan : List Statement = c.args.plan.now in
    let begun = g.H.Holder.seen c.args.holder.now in
    let old = g.H.Holder.seen c.loop-at.holder in
    let new = g.H.Holder.seen c.lock_given.new.holder in
    let ok = c.in_ok-lock_given.ensures in
    let begins = starts g at _ _ _ _ c.in-Lock.is in
    let x : Statement = Lock c.in-Lock.class c.in-Lock.which c.in-Lock.mode in
    let taken : List ℕ = gather nat_cmp (stripes_locked spec c.in-Lock.class c.in-Lock.which (c.args.call.now.args ∷ [])) in
    let test = c.loop-at-test.true in
    let within = c.requires.within in
    let next : take (c.loop-at.at + 1) plan ≡ take c.loop-at.at plan ++ x ∷ [] =
    ap (λ k. take k plan) (add-one c.loop-at.at) ∙ take-suc plan c.loop-at.at _ (omega (arith, test, within)) ∙ ap (λ z. take c.loop-at.at plan ++ z ∷ []) c.in-Lock.is in
    let more : stripes_held (held_of new) ≡ stripes_held (held_of old) ++ taken =
    ap stripes_held ok.ok.beside ∙ map-append (λ (h : HeldStripe). h.stripe) (held_of old) ok.ok.more ∙ ap (λ z. stripes_held (held_of old) ++ z) ok.ok.stripes_are in
    let falls : In (physical_stripe spec c.in-Lock.class c.args.call.now.args) taken =
    gather_in nat_cmp nat_order (physical_stripe spec c.in-Lock.class c.args.call.now.args) (stripes_locked spec c.in-Lock.class c.in-Lock.which (c.args.call.now.args ∷ []))
    (given_lock_falls spec c.requires.sealed.accepted.placed c.in-Lock.class c.in-Lock.which c.args.call.now.args (begins.known x (inl refl))) in
    record {
      run = lock_step spec c.requires.sealed plan c.args.call.now _ _ _ _ _ _ _ begins _ _ ok.ok;
      held = subst (λ first. AreLockedFor spec c.args.call.now.args first (stripes_held (held_of new))) (sym next)
          (subst (AreLockedFor spec c.args.call.now.args (take c.loop-at.at plan ++ x ∷ [])) (sym more)
          (one_lock_more spec c.args.call.now.args (take c.loop-at.at plan) c.in-Lock.class c.in-Lock.which c.in-Lock.mode (stripes_held (held_of old)) taken c.loop-at.invariant.held falls));
      stripes = ok.stripes;
      taken = locked_told old new _ c.in-Lock.mode ok.ok ok.goes_on c.loop-at.invariant.taken;
      counted = ok.counted spec (c.loop-at.invariant.sound spec c.requires.sound) ∙ c.loop-at.invariant.counted;
      goes_on = goes_on_again begun old new c.loop-at.invariant.goes_on ok.goes_on;
      sound = λ s h. ok.sound s (c.loop-at.invariant.sound s h);
    }

pub returns-clause-held : goal.returns-clause-held
returns-clause-held g c =
    let all : c.loop-at.at ≡ c.args.locks = let end = c.loop-at-test.false in omega (arith, end) in
    subst (λ n. AreLockedFor c.args.compiled.now.spec c.args.call.now.args (take n c.args.plan.now) (stripes_held (held_of (g.H.Holder.seen c.loop-at.holder)))) all c.loop-at.invariant.held
