use Rattle.std.proofs.Common.{◌≡◌, ◌+◌, ◌≤◌, ◌∷◌, ◌++◌, [], ℕ, List, Err, drop, get_or, length, take, refl, sym, ap, subst, ◌∙◌, inl}
use Rattle.rc_machine.proofs.Imports.{nat_cmp, Within, In, gather, cols_of, all_columns, bound, edge_at, class_at, physical_stripe, Mode, AreOfOneRelation, HeldStripe, Holding, MayTake, held_of, offered_at, goes_on_again, goes_on_same, AreLate, IsLate, late_read, plan_at, stripes_locked, Statement, Lock, Read, Which, IsBehind, HasLocked, HasRefusedOne}
use Rattle.rc_machine.proofs.EdgeChangeLemmas.{are_late, late_within, remove_whole}
use Rattle.rc_machine.proofs.GoLemmas.{lock_named, lock_refused, locked_told, refused_since, still_taken}
use Rattle.rc_machine.proofs.LateLemmas.{behind_lock, behind_read, came, comes_next, found_striped, is_late, lock_bindings, stands}
use Rattle.rc_machine.proofs.StepLemmas.{fewer, lock_above}
use Rattle.rc_machine.proofs.late.lock_found.Given.{Over}
use Rattle.rc_machine.proofs.late.lock_found.Goals.{In-loop-at, in-Lock+in_ok-lock_stripe, in_default}
use Rattle.rc_machine.proofs.late.lock_found.Goals as goal

-- the call's plan, and its statements behind the first Locks
abbrev plan_of : (g : Over) (c : In-loop-at g) → List Statement
plan_of g c = plan_at c.args.compiled.now.plans c.args.call.now.op

abbrev rest_of : (g : Over) (c : In-loop-at g) → List Statement
rest_of g c = drop c.args.path.locks (plan_of g c)

-- what is held, as taken, is of one relation
begun : (g : Over) (c : In-loop-at g) → AreOfOneRelation c.args.compiled.now.spec (held_of (g.H.Holder.seen c.args.holder.now))
begun g c = g.met.H.Holder.sound_rows c.args.holder.now c.args.compiled.now.spec c.requires.sound

one : (g : Over) (c : In-loop-at g) → AreOfOneRelation c.args.compiled.now.spec (held_of (g.H.Holder.seen c.loop-at.holder))
one g c = g.met.H.Holder.sound_rows c.loop-at.holder c.args.compiled.now.spec (c.loop-at.invariant.sound c.args.compiled.now.spec c.requires.sound)

-- the path's edge has whole rows
whole : (g : Over) (c : In-loop-at g) → bound c.args.compiled.now.spec (edge_at c.args.compiled.now.spec c.args.path.edge).to ≡ all_columns c.args.compiled.now.spec
whole g c = remove_whole c.args.compiled.now c.args.call.now c.args.path c.requires.locked.0 (g.H.Holder.seen c.args.holder.now) c.requires.locked.1 (begun g c) c.requires.remove

-- the statement of this number comes next, and is late
module _ (g : Over) (c : In-loop-at g) (d x : Statement) (is : get_or c.split_at.result.1.now c.loop-at.at d ≡ x) where
  within : c.args.path.late ≤ length (rest_of g c)
  within = late_within c.args.compiled.now c.args.call.now c.args.path c.requires.locked.0 (g.H.Holder.seen c.args.holder.now) c.requires.locked.1 (begun g c) c.requires.remove

  late : AreLate c.args.path.edge (take c.args.path.late (rest_of g c))
  late = are_late c.args.compiled.now c.args.call.now c.args.path c.requires.locked.0 (g.H.Holder.seen c.args.holder.now) c.requires.locked.1 (begun g c) c.requires.remove

  statement : get_or (rest_of g c) c.loop-at.at d ≡ x
  statement =
      let rest : c.split_at.result.1.now ≡ rest_of g c = c.split_at.ensures.back ∙ ap (drop c.args.path.locks) (c.list.ensures ∙ c.plan.ensures.value) in
      subst (λ (xs : List Statement). get_or xs c.loop-at.at d ≡ x) rest is

  abbrev Comes : Type 0
  Comes = IsBehind c.args.compiled.now.spec (plan_of g c) c.args.call.now c.args.path.edge (take c.loop-at.at (rest_of g c)) (x ∷ drop (c.loop-at.at + 1) (rest_of g c)) (held_of (g.H.Holder.seen c.loop-at.holder))

  comes : Comes
  comes = comes_next c.args.compiled.now.spec (plan_of g c) c.args.call.now c.args.path.edge c.args.path.late (rest_of g c) within late c.loop-at.at c.loop-at-test.true d x statement (held_of (g.H.Holder.seen c.loop-at.holder)) c.loop-at.invariant.behind

  lates : IsLate c.args.path.edge (take c.loop-at.at (rest_of g c)) x
  lates = is_late c.args.compiled.now.spec (plan_of g c) c.args.call.now c.args.path.edge c.args.path.late (rest_of g c) within late c.loop-at.at c.loop-at-test.true d x statement

  abbrev Came : List HeldStripe → Type 0
  Came held = IsBehind c.args.compiled.now.spec (plan_of g c) c.args.call.now c.args.path.edge (take (c.loop-at.at + 1) (rest_of g c)) (drop (c.loop-at.at + 1) (rest_of g c)) held

  comes_behind : (held : List HeldStripe) → IsBehind c.args.compiled.now.spec (plan_of g c) c.args.call.now c.args.path.edge (take c.loop-at.at (rest_of g c) ++ x ∷ []) (drop (c.loop-at.at + 1) (rest_of g c)) held → Came held
  comes_behind held behind = came c.args.compiled.now.spec (plan_of g c) c.args.call.now c.args.path.edge c.args.path.late (rest_of g c) within late c.loop-at.at c.loop-at-test.true d x statement held behind

-- ---- a Lock

module _ (g : Over) (c : In-loop-at g) (d : Statement) (class : ℕ) (way : Which) (mode : Mode) (is : get_or c.split_at.result.1.now c.loop-at.at d ≡ Lock class way mode) where
  next : Comes g c d (Lock class way mode) is
  next = comes g c d (Lock class way mode) is

  keyed : IsLate c.args.path.edge (take c.loop-at.at (rest_of g c)) (Lock class way mode)
  keyed = lates g c d (Lock class way mode) is

  -- its one binding is the tuple
  binding : next.bindings ≡ c.args.tuple.now ∷ []
  binding =
      let r = one g c in
      lock_bindings c.args.compiled.now.spec c.requires.locked.1.sealed (plan_of g c) c.args.call.now c.args.path.edge (whole g c) c.requires.remove (take c.loop-at.at (rest_of g c)) (drop (c.loop-at.at + 1) (rest_of g c))
      (held_of (g.H.Holder.seen c.loop-at.holder)) class way mode next keyed r.0 r.1
      ∙ c.loop-at.invariant.found r.0 r.1

  striped : Within (class_at c.args.compiled.now.spec class).cols (cols_of c.args.tuple.now)
  striped =
      let r = one g c in
      found_striped c.args.compiled.now.spec c.requires.locked.1.sealed (plan_of g c) c.args.call.now c.args.path.edge (whole g c) c.requires.remove (take c.loop-at.at (rest_of g c)) (drop (c.loop-at.at + 1) (rest_of g c))
      (held_of (g.H.Holder.seen c.loop-at.holder)) class way mode next keyed c.args.tuple.now binding r.0 r.1

  abbrev stripe : ℕ
  stripe = physical_stripe c.args.compiled.now.spec class c.args.tuple.now

  -- and it names the tuple's stripe
  named_are : stripe ∷ [] ≡ stripes_locked c.args.compiled.now.spec class way next.bindings
  named_are =
      ap (λ z. stripes_locked c.args.compiled.now.spec class z (c.args.tuple.now ∷ [])) (sym keyed.0) ∙ ap (λ bs. stripes_locked c.args.compiled.now.spec class way bs) (sym binding)

  is_named : In stripe (stripes_locked c.args.compiled.now.spec class way next.bindings)
  is_named = subst (In stripe) named_are (inl refl)

  module _ (new : Holding) (locked : HasLocked (g.H.Holder.seen c.loop-at.holder) new (stripe ∷ []) mode) where
    behind : Came g c d (Lock class way mode) is (held_of new)
    behind = comes_behind g c d (Lock class way mode) is (held_of new)
        (behind_lock c.args.compiled.now.spec c.requires.locked.1.sealed (plan_of g c) c.args.call.now c.args.path.edge (whole g c) c.requires.remove (take c.loop-at.at (rest_of g c)) (drop (c.loop-at.at + 1) (rest_of g c))
        (held_of (g.H.Holder.seen c.loop-at.holder)) class way mode next keyed (c.args.tuple.now ∷ []) binding (held_of new) (offered_at (g.H.Holder.seen c.loop-at.holder)) locked)

pub loop-at-init : goal.loop-at-init
loop-at-init g c =
    let spec = c.args.compiled.now.spec in
    let old = g.H.Holder.seen c.args.holder.now in
    let locked = c.requires.locked in
    record {
      behind = stands spec locked.1.sealed (plan_at c.args.compiled.now.plans c.args.call.now.op) c.args.call.now c.args.path.edge
          (remove_whole c.args.compiled.now c.args.call.now c.args.path locked.0 old locked.1 (g.met.H.Holder.sound_rows c.args.holder.now spec c.requires.sound) c.requires.remove) c.requires.remove
          (drop c.args.path.locks (plan_at c.args.compiled.now.plans c.args.call.now.op)) (held_of old) locked.1.run;
      found = c.requires.found;
      stripes = c.requires.stripes;
      taken = locked.1.taken;
      counted = refl;
      goes_on = goes_on_same old;
      sound = λ spec h. h;
    }

pub lock_stripe-requires-clause-known : goal.lock_stripe-requires-clause-known
lock_stripe-requires-clause-known g c = (next g (goal.at.lock_stripe-requires-clause-known g c).In-loop-at _ _ _ _ c.in-Lock.is).run.known _ (inl refl)

pub lock_stripe-requires-clause-within : goal.lock_stripe-requires-clause-within
lock_stripe-requires-clause-within g c = striped g (goal.at.lock_stripe-requires-clause-within g c).In-loop-at _ _ _ _ c.in-Lock.is

pub lock_stripe-requires-clause-lent : goal.lock_stripe-requires-clause-lent
lock_stripe-requires-clause-lent g c =
    let at = (goal.at.lock_stripe-requires-clause-lent g c).In-loop-at in
    let locked = c.requires.locked.1 in
    let wanted = stripe g at _ _ _ _ c.in-Lock.is in
    subst (λ lends. MayTake lends wanted c.in-Lock.mode) (sym c.loop-at.invariant.goes_on.lends)
    (c.requires.lent (wanted, c.in-Lock.mode)
    (lock_named c.args.compiled.now.spec locked.sealed (plan_of g at) c.args.call.now locked.fits locked.planned _ _ _ _ _ _ _ (next g at _ _ _ _ c.in-Lock.is).run (one g at) wanted (is_named g at _ _ _ _ c.in-Lock.is)))

pub lock_stripe-requires-clause-above : goal.lock_stripe-requires-clause-above
lock_stripe-requires-clause-above g c =
    let at = (goal.at.lock_stripe-requires-clause-above g c).In-loop-at in
    lock_above c.args.compiled.now.spec c.requires.locked.1.sealed (plan_of g at) c.args.call.now _ _ _ _ _ _ _ (next g at _ _ _ _ c.in-Lock.is).run (stripe g at _ _ _ _ c.in-Lock.is) (is_named g at _ _ _ _ c.in-Lock.is)

pub returns-in_err-lock_stripe-clause-taken : goal.returns-in_err-lock_stripe-clause-taken
returns-in_err-lock_stripe-clause-taken g c =
    locked_told (g.H.Holder.seen c.loop-at.holder) (g.H.Holder.seen c.lock_stripe.new.holder) _ c.in-Lock.mode c.in_err-lock_stripe.ensures.some.1 c.in_err-lock_stripe.ensures.goes_on c.loop-at.invariant.taken

pub returns-in_err-lock_stripe-clause-stopped : goal.returns-in_err-lock_stripe-clause-stopped
returns-in_err-lock_stripe-clause-stopped g c h e = still_taken _ _ _ _ _ c.in_err-lock_stripe.ensures.some.1 c.loop-at.invariant.behind.run.unchanged

pub returns-in_err-lock_stripe-clause-refused : goal.returns-in_err-lock_stripe-clause-refused
returns-in_err-lock_stripe-clause-refused g c h e =
    let given = c.from_residual.ensures.1 in
    let is = rw e at given in
    let at = (goal.at.returns-in_err-lock_stripe-clause-refused g c).In-loop-at in
    let spec = c.args.compiled.now.spec in
    let plan = plan_of g at in
    let old = g.H.Holder.seen c.loop-at.holder in
    let new = g.H.Holder.seen c.lock_stripe.new.holder in
    let some = c.in_err-lock_stripe.ensures.some in
    let named = named_are g at _ _ _ _ c.in-Lock.is in
    refused_since spec plan c.args.call.now (g.H.Holder.seen c.args.holder.now) old new h c.loop-at.invariant.goes_on
    (lock_refused spec plan c.args.call.now _ _ _ _ _ _ old new some.0 (next g at _ _ _ _ c.in-Lock.is).run
    (subst (λ (z : List ℕ). HasLocked old new (take some.0 (gather nat_cmp z)) c.in-Lock.mode) named some.1)
    (g.met.H.Holder.sound_rows c.lock_stripe.new.holder spec (c.in_err-lock_stripe.ensures.sound spec (c.loop-at.invariant.sound spec c.requires.sound))) h
    (subst (λ (z : List ℕ). HasRefusedOne old new (gather nat_cmp z) c.in-Lock.mode h) named (c.in_err-lock_stripe.ensures.refused h (ap Err (sym is)))))

pub loop-at-preserved : goal.loop-at-preserved
loop-at-preserved g c =
    let at = (goal.at.loop-at-preserved g c).In-loop-at in
    let spec = c.args.compiled.now.spec in
    let begun = g.H.Holder.seen c.args.holder.now in
    let old = g.H.Holder.seen c.loop-at.holder in
    let kept = c.loop-at.invariant in
    elim c.match-rest-at.branch [
      | in-Lock+in_ok-lock_stripe w ↦
          let new = g.H.Holder.seen w.lock_stripe.new.holder in
          let ok = w.in_ok-lock_stripe.ensures in
          rw w.holder-is (rw w.stripes-is (record {
            behind = behind g at _ _ _ _ w.in-Lock.is new ok.ok;
            found = λ r a. kept.found r (fewer spec r (held_of old) ok.ok.more (held_of new) ok.ok.beside a);
            stripes = ok.stripes;
            taken = locked_told old new _ w.in-Lock.mode ok.ok ok.goes_on kept.taken;
            counted = ok.counted spec (kept.sound spec c.requires.sound) ∙ kept.counted;
            goes_on = goes_on_again begun old new kept.goes_on ok.goes_on;
            sound = λ s h. ok.sound s (kept.sound s h);
          }))
      | in_default w ↦
          let read = late_read c.args.path.edge (take c.loop-at.at (rest_of g at)) _ (lates g at _ _ refl) (λ class which mode is. w.in_default.not-Lock class which mode is) in
          rw w.holder-is (rw w.stripes-is (record {
            behind = comes_behind g at _ (Read read.0 read.1) read.2 (held_of old)
                (behind_read spec c.requires.locked.1.sealed (plan_of g at) c.args.call.now c.args.path.edge (whole g at) c.requires.remove (take c.loop-at.at (rest_of g at)) (drop (c.loop-at.at + 1) (rest_of g at)) (held_of old)
                read.0 read.1 (comes g at _ (Read read.0 read.1) read.2) (one g at));
            found = kept.found;
            stripes = kept.stripes;
            taken = kept.taken;
            counted = kept.counted;
            goes_on = kept.goes_on;
            sound = kept.sound;
          }))
    ]
