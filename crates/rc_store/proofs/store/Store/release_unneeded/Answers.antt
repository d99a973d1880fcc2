use Rattle.rc_store.proofs.Imports.{get_or, suc, nat_cmp, false≢true, IsRising, Shared, StripeLock, FragmentRows, stripes_held, HeldRows, IsPassOf, OfHeld, PassSeen, compiled_of, held_without, without_stripe, held_rise, held_stripes, decide_needed, IsNeeded, holding, IsHeldAt, as_many_locks, held_at, held_so, kept_until, unchanged_at, until_inside, until_keeps, without_holding, steps_in, StoreSeen}
use Rattle.std.proofs.Common.{◌≡◌, ◌≤◌, ℕ, List, add-one, ◌+◌, ap, length, subst, sym, ◌∙◌}
use Rattle.rc_store.proofs.store.Store.release_unneeded.Given.{Over}
use Rattle.rc_store.proofs.store.Store.release_unneeded.Goals.{After-held_agrees, After-is_needed, then-not-is_needed, else-not-is_needed}
use Rattle.rc_store.proofs.store.Store.release_unneeded.Goals as goal

abbrev none : StripeLock
none = (0, Shared)

-- what is held rises as the locks do
rising : (g : Over) (c : After-held_agrees g) → IsRising nat_cmp (stripes_held (held_stripes c.args.pass.now.held))
rising g c = held_rise (held_stripes c.args.pass.now.held) c.args.locks.now c.requires.locks c.requires.rising

-- the lock of this turn
at_lock : (g : Over) (c : After-is_needed g)
    → IsHeldAt (IsNeeded (compiled_of c.args.self.now.row) (steps_in c.args.prepared.now) c.args.took.now) (decide_needed (compiled_of c.args.self.now.row) (steps_in c.args.prepared.now) c.args.took.now)
    c.args.pass.now.held c.loop-lock.lock-index (get_or c.args.locks.now c.loop-lock.lock-index none)
at_lock g c =
    held_at (IsNeeded (compiled_of c.args.self.now.row) (steps_in c.args.prepared.now) c.args.took.now) (decide_needed (compiled_of c.args.self.now.row) (steps_in c.args.prepared.now) c.args.took.now)
    c.args.pass.now.held c.args.locks.now c.loop-lock.lock-index none c.requires.locks
    (held_rise (held_stripes c.args.pass.now.held) c.args.locks.now c.requires.locks c.requires.rising) c.loop-lock-test.true

pub release_unchanged-requires-clause-held : goal.release_unchanged-requires-clause-held
release_unchanged-requires-clause-held g c =
    let needed = IsNeeded (compiled_of c.args.self.now.row) (steps_in c.args.prepared.now) c.args.took.now in
    let decide = decide_needed (compiled_of c.args.self.now.row) (steps_in c.args.prepared.now) c.args.took.now in
    let is = at_lock g (goal.at.release_unchanged-requires-clause-held g c).After-is_needed in
    held_so (get_or c.args.locks.now c.loop-lock.lock-index none) is.row (kept_until needed decide c.loop-lock.lock-index c.args.pass.now.held) c.loop-lock.pass.held
    (ap (λ (p : PassSeen). p.held) c.loop-lock.invariant.at) is.there is.lock_is

pub release_unchanged-requires-clause-unchanged : goal.release_unchanged-requires-clause-unchanged
release_unchanged-requires-clause-unchanged g c =
    let needed = IsNeeded (compiled_of c.args.self.now.row) (steps_in c.args.prepared.now) c.args.took.now in
    let decide = decide_needed (compiled_of c.args.self.now.row) (steps_in c.args.prepared.now) c.args.took.now in
    let held = c.args.pass.now.held in
    let kept : List HeldRows = kept_until needed decide c.loop-lock.lock-index held in
    let lock : StripeLock = get_or c.args.locks.now c.loop-lock.lock-index none in
    subst (λ (hs : List HeldRows). OfHeld hs lock.0 (λ (f : FragmentRows). f.now ≡ f.taken)) (sym (ap (λ (p : PassSeen). p.held) c.loop-lock.invariant.at))
    (unchanged_at needed lock.0 held kept c.requires.unchanged (until_inside needed decide c.loop-lock.lock-index held)
    (λ need. false≢true (sym c.if-not-is_needed.true ∙ c.is_needed.ensures.1 need)))

pub loop-lock-preserved : goal.loop-lock-preserved
loop-lock-preserved g c =
    let needed = IsNeeded (compiled_of c.args.self.now.row) (steps_in c.args.prepared.now) c.args.took.now in
    let decide = decide_needed (compiled_of c.args.self.now.row) (steps_in c.args.prepared.now) c.args.took.now in
    let first = c.args.pass.now in
    let n = c.loop-lock.lock-index in
    let lock : StripeLock = get_or c.args.locks.now n none in
    let is = at_lock g (goal.at.loop-lock-preserved g c).After-is_needed in
    let stripe : lock.0 ≡ is.row.stripe = ap (λ (l : StripeLock). l.0) is.lock_is in
    let next : kept_until needed decide (suc n) first.held ≡ kept_until needed decide (n + 1) first.held = ap (λ (m : ℕ). kept_until needed decide m first.held) (sym (add-one n)) in
    elim c.if-not-is_needed.branch [
      | then-not-is_needed w ↦
          record {
            of_row =
                subst (λ (p : PassSeen). IsPassOf c.args.self.now.row p) (sym w.pass-is)
                (subst (λ (s : StoreSeen). IsPassOf s.row w.release_unchanged.new.pass) c.self.view_is w.release_unchanged.ensures.pass);
            at =
                w.pass-is ∙ w.release_unchanged.ensures.value
                ∙ ap (λ (p : PassSeen). without_stripe lock.0 p) c.loop-lock.invariant.at
                ∙ without_holding lock.0 (kept_until needed decide n first.held) first
                ∙ ap (λ (p : ℕ). holding (held_without (kept_until needed decide n first.held) p) first) stripe
                ∙ ap (λ (hs : List HeldRows). holding hs first) (is.goes (λ need. false≢true (sym w.if-not-is_needed.true ∙ c.is_needed.ensures.1 (subst needed (sym stripe) need))) ∙ next);
          }
      | else-not-is_needed w ↦
          record {
            of_row = subst (λ (p : PassSeen). IsPassOf c.args.self.now.row p) (sym w.pass-is) c.loop-lock.invariant.of_row;
            at =
                w.pass-is ∙ c.loop-lock.invariant.at
                ∙ ap (λ (hs : List HeldRows). holding hs first) (sym (is.stays (subst needed stripe (c.is_needed.ensures.0 w.if-not-is_needed.false))) ∙ next);
          }
    ]

pub returns-clause-kept : goal.returns-clause-kept
returns-clause-kept g c =
    let needed = IsNeeded (compiled_of c.args.self.now.row) (steps_in c.args.prepared.now) c.args.took.now in
    let decide = decide_needed (compiled_of c.args.self.now.row) (steps_in c.args.prepared.now) c.args.took.now in
    let held = c.args.pass.now.held in
    let all : length held ≤ c.loop-lock.lock-index =
    subst (λ (m : ℕ). m ≤ c.loop-lock.lock-index) (ap (λ (l : List StripeLock). length l) (sym c.requires.locks) ∙ as_many_locks held) c.loop-lock-test.false in
    record {
      kept = kept_until needed decide c.loop-lock.lock-index held;
      keeps = until_keeps needed decide c.loop-lock.lock-index held all (rising g (goal.at.returns-clause-kept g c).After-held_agrees);
      is = c.loop-lock.invariant.at;
    }
