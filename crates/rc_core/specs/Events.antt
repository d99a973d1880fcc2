-- The events: when each is allowed, and the state after it.
use Rattle.std.specs.Prelude.{◌≡◌, ◌≢◌, ℕ, ◌<◌, ◌≤◌, ◌⊎◌, true, false, List, [], ◌∷◌, ◌++◌, ◌==◌, not, filter, map, length, set, replicate, Some}
use Rattle.rc_core.specs.Imports.{range_with_len, nat_cmp, In, put, stripe_total, SpecWithPlans, Entry}
use Rattle.rc_core.specs.declared.state.PassState.{PassState}
use Rattle.rc_core.specs.declared.state.Keeper.{Keeper}
use Rattle.rc_core.specs.declared.state.Keeper.TheVariants.{Home, Writer}
use Rattle.rc_core.specs.declared.state.StripeState.{StripeState}
use Rattle.rc_core.specs.declared.state.CoreState.{CoreState}
use Rattle.rc_core.specs.declared.event.Event.{Event}
use Rattle.rc_core.specs.declared.event.Event.TheVariants as event
use Rattle.rc_core.specs.State.{has_writer, home_rows, stripe_at, no_stripe, writes_of, shares_of, fresh, pass_at}
use Rattle.rc_core.specs.Passes.{IsHigh, locked, blocked, counted_in, back, released, learned, committed, rows_of_hold, MayCommit}

-- the state with another pass k
abbrev pub with_pass : CoreState → List Entry → List StripeState → ℕ → PassState → CoreState
with_pass c history stripes k u = record { history = history; stripes = stripes; passes = set c.passes k u }

-- ---- stripes

abbrev pub with_keeper : StripeState → Keeper → StripeState
with_keeper s keeper = record s { keeper = keeper }

abbrev pub with_counted : StripeState → ℕ → StripeState
with_counted s k = record s { counted = put nat_cmp k s.counted }

abbrev pub without_counted : StripeState → ℕ → StripeState
without_counted s k = record s { counted = filter (λ j. not (j == k)) s.counted }

-- nobody writes it or is counted in
abbrev pub IsUnlocked : StripeState → Type 0
IsUnlocked s = (has_writer s.keeper ≡ false) × (s.counted ≡ [])

abbrev pub IsTaken : StripeState → Type 0
IsTaken s = (has_writer s.keeper ≡ true) ⊎ (s.counted ≢ [])

-- ---- events

-- the pass and the stripe are there
abbrev pub AreThere : CoreState → ℕ → ℕ → Type 0
AreThere c k p = (k < length c.passes) × (p < length c.stripes)

abbrev pub CanLock : CoreState → ℕ → ℕ → Type 0
CanLock c k p = AreThere c k p × IsHigh (pass_at c.passes k) p × IsUnlocked (stripe_at c.stripes p)

abbrev pub after_lock : CoreState → ℕ → ℕ → CoreState
after_lock c k p = with_pass c c.history (set c.stripes p (with_keeper (stripe_at c.stripes p) (Writer k))) k (locked (pass_at c.passes k) p (home_rows (stripe_at c.stripes p).keeper))

abbrev pub CanBlock : CoreState → ℕ → ℕ → Type 0
CanBlock c k p = AreThere c k p × IsHigh (pass_at c.passes k) p × IsTaken (stripe_at c.stripes p)

abbrev pub after_block : CoreState → ℕ → ℕ → CoreState
after_block c k p = with_pass c c.history c.stripes k (blocked (pass_at c.passes k) p)

abbrev pub CanShare : CoreState → ℕ → ℕ → Type 0
CanShare c k p = AreThere c k p × IsHigh (pass_at c.passes k) p

abbrev pub after_share : CoreState → ℕ → ℕ → CoreState
after_share c k p = with_pass c c.history (set c.stripes p (with_counted (stripe_at c.stripes p) k)) k (counted_in (stripe_at c.stripes p).keeper (pass_at c.passes k) p)

abbrev pub CanBack : CoreState → ℕ → ℕ → Type 0
CanBack c k p = AreThere c k p × ((pass_at c.passes k).turning ≡ Some p)

abbrev pub after_back : CoreState → ℕ → ℕ → CoreState
after_back c k p = with_pass c c.history (set c.stripes p (without_counted (stripe_at c.stripes p) k)) k (back (pass_at c.passes k))

abbrev pub CanLeave : CoreState → ℕ → ℕ → Type 0
CanLeave c k p = AreThere c k p × In p (shares_of (pass_at c.passes k))

abbrev pub after_leave : CoreState → ℕ → ℕ → CoreState
after_leave c k p = with_pass c c.history (set c.stripes p (without_counted (stripe_at c.stripes p) k)) k (released (pass_at c.passes k) p)

abbrev pub CanCommit : SpecWithPlans → CoreState → ℕ → Entry → Type 0
CanCommit compiled c k e = (k < length c.passes) × MayCommit compiled (pass_at c.passes k) e

abbrev pub after_commit : SpecWithPlans → CoreState → ℕ → Entry → CoreState
after_commit compiled c k e = with_pass c (c.history ++ e ∷ []) c.stripes k (committed compiled (pass_at c.passes k) (length c.history) e)

abbrev pub CanUnlock : CoreState → ℕ → ℕ → Type 0
CanUnlock c k p = AreThere c k p × In p (writes_of (pass_at c.passes k))

abbrev pub after_unlock : CoreState → ℕ → ℕ → CoreState
after_unlock c k p = with_pass c c.history (set c.stripes p (with_keeper (stripe_at c.stripes p) (Home (rows_of_hold (pass_at c.passes k).held p)))) k (released (pass_at c.passes k) p)

abbrev pub CanLearn : CoreState → ℕ → ℕ → Type 0
CanLearn c k n = (k < length c.passes) × (n ≤ length c.history)

abbrev pub after_learn : CoreState → ℕ → ℕ → CoreState
after_learn c k n = with_pass c c.history c.stripes k (learned (pass_at c.passes k) n)

abbrev pub IsAllowed : SpecWithPlans → CoreState → Event → Type 0
IsAllowed compiled c (event.Lock k p) = CanLock c k p
IsAllowed compiled c (event.Block k p) = CanBlock c k p
IsAllowed compiled c (event.Share k p) = CanShare c k p
IsAllowed compiled c (event.Back k p) = CanBack c k p
IsAllowed compiled c (event.Leave k p) = CanLeave c k p
IsAllowed compiled c (event.Commit k e) = CanCommit compiled c k e
IsAllowed compiled c (event.Unlock k p) = CanUnlock c k p
IsAllowed compiled c (event.Learn k n) = CanLearn c k n

abbrev pub after : SpecWithPlans → CoreState → Event → CoreState
after compiled c (event.Lock k p) = after_lock c k p
after compiled c (event.Block k p) = after_block c k p
after compiled c (event.Share k p) = after_share c k p
after compiled c (event.Back k p) = after_back c k p
after compiled c (event.Leave k p) = after_leave c k p
after compiled c (event.Commit k e) = after_commit compiled c k e
after compiled c (event.Unlock k p) = after_unlock c k p
after compiled c (event.Learn k n) = after_learn c k n

-- ---- many events

-- each is allowed in its turn
abbrev pub AreAllowed : SpecWithPlans → CoreState → List Event → Type 0
AreAllowed compiled c [] = Unit {0}
AreAllowed compiled c (x ∷ events) = IsAllowed compiled c x × AreAllowed compiled (after compiled c x) events

abbrev pub after_all : SpecWithPlans → CoreState → List Event → CoreState
after_all compiled c [] = c
after_all compiled c (x ∷ events) = after_all compiled (after compiled c x) events

-- nobody holds or wants anything, and nothing has happened
abbrev pub start : SpecWithPlans → ℕ → CoreState
start compiled passes = record {
  history = [];
  stripes = replicate (stripe_total compiled.spec) no_stripe;
  passes = map fresh (range_with_len 0 passes);
}
