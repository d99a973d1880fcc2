use Rattle.rc_store.proofs.Imports.{get_or, take, get_or_in, map_in, Shared, StripeLock, core_of, with_standing, KeepsOut, turned_away, some_of, busy_there, next_above}
use Rattle.std.proofs.Common.{◌≡◌, false}
use Rattle.rc_store.proofs.locking.take_locks.Goals as goal

pub take-requires-clause-stripe : goal.take-requires-clause-stripe
take-requires-clause-stripe g c =
    let none : StripeLock = (0, Shared) in
    let lock : StripeLock = get_or c.args.locks.now c.loop-lock.lock-index none in
    c.requires.inside lock.0 (map_in (λ (l : StripeLock). l.0) lock c.args.locks.now (get_or_in c.args.locks.now c.loop-lock.lock-index none c.loop-lock-test.true))

pub take-requires-clause-above : goal.take-requires-clause-above
take-requires-clause-above g c =
    next_above g.T.Takes.waits c.args.row.now c.args.pass.now c.loop-lock.pass c.args.locks.now c.loop-lock.lock-index (0, Shared) c.loop-lock.invariant.at c.requires.rising c.loop-lock-test.true

pub returns-in-Some-clause-stopped : goal.returns-in-Some-clause-stopped
returns-in-Some-clause-stopped g c =
    let none : StripeLock = (0, Shared) in
    let lock : StripeLock = get_or c.args.locks.now c.loop-lock.lock-index none in
    let old = c.loop-lock.pass in
    let refused =
    some_of c.in_ok-found.found c.in-Some.found (λ found. (g.T.Takes.waits ≡ false) × (c.take.new.pass ≡ with_standing (turned_away lock.1 old.standing lock.0 found) old)) c.in-Some.is c.in_ok-found.ensures.refused in
    let out = some_of c.in_ok-found.found c.in-Some.found (KeepsOut lock.1 c.args.row.now.key.passes (core_of old).number) c.in-Some.is c.in_ok-found.ensures.found in (
      refused.0,
      busy_there g.T.Takes.waits c.args.row.now c.args.pass.now old c.take.new.pass (take c.loop-lock.lock-index c.args.locks.now) c.loop-lock.invariant.at lock.1 lock.0
          c.args.locks.now c.in-Some.found refused.0 refused.1 out (get_or_in c.args.locks.now c.loop-lock.lock-index none c.loop-lock-test.true),
    )
