use Rattle.std.proofs.Common.{ℕ, ◌<◌, get_or, length, arith}
use Rattle.rc_multi.proofs.Imports.{get_or_default, map_over_more, Shared, StripeLock}
use Rattle.rc_multi.proofs.locks.set_mode.Goals as goal

pub loop-lock-preserved : goal.loop-lock-preserved
loop-lock-preserved c =
    let none : StripeLock = (0, Shared) in
    let i : ℕ = c.loop-lock.lock-index in
    let here : StripeLock = get_or c.loop-lock.locks i none in
    let within : i < length c.args.locks.now = c.loop-lock-test.true in
    let there : i < length c.loop-lock.locks = (let same = c.loop-lock.auto.locks in omega (arith, within, same)) in
    map_over_more (λ (x : StripeLock). let l : StripeLock = (x.0, c.args.mode) in l) c.args.locks.now c.loop-lock.locks i here within c.loop-lock.invariant
    (get_or_default c.loop-lock.locks i none here there)
