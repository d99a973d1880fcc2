use Rattle.rc_store.proofs.Imports.{List, sym, subst, IsCompiled, SpecWithPlans, StripeLock, Suffice, compiled_of, held_stripes, few_on, group_ready, held_rise, locks_inside, locks_rise, locks_suffice, spare_on}
use Rattle.rc_store.specs.LendingLaws.{none_refused_then}
use Rattle.rc_store.proofs.group_run.lock_and_run.Given.{Over}
use Rattle.rc_store.proofs.group_run.lock_and_run.Goals.{After-accepted}
use Rattle.rc_store.proofs.group_run.lock_and_run.Goals as goal

compiled_so : (g : Over) (c : After-accepted g) → IsCompiled (compiled_of c.args.row.now).spec (compiled_of c.args.row.now).plans
compiled_so g c =
    subst (λ (x : SpecWithPlans). IsCompiled x.spec x.plans) (sym c.requires.compiled) (record { sealed = c.accepted.ensures.sealed; planned = c.accepted.ensures.planned })

pub take_locks-requires-clause-rising : goal.take_locks-requires-clause-rising
take_locks-requires-clause-rising g c =
    locks_rise c.args.row.now (compiled_so g (goal.at.take_locks-requires-clause-rising g c).After-accepted) c.args.calls.now c.args.locks.now c.requires.locks

pub take_locks-requires-clause-inside : goal.take_locks-requires-clause-inside
take_locks-requires-clause-inside g c =
    locks_inside c.args.row.now (compiled_so g (goal.at.take_locks-requires-clause-inside g c).After-accepted) c.args.calls.now c.args.locks.now c.requires.locks

pub run_calls-requires-clause-suffice : goal.run_calls-requires-clause-suffice
run_calls-requires-clause-suffice g c =
    let ok = compiled_so g (goal.at.run_calls-requires-clause-suffice g c).After-accepted in
    let taken = c.in_ok-take_locks.ensures.taken in
    subst (λ (x : SpecWithPlans × List StripeLock). Suffice x.0 c.args.calls.now x.1) (λ i. (c.requires.compiled i, sym taken.locks i))
    (locks_suffice c.args.row.now ok c.args.calls.now c.args.locks.now c.requires.locks c.requires.fit)

pub run_calls-requires-clause-rising : goal.run_calls-requires-clause-rising
run_calls-requires-clause-rising g c =
    let ok = compiled_so g (goal.at.run_calls-requires-clause-rising g c).After-accepted in
    held_rise (held_stripes c.take_locks.new.pass.held) c.args.locks.now c.in_ok-take_locks.ensures.taken.locks
    (locks_rise c.args.row.now ok c.args.calls.now c.args.locks.now c.requires.locks)

pub returns-clause-ready : goal.returns-clause-ready
returns-clause-ready g c =
    let ok = compiled_so g (goal.at.returns-clause-ready g c).After-accepted in
    let row = c.args.row.now in
    let old = c.args.pass.now in
    let mid = c.take_locks.new.pass in
    let new = c.run_calls.new.pass in
    let taken = c.in_ok-take_locks.ensures.taken in
    let way = c.run_calls.ensures.way in
    group_ready row ok c.args.calls.now c.args.locks.now c.requires.locks c.requires.fit c.requires.several c.requires.few mid new c.in_ok-run_calls.field-0.items
    (few_on row mid new way (few_on row old mid taken.way c.requires.left)) (spare_on row mid new way (spare_on row old mid taken.way c.requires.room))
    way.agrees way.one taken.locks c.in_ok-run_calls.ensures.ran

pub returns-clause-unrefused : goal.returns-clause-unrefused
returns-clause-unrefused g c =
    none_refused_then g.T.Takes.waits c.args.pass.now c.take_locks.new.pass c.run_calls.new.pass c.in_ok-take_locks.ensures.taken.unrefused c.run_calls.ensures.unrefused
