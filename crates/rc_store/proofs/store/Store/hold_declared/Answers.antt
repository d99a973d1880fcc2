use Rattle.std.proofs.Common.{◌≡◌, List, ap, false, refl, subst, sym, ◌∙◌}
use Rattle.rc_store.proofs.Imports.{StripeLock, IsCompiled, SpecWithPlans, with_plans, group_locks, PassSeen, RowSeen, compiled_of, IsLockBusy, locks_inside, locks_rise, spare_on, rest_unchanged, HasHeldDeclared, declared_locks, IsStoppedBy, since_so, stopped_before, StoreSeen}
use Rattle.rc_store.proofs.store.Store.hold_declared.Given.{Over}
use Rattle.rc_store.proofs.store.Store.hold_declared.Goals.{After-deref}
use Rattle.rc_store.proofs.store.Store.hold_declared.Goals as goal

compiled_so : (g : Over) (c : After-deref g) → IsCompiled (compiled_of c.self.inside.row).spec (compiled_of c.self.inside.row).plans
compiled_so g c =
    subst (λ (x : SpecWithPlans). IsCompiled x.spec x.plans) (sym c.self.invariant.compiled) (record { sealed = c.accepted.ensures.sealed; planned = c.accepted.ensures.planned })

-- the list is that of what is declared
listed : (g : Over) (c : After-deref g) → c.group_locks.new.locks.items ≡ declared_locks c.self.inside.row c.args.declared.now
listed g c =
    c.in_ok-group_locks.ensures ∙ ap (λ (x : SpecWithPlans). group_locks x.spec (with_plans x.plans c.args.declared.now)) (sym c.self.invariant.compiled)

pub take_locks-requires-clause-rising : goal.take_locks-requires-clause-rising
take_locks-requires-clause-rising g c =
    let at = (goal.at.take_locks-requires-clause-rising g c).After-deref in
    locks_rise c.self.inside.row (compiled_so g at) c.args.declared.now c.deref.result.now (c.deref.ensures.value ∙ listed g at)

pub take_locks-requires-clause-inside : goal.take_locks-requires-clause-inside
take_locks-requires-clause-inside g c =
    let at = (goal.at.take_locks-requires-clause-inside g c).After-deref in
    locks_inside c.self.inside.row (compiled_so g at) c.args.declared.now c.deref.result.now (c.deref.ensures.value ∙ listed g at)

pub returns-in-Ok-clause-held : goal.returns-in-Ok-clause-held
returns-in-Ok-clause-held g c =
    let at = (goal.at.returns-in-Ok-clause-held g c).After-deref in
    let row = c.self.inside.row in
    let old = c.args.pass.now in
    let mid = c.reserve.new.self in
    let new = c.take_locks.new.pass in
    let taken = c.in-Ok.ensures.taken in
    subst (λ (r : RowSeen). HasHeldDeclared r c.args.declared.now old new c.group_locks.new.locks.items) (ap (λ (s : StoreSeen). s.row) c.self.view_is)
    (record {
      asked = listed g at;
      since = since_so false row old mid new new c.reserve.ensures.same taken.way;
      room = spare_on row mid new taken.way c.in_ok-reserve.ensures.ok;
      agrees = taken.way.agrees;
      one = taken.way.one;
      locks_are = taken.locks ∙ c.deref.ensures.value;
      rising = locks_rise row (compiled_so g at) c.args.declared.now c.group_locks.new.locks.items (listed g at);
      unchanged = rest_unchanged new.held taken.rest;
      unrefused = taken.unrefused.at_once refl ∙ ap (λ (q : PassSeen). q.standing.refusals) c.reserve.ensures.same.is;
    })

pub returns-in-Err-clause-cause : goal.returns-in-Err-clause-cause
returns-in-Err-clause-cause g c =
    let at = (goal.at.returns-in-Err-clause-cause g c).After-deref in
    let row = c.self.inside.row in
    let old = c.args.pass.now in
    let new = c.give_back.new.pass in
    subst (λ (r : RowSeen). IsStoppedBy false (IsLockBusy r (declared_locks r c.args.declared.now) old new) old new c.in-Err.stop) (ap (λ (s : StoreSeen). s.row) c.self.view_is)
    (subst (λ (l : List StripeLock). IsStoppedBy false (IsLockBusy row l old new) old new c.in-Err.stop) (c.deref.ensures.value ∙ listed g at)
    (stopped_before false row old c.reserve.new.self c.take_locks.new.pass new c.reserve.ensures.same c.take_locks.ensures.way c.deref.result.now c.in-Err.stop c.give_back.ensures.value
    c.in-Err.ensures.stopped))
