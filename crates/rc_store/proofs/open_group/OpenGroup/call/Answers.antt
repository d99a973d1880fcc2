use Rattle.std.proofs.Common.{◌≡◌, ◌<◌, List, ap, arith, length, refl, subst, sym, ◌∙◌}
use Rattle.rc_store.proofs.Imports.{false≢true, StripeLock, Covers, PassSeen, compiled_of, called_back, called_on, covers_on, now_on, rises_on, HasCalledOn, IsOpenOn, OpenGroupSeen, open_group, open_group_seen, steps_in, IsAsBefore}
use Rattle.rc_store.proofs.open_group.OpenGroup.call.Given.{Over}
use Rattle.rc_store.proofs.open_group.OpenGroup.call.Goals.{After-call_on, After-covers}
use Rattle.rc_store.proofs.open_group.OpenGroup.call.Goals as goal

-- it is open as it is within
open_within : (g : Over) (c : After-covers g) → IsOpenOn c.args.store.now (open_group_seen c.self.inside)
open_within g c = subst (λ (o : OpenGroupSeen). IsOpenOn c.args.store.now o) (sym c.self.view_is) c.requires.open

few : (g : Over) (c : After-covers g) → length (open_group_seen c.self.inside).steps < 16
few g c =
    let count = c.count.ensures in
    let other = c.if-count-eq-MOST_CALLS.false in
    let most = (open_within g c).few in
    omega (arith, count, other, most)

pub returns-then-not-covers-clause-back : goal.returns-then-not-covers-clause-back
returns-then-not-covers-clause-back g c =
    let at = (goal.at.returns-then-not-covers-clause-back g c).After-covers in (
      refl,
      subst (λ (o : OpenGroupSeen). length o.steps < 16) c.self.view_is (few g at),
      (λ covers. false≢true (sym c.if-not-covers.true ∙ c.covers.ensures.1
          (subst (λ (l : List StripeLock). Covers (compiled_of c.args.store.now.row) c.args.call.now l) (sym (c.deref.ensures.value ∙ ap (λ (o : OpenGroupSeen). o.locks) c.self.view_is)) covers))),
    )

pub call_on-requires-clause-covered : goal.call_on-requires-clause-covered
call_on-requires-clause-covered g c =
    let at = (goal.at.call_on-requires-clause-covered g c).After-covers in
    covers_on c.args.store.now (open_group_seen c.self.inside) (open_within g at) c.args.call.now
    (subst (λ (l : List StripeLock). Covers (compiled_of c.args.store.now.row) c.args.call.now l) c.deref.ensures.value (c.covers.ensures.0 c.if-not-covers.false))

pub call_on-requires-clause-rising : goal.call_on-requires-clause-rising
call_on-requires-clause-rising g c =
    rises_on c.args.store.now (open_group_seen c.self.inside) (open_within g (goal.at.call_on-requires-clause-rising g c).After-covers)

pub call_on-requires-clause-now : goal.call_on-requires-clause-now
call_on-requires-clause-now g c =
    let at = (goal.at.call_on-requires-clause-now g c).After-covers in
    now_on c.args.store.now (open_group_seen c.self.inside) (open_within g at) (few g at)

covers : (g : Over) (c : After-call_on g) → Covers (compiled_of c.args.store.now.row) c.args.call.now (open_group_seen c.self.inside).locks
covers g c =
    subst (λ (l : List StripeLock). Covers (compiled_of c.args.store.now.row) c.args.call.now l) c.deref.ensures.value (c.covers.ensures.0 c.if-not-covers.false)

pub returns-in-Ok-clause-made : goal.returns-in-Ok-clause-made
returns-in-Ok-clause-made g c =
    let at = goal.at.returns-in-Ok-clause-made g c in
    let new : OpenGroupSeen = open_group c.self.inside.begun.value c.call_on.new.pass c.self.inside.locks.items c.in-Ok.took.items (steps_in c.in-Ok.prepared) in
    subst (λ (o : OpenGroupSeen). HasCalledOn c.args.store.now c.args.call.now o new) c.self.view_is
    (called_on c.args.store.now (open_group_seen c.self.inside) (open_within g at.After-covers) new c.args.call.now c.requires.fits (covers g at.After-call_on) (few g at.After-covers)
    c.call_on.ensures.pass c.call_on.ensures.way (c.call_on.ensures.unrefused.at_once refl) refl refl c.in-Ok.ensures.ran)

pub returns-in-Err-clause-back : goal.returns-in-Err-clause-back
returns-in-Err-clause-back g c =
    let at = goal.at.returns-in-Err-clause-back g c in
    let back = called_back c.args.store.now (open_group_seen c.self.inside) (open_within g at.After-covers) c.call_on.new.pass c.give_back.new.pass c.call_on.ensures.way
    c.give_back.ensures.pass c.give_back.ensures.value in (
      back.0,
      subst (λ (o : OpenGroupSeen). IsAsBefore o.begun c.give_back.new.pass) c.self.view_is back.1,
      subst (λ (o : OpenGroupSeen). length o.steps < 16) c.self.view_is (few g at.After-covers),
      subst (λ (o : OpenGroupSeen). Covers (compiled_of c.args.store.now.row) c.args.call.now o.locks) c.self.view_is (covers g at.After-call_on),
      subst (λ (o : OpenGroupSeen). c.give_back.new.pass.standing.refusals ≡ o.pass.standing.refusals) c.self.view_is
          (ap (λ (p : PassSeen). p.standing.refusals) c.give_back.ensures.value ∙ c.call_on.ensures.unrefused.at_once refl),
    )
