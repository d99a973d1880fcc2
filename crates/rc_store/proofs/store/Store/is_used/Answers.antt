use Rattle.std.proofs.Common.{◌≡◌, ◌<◌, ◌≤◌, ℕ, List, length, ap, refl, subst, sym, ◌∙◌}
use Rattle.rc_store.proofs.Imports.{false≢true, take_all, Call, SpecWithPlans, plan_at, IsOfClassLocked, HasOperation, IsUsedBy, compiled_of, call_known, calls_counted, call_in, none_used_more, calls_of, steps_in, StoreSeen}
use Rattle.rc_store.proofs.store.Store.is_used.Given.{Over}
use Rattle.rc_store.proofs.store.Store.is_used.Goals.{After-call}
use Rattle.rc_store.proofs.store.Store.is_used.Goals as goal

-- the plans are those of the row
same : (g : Over) (c : After-call g) → c.self.inside.compiled ≡ compiled_of c.args.self.now.row
same g c = sym c.self.invariant.compiled ∙ ap (λ (s : StoreSeen). compiled_of s.row) c.self.view_is

below : (g : Over) (c : After-call g) → c.loop-at.at < length (calls_of (steps_in c.args.prepared.now))
below g c =
    subst (λ (n : ℕ). c.loop-at.at < n) (c.count-at-end.ensures ∙ sym (calls_counted (steps_in c.args.prepared.now))) c.loop-at-test.true

pub uses-requires : goal.uses-requires
uses-requires g c =
    let at = (goal.at.uses-requires g c).After-call in
    subst (λ (x : SpecWithPlans). HasOperation x.spec c.call.result.now) (sym (same g at))
    (call_known c.args.self.now (steps_in c.args.prepared.now) c.loop-at.at c.call.result.now c.requires.fit
    (subst (λ (n : ℕ). c.loop-at.at < n) (calls_counted (steps_in c.args.prepared.now)) (below g at)) c.call.ensures)

pub returns-then-uses : goal.returns-then-uses
returns-then-uses g c =
    let at = (goal.at.returns-then-uses g c).After-call in
    let calls = calls_of (steps_in c.args.prepared.now) in (
      (λ t. (
        c.call.result.now,
        call_in calls c.loop-at.at c.call.result.now (below g at) c.call.ensures,
        subst (λ (x : SpecWithPlans). IsOfClassLocked x.spec (plan_at x.plans c.call.result.now.op) c.args.stripe) (same g at) (c.uses.ensures.0 c.if-uses.true),
      )),
      (λ h. refl),
    )

pub loop-at-preserved : goal.loop-at-preserved
loop-at-preserved g c =
    let at = (goal.at.loop-at-preserved g c).After-call in
    none_used_more (compiled_of c.args.self.now.row) (calls_of (steps_in c.args.prepared.now)) c.args.stripe c.loop-at.at c.call.result.now (below g at) c.call.ensures c.loop-at.invariant
    (λ u. false≢true (sym c.if-uses.false ∙ c.uses.ensures.1
    (subst (λ (x : SpecWithPlans). IsOfClassLocked x.spec (plan_at x.plans c.call.result.now.op) c.args.stripe) (sym (same g at)) u)))

pub returns : goal.returns
returns g c =
    let calls = calls_of (steps_in c.args.prepared.now) in
    let all : length calls ≤ c.loop-at.at = subst (λ (n : ℕ). n ≤ c.loop-at.at) (c.count-at-end.ensures ∙ sym (calls_counted (steps_in c.args.prepared.now))) c.loop-at-test.false in (
      (λ t. absurd (false≢true t)),
      (λ u. absurd (c.loop-at.invariant (subst (λ (cs : List Call). IsUsedBy (compiled_of c.args.self.now.row) cs c.args.stripe) (sym (take_all c.loop-at.at calls all)) u))),
    )
