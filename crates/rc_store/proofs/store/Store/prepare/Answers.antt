use Rattle.std.proofs.Common.{◌<◌, ◌^◌, [], ◌∷◌, ap, arith, length, subst, sym}
use Rattle.rc_store.proofs.Imports.{Fits, RowSeen, compiled_of, core_of, spec_of, IsPrepared, IsStoppedFor, as_before, cause_before, exact_so, few_so, prepared_so, ready_so, spare_so, HoldsExactly, StoreSeen, one_step}
use Rattle.rc_store.specs.StepLaws.{unrefused_so}
use Rattle.rc_store.proofs.store.Store.prepare.Given.{Over}
use Rattle.rc_store.proofs.store.Store.prepare.Goals.{In-Ok}
use Rattle.rc_store.proofs.store.Store.prepare.Goals as goal

-- the call fits on the row within, and the pass has few entries
fits : (g : Over) (c : In-Ok g) → Fits (spec_of c.self.inside.row) c.args.call.now
fits g c = subst (λ (r : RowSeen). Fits (spec_of r) c.args.call.now) (sym (ap (λ (s : StoreSeen). s.row) c.self.view_is)) c.requires.may.fits

few : (g : Over) (c : In-Ok g) → length (core_of c.args.pass.now).own < 2 ^ 48
few g c =
    let left = c.requires.left in
    let small = c.self.invariant.small in
    let same = ap (λ (s : StoreSeen). s.limit) c.self.view_is in
    omega (arith, left, small, same)

pub returns-in-Ok-clause-ok : goal.returns-in-Ok-clause-ok
returns-in-Ok-clause-ok g c =
    let at = (goal.at.returns-in-Ok-clause-ok g c).In-Ok in
    let row = c.self.inside.row in
    let reserved = c.reserve.new.self in
    let ran = c.run_call.new.pass in
    let reply = c.run_call.new.reply in
    let same = c.reserve.ensures.same in
    let way = c.run_call.ensures.run.way in
    subst (λ (r : RowSeen). IsPrepared r (one_step c.args.call.now reply) c.args.pass.now ran) (ap (λ (s : StoreSeen). s.row) c.self.view_is)
    (prepared_so g.T.Takes.waits row c.args.pass.now reserved ran ran same way (one_step c.args.call.now reply)
    (ready_so row c.args.call.now ran reply (fits g at) way.agrees way.one c.in-Ok.ensures.run.answered
    (few_so g.T.Takes.waits row c.args.pass.now reserved ran ran same way (few g at))
    (spare_so g.T.Takes.waits row c.args.pass.now reserved ran ran same way c.in_ok-reserve.ensures.ok)))

pub returns-in-Ok-clause-exact : goal.returns-in-Ok-clause-exact
returns-in-Ok-clause-exact g c =
    let at = (goal.at.returns-in-Ok-clause-exact g c).In-Ok in
    let ran = c.run_call.new.pass in
    let reply = c.run_call.new.reply in
    let way = c.run_call.ensures.run.way in
    subst (λ (r : RowSeen). HoldsExactly (compiled_of r) (core_of ran) (one_step c.args.call.now reply)) (ap (λ (s : StoreSeen). s.row) c.self.view_is)
    (exact_so c.self.inside.row c.args.call.now ran reply (fits g at) way.agrees way.one c.in-Ok.ensures.run.answered)

pub returns-in-Ok-clause-unrefused : goal.returns-in-Ok-clause-unrefused
returns-in-Ok-clause-unrefused g c =
    unrefused_so g.T.Takes.waits c.self.inside.row c.args.pass.now c.reserve.new.self c.run_call.new.pass c.run_call.new.pass
    c.reserve.ensures.same c.run_call.ensures.run.way c.in-Ok.ensures.run.unrefused

pub returns-in-Err-clause-err : goal.returns-in-Err-clause-err
returns-in-Err-clause-err g c =
    as_before g.T.Takes.waits c.self.inside.row c.args.pass.now c.reserve.new.self c.run_call.new.pass c.give_back.new.pass
    c.reserve.ensures.same c.run_call.ensures.run.way c.give_back.ensures.value c.requires.may.free.idle c.held_agrees.ensures

pub returns-in-Err-clause-cause : goal.returns-in-Err-clause-cause
returns-in-Err-clause-cause g c =
    subst
    (λ (r : RowSeen). IsStoppedFor g.T.Takes.waits r (c.args.call.now ∷ []) c.args.pass.now c.give_back.new.pass c.in-Err.stop)
    (ap (λ (s : StoreSeen). s.row) c.self.view_is)
    (cause_before g.T.Takes.waits c.self.inside.row c.args.pass.now c.reserve.new.self c.run_call.new.pass c.give_back.new.pass
    c.reserve.ensures.same c.run_call.ensures.run.way (c.args.call.now ∷ []) c.in-Err.stop c.give_back.ensures.value
    c.in-Err.ensures.run.stopped)
