use Rattle.std.proofs.Common.{◌≡◌, ◌<◌, ◌≤◌, if◌then◌else◌, Some, None, ◌+◌, ◌∷◌, ◌++◌, [], Err, drop, filter, get_or, length, subst, sym, ap, ◌∙◌, inl, refl}
use Rattle.rc_machine.proofs.Imports.{slice_get_within, In, project, BindingList, IsSealed, op_at, Conflict, Op, Spec, AreOfOneRelation, held_of, in_ranges, answer, some_differs, Statement, HasApplied, IsAt}
use Rattle.rc_machine.proofs.CheckStepLemmas.{probe_step, probe_within}
use Rattle.rc_machine.proofs.StripeLemmas.{all_below}
use Rattle.rc_machine.proofs.GoLemmas.{absent_goes, applied_replies, applied_told, at_is, can_apply, dep_goes, emit_replies, found_goes, lock_named, lock_refused, locked_told, still_taken, told_alike}
use Rattle.rc_machine.proofs.LentLemmas.{lent_goes_on}
use Rattle.rc_machine.proofs.LockLemmas.{counted_stop_on}
use Rattle.rc_machine.proofs.ReadStepLemmas.{are_good, are_readers, read_step}
use Rattle.rc_machine.proofs.StepLemmas.{lock_above, lock_step}
use Rattle.rc_machine.proofs.step.step.Given.{Over}
use Rattle.rc_machine.proofs.step.step.Goals.{After-spec-spec, In_ok-apply-in-Apply, Start}
use Rattle.rc_machine.proofs.step.step.Goals as goal

-- the statement is the first of those that are left
starts : (g : Over) (c : Start g) (d x : Statement) → get_or c.args.plan.now c.args.at d ≡ x
    → IsAt c.args.compiled.now.spec c.args.plan.now c.args.call.now (x ∷ drop (c.args.at + 1) c.args.plan.now) c.args.space.now.bindings.tuples c.args.space.now.old_tuple (held_of (g.H.Holder.seen c.args.holder.now))
starts g c d x is = at_is c.args.compiled.now.spec c.args.plan.now c.args.call.now c.args.at d x c.args.space.now.bindings.tuples c.args.space.now.old_tuple (held_of (g.H.Holder.seen c.args.holder.now)) c.requires.there is c.requires.run

-- what is held, as taken, is of one relation
one : (g : Over) (c : Start g) → AreOfOneRelation c.args.compiled.now.spec (held_of (g.H.Holder.seen c.args.holder.now))
one g c = g.met.H.Holder.sound_rows c.args.holder.now c.args.compiled.now.spec c.requires.sound

-- the specification is that of what is compiled
spec_is : (g : Over) (c : After-spec-spec g) → c.spec-spec.result.now ≡ c.args.compiled.now.spec
spec_is g c = c.spec-spec.ensures.value ∙ c.accepted.ensures.value

-- the operation is one of the specification's
known_op : (g : Over) (c : After-spec-spec g) → c.args.call.now.op < length c.spec-spec.result.now.ops
known_op g c =
    subst (λ (s : Spec). c.args.call.now.op < length s.ops) (sym (spec_is g c)) (slice_get_within c.args.compiled.now.spec.ops c.args.call.now.op c.requires.fits.0 c.requires.fits.1.known)

-- what it does is what the specification says
kind_is : (g : Over) (c : After-spec-spec g) (op : Op) → op ≡ op_at c.spec-spec.result.now c.args.call.now.op → (op_at c.args.compiled.now.spec c.args.call.now.op).kind ≡ op.kind
kind_is g c op is = ap (λ (s : Spec). (op_at s c.args.call.now.op).kind) (sym (spec_is g c)) ∙ ap (λ (z : Op). z.kind) (sym is)

-- ---- Lock

pub lock-requires-clause-known : goal.lock-requires-clause-known
lock-requires-clause-known g c = (starts g (goal.at.lock-requires-clause-known g c).Start _ _ c.in-Lock.is).known _ (inl refl)

pub lock-requires-clause-lent : goal.lock-requires-clause-lent
lock-requires-clause-lent g c s m =
    let start = (goal.at.lock-requires-clause-lent g c).Start in
    c.requires.lent (s, c.in-Lock.mode)
    (lock_named c.args.compiled.now.spec c.requires.sealed c.args.plan.now c.args.call.now c.requires.fits c.requires.planned _ _ _ _ _ _ _ (starts g start _ _ c.in-Lock.is) (one g start) s m)

pub lock-requires-clause-above : goal.lock-requires-clause-above
lock-requires-clause-above g c s m =
    lock_above c.args.compiled.now.spec c.requires.sealed c.args.plan.now c.args.call.now _ _ _ _ _ _ _ (starts g (goal.at.lock-requires-clause-above g c).Start _ _ c.in-Lock.is) s
    m

pub returns-in_err-lock-in-Lock-clause-taken : goal.returns-in_err-lock-in-Lock-clause-taken
returns-in_err-lock-in-Lock-clause-taken g c =
    locked_told (g.H.Holder.seen c.args.holder.now) (g.H.Holder.seen c.lock.new.holder) _ c.in-Lock.mode c.in_err-lock-in-Lock.ensures.some.1 c.in_err-lock-in-Lock.ensures.goes_on c.requires.taken

pub returns-in_err-lock-in-Lock-clause-stopped : goal.returns-in_err-lock-in-Lock-clause-stopped
returns-in_err-lock-in-Lock-clause-stopped g c h e = still_taken _ _ _ _ _ c.in_err-lock-in-Lock.ensures.some.1 c.requires.run.unchanged

pub returns-in_err-lock-in-Lock-clause-refused : goal.returns-in_err-lock-in-Lock-clause-refused
returns-in_err-lock-in-Lock-clause-refused g c h e =
    let given = c.from_residual.ensures.1 in
    let is = rw e at given in
    let old = g.H.Holder.seen c.args.holder.now in
    let new = g.H.Holder.seen c.lock.new.holder in
    let n = c.in_err-lock-in-Lock.ensures.some.0 in
    lock_refused c.args.compiled.now.spec c.args.plan.now c.args.call.now _ _ _ _ _ _ old new n (starts g (goal.at.returns-in_err-lock-in-Lock-clause-refused g c).Start _ _ c.in-Lock.is)
    c.in_err-lock-in-Lock.ensures.some.1
    (g.met.H.Holder.sound_rows c.lock.new.holder c.args.compiled.now.spec (c.in_err-lock-in-Lock.ensures.sound c.args.compiled.now.spec c.requires.sound)) h
    (c.in_err-lock-in-Lock.ensures.refused h (ap Err (sym is)))

pub returns-in_err-lock-in-Lock-clause-counted : goal.returns-in_err-lock-in-Lock-clause-counted
returns-in_err-lock-in-Lock-clause-counted g c =
    counted_stop_on c.from_residual.result c.in_err-lock-in-Lock.field-0.0 (g.H.Holder.seen c.args.holder.now) (g.H.Holder.seen c.lock.new.holder)
    c.from_residual.ensures.0 c.from_residual.ensures.1 (c.in_err-lock-in-Lock.ensures.counted c.args.compiled.now.spec c.requires.sound)

pub returns-in_ok-lock-in-Lock-clause-counted : goal.returns-in_ok-lock-in-Lock-clause-counted
returns-in_ok-lock-in-Lock-clause-counted g c = c.in_ok-lock-in-Lock.ensures.counted c.args.compiled.now.spec c.requires.sound

pub returns-in_ok-lock-in-Lock-clause-taken : goal.returns-in_ok-lock-in-Lock-clause-taken
returns-in_ok-lock-in-Lock-clause-taken g c =
    locked_told (g.H.Holder.seen c.args.holder.now) (g.H.Holder.seen c.lock.new.holder) _ c.in-Lock.mode c.in_ok-lock-in-Lock.ensures.ok c.in_ok-lock-in-Lock.ensures.goes_on c.requires.taken

pub returns-in_ok-lock-in-Lock-clause-run : goal.returns-in_ok-lock-in-Lock-clause-run
returns-in_ok-lock-in-Lock-clause-run g c =
    lock_step c.args.compiled.now.spec c.requires.sealed c.args.plan.now c.args.call.now _ _ _ _ _ _ _ (starts g (goal.at.returns-in_ok-lock-in-Lock-clause-run g c).Start _ _ c.in-Lock.is) _ _
    c.in_ok-lock-in-Lock.ensures.ok

-- ---- Probe and Read

pub begin-requires : goal.begin-requires
begin-requires g c n m =
    subst (λ w. n < w) (sym c.requires.wide.bindings) (all_below c.args.compiled.now.spec n ((starts g (goal.at.begin-requires g c).Start _ _ c.in-Probe.is).known _ (inl refl) n m))

pub push_projection-requires : goal.push_projection-requires
push_projection-requires g c n m =
    probe_within c.args.compiled.now.spec c.requires.sealed c.args.plan.now c.args.call.now c.requires.fits _ _ _ _ _ (starts g (goal.at.push_projection-requires g c).Start _ _ c.in-Probe.is) n
    (subst (λ (z : BindingList). In n z.columns) c.begin.ensures m)

pub returns-in_ok-push_projection-in-Probe-clause-run : goal.returns-in_ok-push_projection-in-Probe-clause-run
returns-in_ok-push_projection-in-Probe-clause-run g c =
    subst (λ z. IsAt c.args.compiled.now.spec c.args.plan.now c.args.call.now (drop (c.args.at + 1) c.args.plan.now) z c.args.space.now.old_tuple (held_of (g.H.Holder.seen c.args.holder.now)))
    (sym (ap (λ (z : BindingList). z.tuples) c.in_ok-push_projection-in-Probe.ensures.ok ∙ ap (λ (z : BindingList). z.tuples ++ project z.columns c.args.call.now.args ∷ []) c.begin.ensures))
    (probe_step c.args.compiled.now.spec c.requires.sealed c.args.plan.now c.args.call.now c.requires.fits _ _ _ _ _ (starts g (goal.at.returns-in_ok-push_projection-in-Probe-clause-run g c).Start _ _ c.in-Probe.is))

pub returns-in_ok-push_projection-in-Probe-clause-wide : goal.returns-in_ok-push_projection-in-Probe-clause-wide
returns-in_ok-push_projection-in-Probe-clause-wide g c = record {
  bindings = ap (λ (z : BindingList). z.width) c.in_ok-push_projection-in-Probe.ensures.ok ∙ ap (λ (z : BindingList). z.width) c.begin.ensures ∙ c.requires.wide.bindings;
  found = c.requires.wide.found;
}

pub read-requires-clause-known : goal.read-requires-clause-known
read-requires-clause-known g c = (starts g (goal.at.read-requires-clause-known g c).Start _ _ c.in-Read.is).known _ (inl refl)

pub read-requires-clause-good : goal.read-requires-clause-good
read-requires-clause-good g c =
    let start = (goal.at.read-requires-clause-good g c).Start in
    are_good c.args.compiled.now.spec c.requires.sealed c.args.plan.now c.args.call.now _ _ _ _ _ _ (starts g start _ _ c.in-Read.is) (one g start).0 (one g start).1

pub read-requires-clause-readers : goal.read-requires-clause-readers
read-requires-clause-readers g c =
    let start = (goal.at.read-requires-clause-readers g c).Start in
    (are_readers c.args.compiled.now.spec c.requires.sealed c.args.plan.now c.args.call.now _ _ _ _ _ _ (starts g start _ _ c.in-Read.is) (one g start).0 (one g start).1)

pub returns-in_ok-read-in-Read-clause-run : goal.returns-in_ok-read-in-Read-clause-run
returns-in_ok-read-in-Read-clause-run g c =
    let start = (goal.at.returns-in_ok-read-in-Read-clause-run g c).Start in
    subst (λ z. IsAt c.args.compiled.now.spec c.args.plan.now c.args.call.now (drop (c.args.at + 1) c.args.plan.now) c.read.new.space.bindings.tuples z (held_of (g.H.Holder.seen c.args.holder.now))) (sym c.in_ok-read-in-Read.ensures.old)
    (read_step c.args.compiled.now.spec c.requires.sealed c.args.plan.now c.args.call.now _ _ _ _ _ _ (starts g start _ _ c.in-Read.is) c.read.new.space.bindings.tuples c.in_ok-read-in-Read.ensures.joined (one g start).0 (one g start).1)

-- ---- checks

pub returns-in-CheckAbsent-clause-run : goal.returns-in-CheckAbsent-clause-run
returns-in-CheckAbsent-clause-run g c =
    let start = (goal.at.returns-in-CheckAbsent-clause-run g c).Start in
    absent_goes c.args.compiled.now.spec c.requires.sealed c.args.plan.now c.args.call.now c.requires.fits c.requires.planned _ _ _ _ (one g start) (starts g start _ _ c.in-CheckAbsent.is) c.present.result
    c.present.ensures

pub returns-in_ok-found-in-CheckFound-clause-run : goal.returns-in_ok-found-in-CheckFound-clause-run
returns-in_ok-found-in-CheckFound-clause-run g c =
    let start = (goal.at.returns-in_ok-found-in-CheckFound-clause-run g c).Start in
    found_goes c.args.compiled.now.spec c.requires.sealed c.args.plan.now c.args.call.now c.requires.fits c.requires.planned _ _ _ _ (one g start) (starts g start _ _ c.in-CheckFound.is) c.found.new.old c.in_ok-found-in-CheckFound.field-0
    c.in_ok-found-in-CheckFound.ensures

pub conflict-requires-clause-some : goal.conflict-requires-clause-some
conflict-requires-clause-some g c = ((starts g (goal.at.conflict-requires-clause-some g c).Start _ _ c.in-CheckDep.is).known _ (inl refl)).0

pub conflict-requires-clause-known : goal.conflict-requires-clause-known
conflict-requires-clause-known g c =
    let at = goal.at.conflict-requires-clause-known g c in
    subst (λ (s : Spec). c.in-CheckDep.dep ≤ length s.deps) (sym (spec_is g at.After-spec-spec)) ((starts g at.Start _ _ c.in-CheckDep.is).known _ (inl refl)).1

pub conflict-requires-clause-sealed : goal.conflict-requires-clause-sealed
conflict-requires-clause-sealed g c = subst IsSealed (sym (spec_is g (goal.at.conflict-requires-clause-sealed g c).After-spec-spec)) c.requires.sealed

pub conflict-requires-clause-pattern : goal.conflict-requires-clause-pattern
conflict-requires-clause-pattern g c =
    (c.op-op.ensures.known (subst IsSealed (sym (spec_is g (goal.at.conflict-requires-clause-pattern g c).After-spec-spec)) c.requires.sealed).in_range).pattern

pub conflict-requires-clause-wide : goal.conflict-requires-clause-wide
conflict-requires-clause-wide g c = c.requires.wide.bindings ∙ ap (λ (s : Spec). length s.columns) (sym (spec_is g (goal.at.conflict-requires-clause-wide g c).After-spec-spec))

pub conflict-requires-clause-tuple : goal.conflict-requires-clause-tuple
conflict-requires-clause-tuple g c = c.requires.fits.1.tuple

pub returns-in-CheckDep-clause-run : goal.returns-in-CheckDep-clause-run
returns-in-CheckDep-clause-run g c =
    let at = goal.at.returns-in-CheckDep-clause-run g c in
    dep_goes c.args.compiled.now.spec c.requires.sealed c.args.plan.now c.args.call.now c.requires.fits c.requires.planned _ _ _ _ (one g at.Start) c.in-CheckDep.dep (starts g at.Start _ _ c.in-CheckDep.is) c.conflict.result
    (c.conflict.ensures ∙ ap (λ (s : Spec). if some_differs s c.op-op.result.now c.in-CheckDep.dep c.args.call.now.args c.args.space.now.bindings.tuples then Some (Conflict c.in-CheckDep.dep) else None) (spec_is g at.After-spec-spec)
    ∙ ap (λ (o : Op). if some_differs c.args.compiled.now.spec o c.in-CheckDep.dep c.args.call.now.args c.args.space.now.bindings.tuples then Some (Conflict c.in-CheckDep.dep) else None)
    (c.op-op.ensures.value ∙ ap (λ (s : Spec). op_at s c.args.call.now.op) (spec_is g at.After-spec-spec)))

pub op-op-requires : goal.op-op-requires
op-op-requires g c = known_op g (goal.at.op-op-requires g c).After-spec-spec

-- ---- Apply and Emit

pub op-requires : goal.op-requires
op-requires g c = known_op g (goal.at.op-requires g c).After-spec-spec

pub op-requires-in-Emit : goal.op-requires-in-Emit
op-requires-in-Emit g c = known_op g (goal.at.op-requires-in-Emit g c).After-spec-spec

pub apply-requires-clause-can : goal.apply-requires-clause-can
apply-requires-clause-can g c =
    let start = (goal.at.apply-requires-clause-can g c).Start in
    (can_apply c.args.compiled.now.spec c.requires.sealed c.args.plan.now c.args.call.now c.requires.fits c.requires.planned _ _ _ _ (one g start) (starts g start _ _ c.in-Apply.is) c.op.result.now.kind (kind_is g (goal.at.apply-requires-clause-can g c).After-spec-spec c.op.result.now c.op.ensures.value))

pub returns-in_err-apply-in-Apply-clause-taken : goal.returns-in_err-apply-in-Apply-clause-taken
returns-in_err-apply-in-Apply-clause-taken g c =
    let old = g.H.Holder.seen c.args.holder.now in
    let new = g.H.Holder.seen c.apply.new.holder in
    told_alike old new (lent_goes_on old new c.in_err-apply-in-Apply.ensures.lent) c.in_err-apply-in-Apply.ensures.alike c.requires.taken

-- what Apply did with the bindings
applied : (g : Over) (c : In_ok-apply-in-Apply g)
    → HasApplied c.args.compiled.now.spec c.op.result.now.kind c.args.call.now.args c.args.space.now.old_tuple c.args.space.now.bindings.tuples (held_of (g.H.Holder.seen c.args.holder.now)) (held_of (g.H.Holder.seen c.apply.new.holder)) c.in_ok-apply-in-Apply.field-0
applied g c =
    c.in_ok-apply-in-Apply.ensures.ok

pub returns-in_ok-apply-in-Apply-clause-run : goal.returns-in_ok-apply-in-Apply-clause-run
returns-in_ok-apply-in-Apply-clause-run g c =
    let start = (goal.at.returns-in_ok-apply-in-Apply-clause-run g c).Start in
    applied_replies c.args.compiled.now.spec c.requires.sealed c.args.plan.now c.args.call.now c.requires.fits c.requires.planned _ _ _ _ (starts g start _ _ c.in-Apply.is) (one g start) c.op.result.now.kind (kind_is g (goal.at.returns-in_ok-apply-in-Apply-clause-run g c).After-spec-spec c.op.result.now c.op.ensures.value)
    (held_of (g.H.Holder.seen c.apply.new.holder)) c.in_ok-apply-in-Apply.field-0 (applied g (goal.at.returns-in_ok-apply-in-Apply-clause-run g c).In_ok-apply-in-Apply)
    (g.met.H.Holder.sound_rows c.apply.new.holder c.args.compiled.now.spec (c.in_ok-apply-in-Apply.ensures.sound c.args.compiled.now.spec c.requires.sound))

pub returns-in_ok-apply-in-Apply-clause-taken : goal.returns-in_ok-apply-in-Apply-clause-taken
returns-in_ok-apply-in-Apply-clause-taken g c =
    let old = g.H.Holder.seen c.args.holder.now in
    let new = g.H.Holder.seen c.apply.new.holder in
    applied_told c.args.compiled.now.spec c.op.result.now.kind c.args.call.now.args c.args.space.now.old_tuple c.args.space.now.bindings.tuples old new c.in_ok-apply-in-Apply.field-0 (applied g (goal.at.returns-in_ok-apply-in-Apply-clause-taken g c).In_ok-apply-in-Apply)
    (lent_goes_on old new c.in_ok-apply-in-Apply.ensures.lent) c.requires.taken

pub returns-in_ok-reply-in-Emit-clause-run : goal.returns-in_ok-reply-in-Emit-clause-run
returns-in_ok-reply-in-Emit-clause-run g c =
    let start = (goal.at.returns-in_ok-reply-in-Emit-clause-run g c).Start in
    emit_replies c.args.compiled.now.spec c.requires.sealed c.args.plan.now c.args.call.now c.requires.fits c.requires.planned _ _ _ _ (one g start) (starts g start _ _ c.in-Emit.is) c.op-in-Emit.result.now.kind (kind_is g (goal.at.returns-in_ok-reply-in-Emit-clause-run g c).After-spec-spec c.op-in-Emit.result.now c.op-in-Emit.ensures.value)
    c.in_ok-reply-in-Emit.reply (λ outs cols is. c.in_ok-reply-in-Emit.ensures outs cols is ∙ ap (λ rs. answer c.spec-spec.result.now.most_rows outs (filter (in_ranges rs) c.args.space.now.bindings.tuples)) c.list-ranges.ensures.value
    ∙ ap (λ (s : Spec). answer s.most_rows outs (filter (in_ranges c.args.call.now.ranges) c.args.space.now.bindings.tuples)) (spec_is g (goal.at.returns-in_ok-reply-in-Emit-clause-run g c).After-spec-spec))
