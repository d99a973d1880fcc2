use Rattle.std.proofs.Common.{◌≡◌, ◌<◌, Err, subst, sym, ap, ◌∙◌}
use Rattle.rc_machine.proofs.Imports.{nat_cmp, In, IsRising, gather, in_gather, rising_gather, nat_order, stripes_locked, HasRefusedOne}
use Rattle.rc_machine.proofs.LentLemmas.{counted_same}
use Rattle.rc_machine.proofs.LockLemmas.{counted_stopped, held_stop, locked_known}
use Rattle.rc_machine.proofs.lock.lock.Given.{Over}
use Rattle.rc_machine.proofs.lock.lock.Goals.{After-deref}
use Rattle.rc_machine.proofs.lock.lock.Goals as goal

-- the stripes taken are those that the Lock names
are : (g : Over) (c : After-deref g) → c.deref.result.now ≡ gather nat_cmp (stripes_locked c.args.compiled.now.spec c.args.class c.args.which c.args.bindings.now.tuples)
are g c = c.deref.ensures.value ∙ c.sort.ensures ∙ ap (gather nat_cmp) c.in_ok-name_stripes.ensures

named : (g : Over) (c : After-deref g) (s : _) → In s c.deref.result.now → In s (stripes_locked c.args.compiled.now.spec c.args.class c.args.which c.args.bindings.now.tuples)
named g c s m = in_gather nat_cmp nat_order s (stripes_locked c.args.compiled.now.spec c.args.class c.args.which c.args.bindings.now.tuples) (subst (In s) (are g c) m)

pub take_all-requires-clause-known : goal.take_all-requires-clause-known
take_all-requires-clause-known g c s m =
    subst (λ z. s < z) (sym c.requires.total) (locked_known c.args.compiled.now.spec c.requires.sealed.accepted.placed c.args.class c.args.which c.args.bindings.now.tuples c.requires.known s (named g c s m))

pub take_all-requires-clause-rising : goal.take_all-requires-clause-rising
take_all-requires-clause-rising g c = subst (IsRising nat_cmp) (sym (are g c)) (rising_gather nat_cmp nat_order (stripes_locked c.args.compiled.now.spec c.args.class c.args.which c.args.bindings.now.tuples))

pub take_all-requires-clause-lent : goal.take_all-requires-clause-lent
take_all-requires-clause-lent g c s m = c.requires.lent s (named g c s m)

pub take_all-requires-clause-above : goal.take_all-requires-clause-above
take_all-requires-clause-above g c s m = c.requires.above s (named g c s m)

pub returns-in_err-take_all-clause-refused : goal.returns-in_err-take_all-clause-refused
returns-in_err-take_all-clause-refused g c h e =
    let given = c.from_residual-in_err-take_all.ensures.1 in
    let is = rw e at given in
    subst (λ z. HasRefusedOne (g.H.Holder.seen c.args.holder.now) (g.H.Holder.seen c.take_all.new.holder) z c.args.mode h) (are g (goal.at.returns-in_err-take_all-clause-refused g c).After-deref)
    (c.in_err-take_all.ensures.refused h (ap Err (held_stop c.in_err-take_all.field-0.0 h is)))

pub returns-in_err-name_stripes-clause-counted : goal.returns-in_err-name_stripes-clause-counted
returns-in_err-name_stripes-clause-counted g c spec h = counted_same _ _

pub returns-in_err-take_all-clause-counted : goal.returns-in_err-take_all-clause-counted
returns-in_err-take_all-clause-counted g c spec h =
    counted_stopped c.from_residual-in_err-take_all.result c.in_err-take_all.field-0.0 (g.H.Holder.seen c.args.holder.now) (g.H.Holder.seen c.take_all.new.holder)
    c.from_residual-in_err-take_all.ensures.0 c.from_residual-in_err-take_all.ensures.1 (c.in_err-take_all.ensures.counted spec h)
