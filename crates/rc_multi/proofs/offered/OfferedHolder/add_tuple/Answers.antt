use Rattle.rc_multi.proofs.Imports.{on_err_weaker, on_ok_weaker, Holding, held_of, IsChangedAt, raised_all, class_rows, changes_of_class, offering, exclusive_there, raise_there, room_there, told_change, told_partly, changed_lend, changed_offer, either_changed, is_held}
use Rattle.std.proofs.Common.{ap, ◌∙◌}
use Rattle.rc_multi.proofs.offered.OfferedHolder.add_tuple.Goals as goal

pub add_tuple-requires-clause-exclusive : goal.add_tuple-requires-clause-exclusive
add_tuple-requires-clause-exclusive g c =
    let o = c.args.self.now in
    exclusive_there (held_of (g.H.Holder.seen o.begun.now.value)) (g.H.Holder.seen o.holder.now) o.taken.now.items o.holder.ghost_name o.kept c.args.stripe c.requires.exclusive

pub add_tuple-requires-clause-owned : goal.add_tuple-requires-clause-owned
add_tuple-requires-clause-owned g c =
    let o = c.args.self.now in
    room_there (held_of (g.H.Holder.seen o.begun.now.value)) (g.H.Holder.seen o.holder.now) o.taken.now.items o.holder.ghost_name c.args.stripe c.args.class (is_held _ c.args.stripe c.requires.exclusive) c.requires.owned

pub add_tuple-requires-clause-can : goal.add_tuple-requires-clause-can
add_tuple-requires-clause-can g c =
    let o = c.args.self.now in
    raise_there (held_of (g.H.Holder.seen o.begun.now.value)) (g.H.Holder.seen o.holder.now) o.taken.now.items o.holder.ghost_name c.args.stripe c.args.class c.args.tuple.now (is_held _ c.args.stripe c.requires.exclusive) c.requires.can

pub invariant_of-self : goal.invariant_of-self
invariant_of-self g c =
    let o = c.args.self.now in
    let old : Holding = g.H.Holder.seen o.holder.now in
    let new : Holding = g.H.Holder.seen c.add_tuple.new.self in
    let class = c.args.class in
    let t = c.args.tuple.now in
    let changed : IsChangedAt c.args.stripe old new =
    either_changed c.add_tuple.result c.args.stripe class (changes_of_class old.table class) t (raised_all (class_rows old.table class t)) old new c.add_tuple.ensures.ok c.add_tuple.ensures.err in
    record {
      steady = changed_lend c.args.stripe (g.H.Holder.seen o.begun.now.value) old new o.steady changed;
      kept = changed_offer c.args.stripe (held_of (g.H.Holder.seen o.begun.now.value)) old new o.taken.now.items o.holder.ghost_name o.kept (is_held _ c.args.stripe c.requires.exclusive) changed;
    }

pub returns-clause-ok : goal.returns-clause-ok
returns-clause-ok g c =
    let o = c.args.self.now in
    let old : Holding = g.H.Holder.seen o.holder.now in
    let class = c.args.class in
    let t = c.args.tuple.now in
    on_ok_weaker c.add_tuple.result
    (λ e. ap (λ (s : Holding). offering (held_of (g.H.Holder.seen o.begun.now.value)) s o.taken.now.items o.holder.ghost_name) e
    ∙ told_change (held_of (g.H.Holder.seen o.begun.now.value)) old o.taken.now.items o.holder.ghost_name c.args.stripe (changes_of_class old.table class) (raised_all (class_rows old.table class t)))
    c.add_tuple.ensures.ok

pub returns-clause-err : goal.returns-clause-err
returns-clause-err g c =
    let o = c.args.self.now in
    on_err_weaker c.add_tuple.result
    (told_partly (held_of (g.H.Holder.seen o.begun.now.value)) (g.H.Holder.seen o.holder.now) o.taken.now.items o.holder.ghost_name (g.H.Holder.seen c.add_tuple.new.self) c.args.stripe c.args.class c.args.tuple.now)
    c.add_tuple.ensures.err
