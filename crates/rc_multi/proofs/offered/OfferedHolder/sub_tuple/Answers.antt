use Rattle.std.proofs.Common.{ap, ◌∙◌}
use Rattle.rc_multi.proofs.Imports.{Holding, held_of, IsChangedAt, lowered_all, class_rows, changes_of_class, offering, exclusive_there, lower_there, room_there, told_change, changed_lend, changed_offer, is_held}
use Rattle.rc_multi.proofs.offered.OfferedHolder.sub_tuple.Goals as goal

pub sub_tuple-requires-clause-exclusive : goal.sub_tuple-requires-clause-exclusive
sub_tuple-requires-clause-exclusive g c =
    let o = c.args.self.now in
    exclusive_there (held_of (g.H.Holder.seen o.begun.now.value)) (g.H.Holder.seen o.holder.now) o.taken.now.items o.holder.ghost_name o.kept c.args.stripe c.requires.exclusive

pub sub_tuple-requires-clause-owned : goal.sub_tuple-requires-clause-owned
sub_tuple-requires-clause-owned g c =
    let o = c.args.self.now in
    room_there (held_of (g.H.Holder.seen o.begun.now.value)) (g.H.Holder.seen o.holder.now) o.taken.now.items o.holder.ghost_name c.args.stripe c.args.class (is_held _ c.args.stripe c.requires.exclusive) c.requires.owned

pub sub_tuple-requires-clause-can : goal.sub_tuple-requires-clause-can
sub_tuple-requires-clause-can g c =
    let o = c.args.self.now in
    lower_there (held_of (g.H.Holder.seen o.begun.now.value)) (g.H.Holder.seen o.holder.now) o.taken.now.items o.holder.ghost_name c.args.stripe c.args.class c.args.tuple.now (is_held _ c.args.stripe c.requires.exclusive) c.requires.can

pub invariant_of-self : goal.invariant_of-self
invariant_of-self g c =
    let o = c.args.self.now in
    let old : Holding = g.H.Holder.seen o.holder.now in
    let new : Holding = g.H.Holder.seen c.sub_tuple.new.self in
    let class = c.args.class in
    let t = c.args.tuple.now in
    let changed : IsChangedAt c.args.stripe old new = (changes_of_class old.table class, lowered_all (class_rows old.table class t), c.sub_tuple.ensures.value) in
    record {
      steady = changed_lend c.args.stripe (g.H.Holder.seen o.begun.now.value) old new o.steady changed;
      kept = changed_offer c.args.stripe (held_of (g.H.Holder.seen o.begun.now.value)) old new o.taken.now.items o.holder.ghost_name o.kept (is_held _ c.args.stripe c.requires.exclusive) changed;
    }

pub returns-clause-value : goal.returns-clause-value
returns-clause-value g c =
    let o = c.args.self.now in
    let old : Holding = g.H.Holder.seen o.holder.now in
    let class = c.args.class in
    let t = c.args.tuple.now in
    ap (λ (s : Holding). offering (held_of (g.H.Holder.seen o.begun.now.value)) s o.taken.now.items o.holder.ghost_name) c.sub_tuple.ensures.value
    ∙ told_change (held_of (g.H.Holder.seen o.begun.now.value)) old o.taken.now.items o.holder.ghost_name c.args.stripe (changes_of_class old.table class) (lowered_all (class_rows old.table class t))
