use Rattle.rc_multi.proofs.Imports.{on_ok_weaker, Holding, held_of, with_room_at, offering, exclusive_there, room_offered, told_room, may_offer, may_lend}
use Rattle.std.proofs.Common.{ap, refl, ◌∙◌}
use Rattle.rc_multi.proofs.offered.OfferedHolder.own.Goals as goal

pub own-requires : goal.own-requires
own-requires g c =
    let o = c.args.self.now in
    exclusive_there (held_of (g.H.Holder.seen o.begun.now.value)) (g.H.Holder.seen o.holder.now) o.taken.now.items o.holder.ghost_name o.kept c.args.stripe c.requires

pub invariant_of-self : goal.invariant_of-self
invariant_of-self g c =
    let o = c.args.self.now in
    record {
      steady = may_lend c.own.result (g.H.Holder.seen o.begun.now.value) (g.H.Holder.seen o.holder.now) (with_room_at c.args.stripe c.args.changes (g.H.Holder.seen o.holder.now)) (g.H.Holder.seen c.own.new.self) o.steady refl c.own.ensures.ok c.own.ensures.err;
      kept =
          may_offer c.own.result (held_of (g.H.Holder.seen o.begun.now.value)) (g.H.Holder.seen o.holder.now)
          (with_room_at c.args.stripe c.args.changes (g.H.Holder.seen o.holder.now)) (g.H.Holder.seen c.own.new.self) o.taken.now.items o.kept
          (room_offered (held_of (g.H.Holder.seen o.begun.now.value)) (g.H.Holder.seen o.holder.now) o.taken.now.items c.args.stripe c.args.changes o.kept)
          c.own.ensures.ok c.own.ensures.err;
    }

pub returns-clause-ok : goal.returns-clause-ok
returns-clause-ok g c =
    let o = c.args.self.now in
    on_ok_weaker c.own.result
    (λ e. ap (λ (s : Holding). offering (held_of (g.H.Holder.seen o.begun.now.value)) s o.taken.now.items o.holder.ghost_name) e
    ∙ told_room (held_of (g.H.Holder.seen o.begun.now.value)) (g.H.Holder.seen o.holder.now) o.taken.now.items o.holder.ghost_name c.args.stripe c.args.changes)
    c.own.ensures.ok
