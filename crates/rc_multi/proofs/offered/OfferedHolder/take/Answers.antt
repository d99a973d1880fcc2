use Rattle.rc_multi.proofs.Imports.{List, is_ok, sym, subst, StripeLock, HasTaken, held_of, offering, may_take, pushed}
use Rattle.rc_multi.proofs.offered.OfferedHolder.take.Goals as goal

pub invariant_of-self : goal.invariant_of-self
invariant_of-self g c =
    let o = c.args.self.now in
    record {
      steady = o.steady;
      kept =
          pushed (held_of (g.H.Holder.seen o.begun.now.value)) (g.H.Holder.seen o.holder.now) o.taken.now.items o.holder.ghost_name o.kept c.args.stripe c.args.mode
          c.requires.lent c.requires.above (is_ok c.push.result) c.push.new.self.items c.push.ensures.items;
    }

pub returns-in-Ok-clause-ok : goal.returns-in-Ok-clause-ok
returns-in-Ok-clause-ok g c =
    let o = c.args.self.now in
    subst (λ (new : List StripeLock). HasTaken (offering (held_of (g.H.Holder.seen o.begun.now.value)) (g.H.Holder.seen o.holder.now) o.taken.now.items o.holder.ghost_name)
    (offering (held_of (g.H.Holder.seen o.begun.now.value)) (g.H.Holder.seen o.holder.now) new o.holder.ghost_name) c.args.stripe c.args.mode)
    (sym c.in-Ok.ensures.items)
    (may_take (held_of (g.H.Holder.seen o.begun.now.value)) (g.H.Holder.seen o.holder.now) o.taken.now.items o.holder.ghost_name o.kept c.args.stripe c.args.mode
    c.requires.lent c.requires.above)
