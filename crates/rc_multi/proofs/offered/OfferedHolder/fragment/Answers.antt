use Rattle.rc_multi.proofs.Imports.{held_of, held_there, lent_there}
use Rattle.rc_multi.proofs.offered.OfferedHolder.fragment.Goals as goal

pub fragment-requires : goal.fragment-requires
fragment-requires g c =
    let o = c.args.self.now in
    held_there (held_of (g.H.Holder.seen o.begun.now.value)) (g.H.Holder.seen o.holder.now) o.taken.now.items o.holder.ghost_name c.args.stripe c.requires

pub returns : goal.returns
returns g c =
    let o = c.args.self.now in
    lent_there (held_of (g.H.Holder.seen o.begun.now.value)) (g.H.Holder.seen o.holder.now) o.taken.now.items o.holder.ghost_name c.args.stripe c.fragment.result.now c.fragment.ensures
