use Rattle.std.proofs.Common.{◌<◌, length, sym, subst, arith}
use Rattle.rc_instance.proofs.Imports.{IsLent, holding}
use Rattle.rc_instance.proofs.ChangeLemmas as change
use Rattle.rc_instance.proofs.instance.InstanceHolder.fragment.Goals as goal

pub index-requires : goal.index-requires
index-requires c =
    let l : c.args.stripe < length c.self.inside.fragments.items = change.fragment_held c.self.inside.fragments.items c.self.inside.held c.args.self.now c.self.view_is c.args.stripe c.requires in
    omega (arith, l, c.self.inside.fragments.ok)

pub returns : goal.returns
returns c = subst (IsLent (holding c.args.self.now) c.args.stripe) (sym c.fragment.ensures) (change.is_lent c.self.inside.fragments.items c.self.inside.held c.args.self.now c.self.view_is c.args.stripe c.index.result.now c.requires c.index.ensures c.self.invariant.stripes)
