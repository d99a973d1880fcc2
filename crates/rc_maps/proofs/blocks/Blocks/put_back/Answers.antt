use Rattle.std.proofs.Common.{◌<◌, length, arith, sym, subst}
use Rattle.rc_maps.proofs.Imports.{slice_set, HasAsMany, Rows, IsOwn, AreOf, HasOwn, as_many_some, own_get, own_set}
use Rattle.std.specs.FinMap as fin
use Rattle.rc_maps.proofs.blocks.Blocks.put_back.Goals as goal
use Rattle.rc_maps.proofs.blocks.Blocks.put_back.Goals.{After-index_mut, After-put_back}

-- the key's own block
own : (g : _) (c : After-index_mut g) → HasOwn c.self.inside.blocks.items c.args.self.now c.args.key.now c.place-at.result c.index_mut.result.now
own g c = record {
  are = c.self.invariant;
  of = c.self.view_is;
  own = subst (λ z. IsOwn c.args.key.now z c.place-at.result) c.deref.ensures.value c.place-at.ensures.own;
  within = subst (λ z. c.place-at.result < length z) c.deref.ensures.value c.place-at.ensures.within;
  is = c.index_mut.ensures.value;
}

pub put_back-requires : goal.put_back-requires
put_back-requires g c = (
  omega arith,
  subst (λ o. HasAsMany o c.args.extra.now) (own_get (own g (goal.at.put_back-requires g c).After-index_mut)) c.requires,
)

put : (g : _) (c : After-put_back g) → HasOwn c.self.inside.blocks.items c.args.self.now c.args.key.now c.place-at.result c.index_mut.result.now
    → AreOf (slice_set c.self.inside.blocks.items c.place-at.result c.put_back.new.self)
    (fin.insert c.args.self.now c.args.key.now (c.args.extra.now, c.args.count))
put g c h =
    let new : Rows = fin.insert c.args.self.now c.args.key.now (c.args.extra.now, c.args.count) in
    subst (λ z. AreOf (slice_set c.self.inside.blocks.items c.place-at.result z) new) (sym c.put_back.ensures)
    (own_set h (c.args.extra.now, c.args.count)
    (as_many_some (fin.get c.index_mut.result.now c.args.key.now) c.args.extra.now
    (subst (λ o. HasAsMany o c.args.extra.now) (own_get h) c.requires)))

pub invariant_of-self : goal.invariant_of-self
invariant_of-self g c =
    (put g (goal.at.invariant_of-self g c).After-put_back (own g (goal.at.invariant_of-self g c).After-index_mut)).are

pub returns : goal.returns
returns g c = (put g (goal.at.returns g c).After-put_back (own g (goal.at.returns g c).After-index_mut)).of
