use Rattle.std.proofs.Common.{◌<◌, length, sym, ap, subst, ◌∙◌}
use Rattle.rc_maps.proofs.Imports.{extra_of, IsOwn, HasOwn, own_found}
use Rattle.rc_maps.proofs.blocks.Blocks.get.Goals as goal
use Rattle.rc_maps.proofs.blocks.Blocks.get.Goals.{After-get}

-- the key's own block
own : (g : _) (c : After-get g) → HasOwn c.self.inside.blocks.items c.args.self.now c.args.key.now c.place.result c.index.result.now
own g c = record {
  are = c.self.invariant;
  of = c.self.view_is;
  own = subst (λ z. IsOwn c.args.key.now z c.place.result) c.deref.ensures.value c.place.ensures.own;
  within = subst (λ z. c.place.result < length z) c.deref.ensures.value c.place.ensures.within;
  is = c.index.ensures;
}

pub returns : goal.returns
returns g c = c.get.ensures ∙ ap extra_of (sym (own_found (own g c)))
