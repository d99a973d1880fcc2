use Rattle.std.proofs.Common.{◌<◌, length, arith, sym, ap, subst, ◌∙◌}
use Rattle.rc_maps.proofs.Imports.{IsSome, slice_set, count_of, once_less, IsOwn, AreOf, HasOwn, own_found, own_get, own_lowered}
use Rattle.rc_maps.proofs.blocks.Blocks.sub.Goals as goal
use Rattle.rc_maps.proofs.blocks.Blocks.sub.Goals.{After-index_mut, After-sub}

-- the key's own block
own : (g : _) (c : After-index_mut g) → HasOwn c.self.inside.blocks.items c.args.self.now c.args.key.now c.place-at.result c.index_mut.result.now
own g c = record {
  are = c.self.invariant;
  of = c.self.view_is;
  own = subst (λ z. IsOwn c.args.key.now z c.place-at.result) c.deref.ensures.value c.place-at.ensures.own;
  within = subst (λ z. c.place-at.result < length z) c.deref.ensures.value c.place-at.ensures.within;
  is = c.index_mut.ensures.value;
}

pub sub-requires : goal.sub-requires
sub-requires g c = (omega arith, subst IsSome (own_found (own g (goal.at.sub-requires g c).After-index_mut)) c.requires)

lowered : (g : _) (c : After-sub g) → HasOwn c.self.inside.blocks.items c.args.self.now c.args.key.now c.place-at.result c.index_mut.result.now
    → AreOf (slice_set c.self.inside.blocks.items c.place-at.result c.sub.new.self) (once_less c.args.self.now c.args.key.now)
lowered g c h =
    subst (λ z. AreOf (slice_set c.self.inside.blocks.items c.place-at.result z) (once_less c.args.self.now c.args.key.now))
    (sym c.sub.ensures.now) (own_lowered h (subst IsSome (own_found h) c.requires))

pub invariant_of-self : goal.invariant_of-self
invariant_of-self g c =
    (lowered g (goal.at.invariant_of-self g c).After-sub (own g (goal.at.invariant_of-self g c).After-index_mut)).are

pub returns-clause-now : goal.returns-clause-now
returns-clause-now g c =
    (lowered g (goal.at.returns-clause-now g c).After-sub (own g (goal.at.returns-clause-now g c).After-index_mut)).of

pub returns-clause-before : goal.returns-clause-before
returns-clause-before g c =
    c.sub.ensures.before
    ∙ ap count_of (sym (own_get (own g (goal.at.returns-clause-before g c).After-index_mut)))
