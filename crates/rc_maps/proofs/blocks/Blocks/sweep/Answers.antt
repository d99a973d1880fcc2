use Rattle.std.proofs.Common.{◌<◌, length, arith, sym, subst, ◌∙◌}
use Rattle.rc_maps.proofs.Imports.{slice_set, swept, IsOwn, AreOf, HasOwn, none_left, own_out, own_swept, some_left}
use Rattle.std.specs.FinMap as fin
use Rattle.rc_maps.proofs.blocks.Blocks.sweep.Goals as goal
use Rattle.rc_maps.proofs.blocks.Blocks.sweep.Goals.{After-index_mut, After-remove, After-sweep, else-at-gt0-via-else-at-gt0, else-at-gt0-via-then-at-gt0+else-is_gone}

-- the key's own block
own : (g : _) (c : After-index_mut g) → HasOwn c.self.inside.blocks.items c.args.self.now c.args.key.now c.place-at.result c.index_mut.result.now
own g c = record {
  are = c.self.invariant;
  of = c.self.view_is;
  own = subst (λ z. IsOwn c.args.key.now z c.place-at.result) c.deref.ensures.value c.place-at.ensures.own;
  within = subst (λ z. c.place-at.result < length z) c.deref.ensures.value c.place-at.ensures.within;
  is = c.index_mut.ensures.value;
}

-- the blocks where that one stays
kept : (g : _) (c : After-sweep g) → HasOwn c.self.inside.blocks.items c.args.self.now c.args.key.now c.place-at.result c.index_mut.result.now
    → (0 < c.place-at.result → 0 < fin.len c.sweep.new.self)
    → AreOf (slice_set c.self.inside.blocks.items c.place-at.result c.sweep.new.self) (swept c.args.self.now c.args.key.now)
kept g c h some =
    subst (λ z. AreOf (slice_set c.self.inside.blocks.items c.place-at.result z) (swept c.args.self.now c.args.key.now)) (sym c.sweep.ensures)
    (own_swept h
    (λ l. subst (λ z. 0 < fin.len z) c.sweep.ensures (some l)))

-- the blocks where it goes
gone : (g : _) (c : After-remove g) → HasOwn c.self.inside.blocks.items c.args.self.now c.args.key.now c.place-at.result c.index_mut.result.now
    → AreOf c.remove.new.self.items (swept c.args.self.now c.args.key.now)
gone g c h =
    subst (λ z. AreOf z (swept c.args.self.now c.args.key.now)) (sym c.remove.ensures.items)
    (own_out h c.sweep.new.self
    c.sweep.ensures
    (none_left c.self.inside.blocks.items c.place-at.result c.sweep.new.self c.index.result.now c.is_gone.result h.within c.index.ensures
    c.is_gone.ensures c.if-is_gone.true)
    c.if-at-gt0.true)

pub invariant_of-self : goal.invariant_of-self
invariant_of-self g c =
    (gone g (goal.at.invariant_of-self g c).After-remove (own g (goal.at.invariant_of-self g c).After-index_mut)).are

pub invariant_of-self-else-is_gone : goal.invariant_of-self-else-is_gone
invariant_of-self-else-is_gone g c =
    let h = own g (goal.at.invariant_of-self-else-is_gone g c).After-index_mut in
    (kept g (goal.at.invariant_of-self-else-is_gone g c).After-sweep h
    (λ l. some_left c.self.inside.blocks.items c.place-at.result c.sweep.new.self c.index.result.now c.is_gone.result h.within c.index.ensures
    c.is_gone.ensures c.if-is_gone.false)).are

pub invariant_of-self-else-at-gt0 : goal.invariant_of-self-else-at-gt0
invariant_of-self-else-at-gt0 g c =
    let low = c.if-at-gt0.false in
    (kept g (goal.at.invariant_of-self-else-at-gt0 g c).After-sweep (own g (goal.at.invariant_of-self-else-at-gt0 g c).After-index_mut)
    (λ l. absurd (omega (arith, l, low)))).are

pub returns-then-is_gone : goal.returns-then-is_gone
returns-then-is_gone g c =
    (gone g (goal.at.returns-then-is_gone g c).After-remove (own g (goal.at.returns-then-is_gone g c).After-index_mut)).of

pub returns-else-at-gt0 : goal.returns-else-at-gt0
returns-else-at-gt0 g c =
    let h = own g (goal.at.returns-else-at-gt0 g c).After-index_mut in
    let k = kept g (goal.at.returns-else-at-gt0 g c).After-sweep h in
    elim c.else-at-gt0.branch [
      | else-at-gt0-via-then-at-gt0+else-is_gone w ↦
          w.self-is
          ∙ (k (λ l. some_left c.self.inside.blocks.items c.place-at.result c.sweep.new.self w.index.result.now w.is_gone.result h.within
          w.index.ensures w.is_gone.ensures w.if-is_gone.false)).of
      | else-at-gt0-via-else-at-gt0 w ↦
          let low = w.if-at-gt0.false in
          w.self-is ∙ (k (λ l. absurd (omega (arith, l, low)))).of
    ]
