use Rattle.std.proofs.Common.{◌≡◌, None, arith, sym, ap, subst, ◌∙◌}
use Rattle.std.specs.FinMap as fin
use Rattle.rc_maps.proofs.Imports.{IsAt, IsKeyed, rows_in, swept_none, items_of, gone_in, out_keyed, out_swept, stays_swept}
use Rattle.rc_maps.proofs.block.Block.sweep.Goals as goal
use Rattle.rc_maps.proofs.block.Block.sweep.Goals.{After-index}

pub returns-in_default : goal.returns-in_default
returns-in_default g c =
    let rows = c.self.inside.rows.items in
    swept_none c.args.self.now c.args.key.now
    (gone_in rows c.args.self.now c.self.view_is c.args.key.now
    (subst (λ z. fin.get (rows_in (items_of z)) c.args.key.now ≡ None) c.deref.ensures.value c.in_default.ensures.none))

-- the row found is the key's among the block's rows
is_at : (g : _) (c : After-index g) → IsAt c.args.key.now (items_of c.self.inside.rows.items) c.in-Some.at
is_at g c = subst (λ z. IsAt c.args.key.now (items_of z) c.in-Some.at) c.deref.ensures.value c.in-Some.ensures.found

pub invariant_of-self : goal.invariant_of-self
invariant_of-self g c = record {
  narrow = c.self.invariant.narrow;
  keyed =
      subst (λ z. IsKeyed (items_of z)) (sym c.remove.ensures.items)
      (out_keyed c.self.inside.rows.items c.args.self.now c.self.view_is c.args.key.now c.in-Some.at c.self.invariant.keyed
      (is_at g (goal.at.invariant_of-self g c).After-index));
}

pub returns-then-index-eq0 : goal.returns-then-index-eq0
returns-then-index-eq0 g c =
    ap (λ z. rows_in (items_of z)) c.remove.ensures.items
    ∙ out_swept c.self.inside.rows.items c.args.self.now c.self.view_is c.args.key.now c.in-Some.at c.index.result.now
    c.self.invariant.keyed (is_at g (goal.at.returns-then-index-eq0 g c).After-index) c.index.ensures c.if-index-eq0.true

pub returns-else-index-eq0 : goal.returns-else-index-eq0
returns-else-index-eq0 g c =
    stays_swept c.self.inside.rows.items c.args.self.now c.self.view_is c.args.key.now c.in-Some.at c.index.result.now
    (is_at g (goal.at.returns-else-index-eq0 g c).After-index) c.index.ensures (omega arith)
