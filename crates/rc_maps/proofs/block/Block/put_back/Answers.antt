use Rattle.std.proofs.Common.{◌≡◌, Some, ap, subst, ◌∙◌}
use Rattle.rc_maps.proofs.Imports.{slice_set, Values, HasAsMany, IsAt, items_of, IsWritten, at_key, kept_at, set_row}
use Rattle.std.specs.FinMap as fin
use Rattle.rc_maps.proofs.block.Block.put_back.Goals as goal
use Rattle.rc_maps.proofs.block.Block.put_back.Goals.{After-copy_from_slice, After-index}

-- the row found is the key's among the block's rows
is_at : (g : _) (c : After-index g) → IsAt c.args.key.now (items_of c.self.inside.rows.items) c.in-Some.at
is_at g c = subst (λ z. IsAt c.args.key.now (items_of z) c.in-Some.at) c.deref.ensures.value c.in-Some.ensures.found

-- it is what is kept at the key
kept : (g : _) (c : After-index g) → fin.get c.args.self.now c.args.key.now ≡ Some (c.index.result.now.extra, c.index.result.now.count)
kept g c =
    kept_at c.self.inside.rows.items c.args.self.now c.self.view_is c.args.key.now c.in-Some.at c.index.result.now (is_at g c) c.index.ensures

-- it is written over
written : (g : _) (c : After-copy_from_slice g) → IsAt c.args.key.now (items_of c.self.inside.rows.items) c.in-Some.at
    → IsWritten c.self.inside.rows.items c.args.self.now c.self.view_is
    (slice_set c.self.inside.rows.items c.in-Some.at (record { key = c.index.result.now.key; extra = c.copy_from_slice.new.self; count = c.args.count }))
    c.args.key.now (c.copy_from_slice.new.self, c.args.count)
written g c at =
    set_row c.self.inside.rows.items c.args.self.now c.self.view_is c.args.key.now c.in-Some.at c.index.result.now
    (record { key = c.index.result.now.key; extra = c.copy_from_slice.new.self; count = c.args.count }) c.self.invariant.keyed at c.index.ensures
    (at_key c.self.inside.rows.items c.args.self.now c.self.view_is c.args.key.now c.in-Some.at c.index.result.now at c.index.ensures)

pub copy_from_slice-requires : goal.copy_from_slice-requires
copy_from_slice-requires g c =
    subst (λ o. HasAsMany o c.args.extra.now) (kept g (goal.at.copy_from_slice-requires g c).After-index) c.requires

pub invariant_of-self : goal.invariant_of-self
invariant_of-self g c = record {
  narrow = c.self.invariant.narrow;
  keyed = (written g (goal.at.invariant_of-self g c).After-copy_from_slice (is_at g (goal.at.invariant_of-self g c).After-index)).keyed;
}

pub returns : goal.returns
returns g c =
    (written g (goal.at.returns g c).After-copy_from_slice (is_at g (goal.at.returns g c).After-index)).kept
    ∙ ap (λ (z : Values). fin.insert c.args.self.now c.args.key.now (z, c.args.count)) c.copy_from_slice.ensures.after
