use Rattle.std.proofs.Common.{◌<◌, arith, sym, ap, subst, ◌∙◌}
use Rattle.std.specs.FinMap as fin
use Rattle.rc_maps.proofs.Imports.{rows_in, HasOwn, added_are, added_ok, own_found, stays_err}
use Rattle.rc_maps.proofs.blocks.Blocks.add_new.Goals as goal
use Rattle.rc_maps.proofs.blocks.Blocks.add_new.Goals.{After-index_mut}

-- the key's own block, which has room
own : (g : _) (c : After-index_mut g)
    → HasOwn c.make_place.new.blocks.items c.args.self.now c.args.key.now c.in_ok-at.at c.index_mut.result.now
own g c = record {
  are = c.in_ok-at.ensures.blocks;
  of = ap rows_in c.in_ok-at.ensures.items ∙ c.self.view_is;
  own = c.in_ok-at.ensures.place.own;
  within = c.in_ok-at.ensures.place.within;
  is = c.index_mut.ensures.value;
}

room : (g : _) (c : After-index_mut g) → fin.len c.index_mut.result.now < 128
room g c = subst (λ z. fin.len z < 128) (sym c.index_mut.ensures.value) (c.in_ok-at.ensures.place.room c.index_mut.result.now)

pub add_new-requires : goal.add_new-requires
add_new-requires g c = (
  omega arith,
  (
    λ none. c.requires.one (own_found (own g (goal.at.add_new-requires g c).After-index_mut) ∙ none),
    c.requires.width,
  ),
)

pub invariant_of-self-2 : goal.invariant_of-self-2
invariant_of-self-2 g c =
    let a = (goal.at.invariant_of-self-2 g c).After-index_mut in
    added_are (own g a) c.add_new.result c.add_new.new.self c.args.extra.now (room g a) c.add_new.ensures.ok c.add_new.ensures.err

pub returns-clause-ok : goal.returns-clause-ok
returns-clause-ok g c =
    let a = (goal.at.returns-clause-ok g c).After-index_mut in
    added_ok (own g a) c.add_new.result c.add_new.new.self c.args.extra.now (room g a) c.add_new.ensures.ok

pub returns-clause-err : goal.returns-clause-err
returns-clause-err g c =
    stays_err (own g (goal.at.returns-clause-err g c).After-index_mut) c.add_new.result c.add_new.new.self c.add_new.ensures.err
