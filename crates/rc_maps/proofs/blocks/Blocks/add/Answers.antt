use Rattle.std.proofs.Common.{◌<◌, ◌^◌, arith, sym, ap, subst, ◌∙◌}
use Rattle.std.specs.FinMap as fin
use Rattle.rc_maps.proofs.Imports.{count_of, rows_in, HasOwn, count_before, own_get, raised_are, raised_ok, stays_err}
use Rattle.rc_maps.proofs.blocks.Blocks.add.Goals as goal
use Rattle.rc_maps.proofs.blocks.Blocks.add.Goals.{After-index_mut}

-- the key's own block, which has room
own : (g : _) (c : After-index_mut g)
    → HasOwn c.make_place.new.blocks.items c.args.self.now c.args.key.now c.in_ok-at.at c.index_mut.result.now
own g c = record {
  are = c.in_ok-at.ensures.blocks;
  of = ap rows_in c.in_ok-at.ensures.items ∙ c.self.view_is;
  own = c.in_ok-at.ensures.place.own;
  within = c.in_ok-at.ensures.place.within;
  is = c.index_mut.ensures.value;
}

room : (g : _) (c : After-index_mut g) → fin.len c.index_mut.result.now < 128
room g c = subst (λ z. fin.len z < 128) (sym c.index_mut.ensures.value) (c.in_ok-at.ensures.place.room c.index_mut.result.now)

pub add-requires : goal.add-requires
add-requires g c = (
  omega arith,
  (
    c.requires.one,
    (
      c.requires.width,
      subst (λ o. count_of o < 2 ^ 63) (own_get (own g (goal.at.add-requires g c).After-index_mut)) c.requires.room,
    ),
  ),
)

pub invariant_of-self-2 : goal.invariant_of-self-2
invariant_of-self-2 g c =
    let a = (goal.at.invariant_of-self-2 g c).After-index_mut in
    raised_are (own g a) c.add.result c.add.new.self c.args.extra.now (room g a) c.add.ensures.ok c.add.ensures.err

pub returns-clause-ok : goal.returns-clause-ok
returns-clause-ok g c =
    let a = (goal.at.returns-clause-ok g c).After-index_mut in
    raised_ok (own g a) c.add.result c.add.new.self c.args.extra.now (room g a) c.add.ensures.ok

pub returns-clause-before : goal.returns-clause-before
returns-clause-before g c =
    count_before (own g (goal.at.returns-clause-before g c).After-index_mut) c.add.result c.add.ensures.before

pub returns-clause-err : goal.returns-clause-err
returns-clause-err g c =
    stays_err (own g (goal.at.returns-clause-err g c).After-index_mut) c.add.result c.add.new.self c.add.ensures.err
