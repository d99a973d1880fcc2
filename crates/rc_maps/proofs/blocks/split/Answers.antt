use Rattle.std.proofs.Common.{◌≡◌, ◌^◌, ◌<◌, ◌/◌, length, sym, ap, subst, ◌∙◌}
use Rattle.rc_maps.proofs.Imports.{slice_set, AreHalved, below_most, split_in}
use Rattle.std.specs.FinMap as fin
use Rattle.rc_maps.proofs.blocks.split.Goals as goal
use Rattle.rc_maps.proofs.blocks.split.Goals.{After-index_mut}

-- the blocks with the two halves in the place of one
done : (g : _) (c : After-index_mut g) → AreHalved c.args.blocks.now.items (slice_set c.insert.new.self.items c.args.at c.in_ok-lower.lower)
    c.args.key.now c.args.at c.in_ok-lower.upper
done g c =
    let blocks = c.args.blocks.now.items in
    let b = c.index.result.now in
    let lower = c.in_ok-lower.lower in
    let upper = c.in_ok-lower.upper in
    let full : fin.len b ≡ 128 = ap fin.len c.index.ensures ∙ c.requires.full b in
    let few : length blocks < 2 ^ 56 =
    below_most (length blocks) c.requires.blocks.few (λ e. c.if-len-eq-MOST_BLOCKS.false (c.len.ensures ∙ c.args.blocks.now.ok.0 ∙ e)) in
    subst (λ z. AreHalved blocks (slice_set z c.args.at lower) c.args.key.now c.args.at upper) (sym c.in_ok-insert.ensures.items)
    (split_in blocks c.args.key.now c.args.at b lower upper c.requires.blocks c.requires.own c.requires.within c.index.ensures few full
    c.in_ok-lower.ensures.parts (c.in_ok-lower.ensures.half ∙ ap (λ n. n / 2) full))

pub returns-then-behind-clause-blocks : goal.returns-then-behind-clause-blocks
returns-then-behind-clause-blocks g c = (done g (goal.at.returns-then-behind-clause-blocks g c).After-index_mut).are

pub returns-then-behind-clause-items : goal.returns-then-behind-clause-items
returns-then-behind-clause-items g c = (done g (goal.at.returns-then-behind-clause-items g c).After-index_mut).items

pub returns-then-behind-clause-place : goal.returns-then-behind-clause-place
returns-then-behind-clause-place g c =
    (done g (goal.at.returns-then-behind-clause-place g c).After-index_mut).upper (sym c.begins_by-behind.ensures ∙ c.if-behind.true)

pub returns-else-behind-clause-blocks : goal.returns-else-behind-clause-blocks
returns-else-behind-clause-blocks g c = (done g (goal.at.returns-else-behind-clause-blocks g c).After-index_mut).are

pub returns-else-behind-clause-items : goal.returns-else-behind-clause-items
returns-else-behind-clause-items g c = (done g (goal.at.returns-else-behind-clause-items g c).After-index_mut).items

pub returns-else-behind-clause-place : goal.returns-else-behind-clause-place
returns-else-behind-clause-place g c =
    (done g (goal.at.returns-else-behind-clause-place g c).After-index_mut).lower (sym c.begins_by-behind.ensures ∙ c.if-behind.false)
