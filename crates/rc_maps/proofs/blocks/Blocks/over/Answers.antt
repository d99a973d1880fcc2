use Rattle.std.proofs.Common.{◌≡◌, ◌++◌, ◌∷◌, [], sym, ap, subst, ◌∙◌}
use Rattle.rc_maps.proofs.Imports.{AreOf, one_block}
use Rattle.rc_maps.proofs.blocks.Blocks.over.Goals as goal
use Rattle.rc_maps.proofs.blocks.Blocks.over.Goals.{In_ok-push}

-- one block alone
alone : (g : _) (c : In_ok-push g) → AreOf c.push.new.self.items c.args.block.now
alone g c =
    let copy = c.in_ok-copy.field-0 in
    let items : c.push.new.self.items ≡ c.args.block.now ∷ [] =
    c.in_ok-push.ensures.items ∙ ap (λ z. z ++ copy ∷ []) c.new-blocks.ensures.items ∙ ap (λ z. z ∷ []) c.in_ok-copy.ensures in
    subst (λ z. AreOf z c.args.block.now) (sym items) (one_block c.args.block.now c.requires)

pub invariant_of-result : goal.invariant_of-result
invariant_of-result g c = (alone g c).are

pub returns : goal.returns
returns g c = (alone g c).of
