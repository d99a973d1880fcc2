use Rattle.std.proofs.Common.{rules, tests, ◌∙◌}
use Rattle.rc_maps.proofs.Imports.{YieldsList-from_slice, cases_from_any, HasRow, has_any}
use Rattle.rc_maps.proofs.blocks.Blocks.has_row.Goals as goal

pub returns : goal.returns
returns g c =
    let blocks = c.self.inside.blocks.items in
    has_any blocks c.args.self.now c.self.view_is c.self.invariant.keyed c.any.result
    (cases_from_any _ _ _ HasRow (λ b. HasRow b → ⊥) c.any.ensures.ran (YieldsList-from_slice blocks (c.iter.ensures.rest ∙ c.deref.ensures.value)) (λ x q k. search (rules, tests)) (λ x q k. search (rules, tests)))
