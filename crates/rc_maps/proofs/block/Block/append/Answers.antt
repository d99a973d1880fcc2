use Rattle.std.proofs.Common.{◌++◌, ap, ◌∙◌}
use Rattle.rc_maps.specs.BlockLaws.{appended}
use Rattle.rc_maps.proofs.block.Block.append.Goals as goal

pub invariant_of-self-2 : goal.invariant_of-self-2
invariant_of-self-2 g c =
    let rows = c.self.inside.rows.items in
    let h = appended rows c.args.self.now c.self.view_is c.self.invariant.keyed c.behind.inside.rows.items c.extend_from_slice.new.self.items
    c.args.behind.now c.behind.view_is c.behind.invariant.keyed c.requires
    (c.in_ok-extend_from_slice.ensures.items ∙ ap (λ z. rows ++ z) c.as_slice.ensures.value) in
    record { narrow = c.self.invariant.narrow; keyed = h.0 }

pub returns-clause-ok : goal.returns-clause-ok
returns-clause-ok g c =
    let rows = c.self.inside.rows.items in
    let h = appended rows c.args.self.now c.self.view_is c.self.invariant.keyed c.behind.inside.rows.items c.extend_from_slice.new.self.items
    c.args.behind.now c.behind.view_is c.behind.invariant.keyed c.requires
    (c.in_ok-extend_from_slice.ensures.items ∙ ap (λ z. rows ++ z) c.as_slice.ensures.value) in
    h.1
