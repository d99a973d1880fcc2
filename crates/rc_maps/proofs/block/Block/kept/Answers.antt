use Rattle.std.proofs.Common.{sym, ◌∙◌}
use Rattle.rc_maps.specs.BlockLaws.{len_is}
use Rattle.rc_maps.proofs.block.Block.kept.Goals as goal

pub returns : goal.returns
returns g c =
    c.len.ensures ∙ c.self.inside.rows.ok.0 ∙ sym (len_is c.self.inside.rows.items c.args.self.now c.self.view_is c.self.invariant.keyed)
