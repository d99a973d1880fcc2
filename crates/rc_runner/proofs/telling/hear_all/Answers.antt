use Rattle.std.proofs.Common.{◌∙◌, ap, set}
use Rattle.rc_runner.proofs.Imports.{set-get_or, heard_more, stand_of, stands_of}
use Rattle.rc_runner.proofs.telling.hear_all.Goals as goal

pub loop-other-preserved : goal.loop-other-preserved
loop-other-preserved c =
    let i = c.loop-other.other-index in
    let first = c.args.others.now in
    let all = c.loop-other.others in
    let d = c.other-item.result in
    let inv = c.loop-other.invariant in (
      c.hear.ensures.free,
      c.hear.ensures.number ∙ inv.1,
      ap (set all i) c.hear.ensures.other ∙ set-get_or all i d ∙ inv.2,
      heard_more stand_of all first i d c.loop-other-test.true (stand_of c.args.pass.now) (stand_of c.loop-other.pass)
          (stand_of c.hear.new.pass) (ap stands_of inv.2) inv.3 c.hear.ensures.heard,
    )
