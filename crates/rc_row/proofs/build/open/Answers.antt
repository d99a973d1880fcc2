use Rattle.rc_row.proofs.OpeningLemmas.{is_whole}
use Rattle.rc_row.proofs.build.open.Goals as goal

pub invariant_of-result : goal.invariant_of-result
invariant_of-result c =
    let made = c.in-Ok.ensures.ok in
    is_whole (record { table = c.in-Ok.table; waiting = c.args.waiting; keeping = c.args.keeping; alloc = c.args.alloc }) c.args.key.now c.args.words.now c.args.slots.items made.5 c.requires made.1 made.0
