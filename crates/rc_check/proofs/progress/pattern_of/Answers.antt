use Rattle.std.proofs.Common.{◌<◌, length, subst, arith}
use Rattle.rc_tuple.specs.RisingSet.{In}
use Rattle.rc_check.proofs.progress.pattern_of.Goals as goal

pub from_list-requires : goal.from_list-requires
from_list-requires c = λ col m.
    let below : col < length c.args.spec.now.columns = c.requires.known.pattern col (subst (In col) c.list.ensures m) in omega arith
