use Rattle.rc_work.proofs.Imports.{arith, common_steps, length-raw_values}
use Rattle.rc_work.proofs.rules.read_call.Goals as goal

pub has_wrong_kind-requires : goal.has_wrong_kind-requires
has_wrong_kind-requires c = grind (arith, common_steps, length-raw_values)
