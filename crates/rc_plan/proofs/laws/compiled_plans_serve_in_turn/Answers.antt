use Rattle.rc_plan.specs.CompiledLaws.{compiled_in_turn_law}
use Rattle.rc_plan.proofs.laws.compiled_plans_serve_in_turn.Goals as goal

pub returns : goal.returns
returns c = compiled_in_turn_law
