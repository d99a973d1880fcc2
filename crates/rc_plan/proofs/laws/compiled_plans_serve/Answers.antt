use Rattle.rc_plan.specs.CompiledLaws.{compiled_law}
use Rattle.rc_plan.proofs.laws.compiled_plans_serve.Goals as goal

pub returns : goal.returns
returns c = compiled_law
