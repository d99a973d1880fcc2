use Rattle.rc_inline.specs.SchemaLaws as laws
use Rattle.rc_inline.proofs.laws.schemas_decide_calls.Goals as goal

pub returns-clause-calls : goal.returns-clause-calls
returns-clause-calls c = laws.plain_same

pub returns-clause-fitting : goal.returns-clause-fitting
returns-clause-fitting c = laws.fitting_of_one_schema
