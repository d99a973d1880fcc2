use Rattle.rc_embed.specs.OpenedLaws as laws
use Rattle.rc_embed.proofs.laws.opened_stores_are_of_the_text.Goals as goal

pub returns-clause-rows : goal.returns-clause-rows
returns-clause-rows c = laws.opened_rows

pub returns-clause-schema : goal.returns-clause-schema
returns-clause-schema c = laws.opened_schema

pub returns-clause-calls : goal.returns-clause-calls
returns-clause-calls c = laws.opened_calls

pub returns-clause-fits : goal.returns-clause-fits
returns-clause-fits c = laws.opened_fits

pub returns-clause-plain : goal.returns-clause-plain
returns-clause-plain c = laws.opened_plain

pub returns-clause-histories : goal.returns-clause-histories
returns-clause-histories c = laws.histories_are_of_the_text

pub returns-clause-plans : goal.returns-clause-plans
returns-clause-plans c = laws.opened_plans

pub returns-clause-operations : goal.returns-clause-operations
returns-clause-operations c = laws.opened_operations

pub returns-clause-declared : goal.returns-clause-declared
returns-clause-declared c = laws.opened_declared
