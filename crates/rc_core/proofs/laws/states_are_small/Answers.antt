use Rattle.rc_core.specs.SizeLaws as laws
use Rattle.rc_core.proofs.laws.states_are_small.Goals as goal

pub returns-clause-short : goal.returns-clause-short
returns-clause-short c = laws.history_law

pub returns-clause-small : goal.returns-clause-small
returns-clause-small c = laws.few_tuples

pub returns-clause-few : goal.returns-clause-few
returns-clause-few c = laws.few_counted
