use Rattle.rc_reader.specs.NamesLaws.{number_among-found, number_among-none}
use Rattle.rc_reader.proofs.laws.names_are_found.Goals as goal

pub returns-clause-some : goal.returns-clause-some
returns-clause-some c = number_among-found

pub returns-clause-none : goal.returns-clause-none
returns-clause-none c = number_among-none
