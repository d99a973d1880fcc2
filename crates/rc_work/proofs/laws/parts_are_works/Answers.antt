use Rattle.rc_work.specs.PartLaws as laws
use Rattle.rc_work.specs.PartReadingLaws.{works_are_parts}
use Rattle.rc_work.proofs.laws.parts_are_works.Goals as goal

pub returns-clause-works : goal.returns-clause-works
returns-clause-works c = laws.parts_are_works

pub returns-clause-refused : goal.returns-clause-refused
returns-clause-refused c = laws.parts_are_refused

pub returns-clause-found : goal.returns-clause-found
returns-clause-found c = works_are_parts
