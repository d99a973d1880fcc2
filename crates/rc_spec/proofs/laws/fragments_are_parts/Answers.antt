use Rattle.rc_spec.specs.FragmentsLaws.{parts_law, pieces_law}
use Rattle.rc_spec.proofs.laws.fragments_are_parts.Goals as goal

pub returns-clause-parts : goal.returns-clause-parts
returns-clause-parts c = parts_law

pub returns-clause-pieces : goal.returns-clause-pieces
returns-clause-pieces c = pieces_law
