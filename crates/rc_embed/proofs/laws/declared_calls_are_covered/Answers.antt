use Rattle.rc_embed.proofs.Imports.{declared_calls_are_covered, no_declared_call_is_uncovered, open_groups_keep_their_locks}
use Rattle.rc_embed.proofs.laws.declared_calls_are_covered.Goals as goal

pub returns-clause-covered : goal.returns-clause-covered
returns-clause-covered c = declared_calls_are_covered

pub returns-clause-locks : goal.returns-clause-locks
returns-clause-locks c = open_groups_keep_their_locks

pub returns-clause-answered : goal.returns-clause-answered
returns-clause-answered c = no_declared_call_is_uncovered
