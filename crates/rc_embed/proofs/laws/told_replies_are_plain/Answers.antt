use Rattle.rc_embed.specs.OpenGroupLaws.{open_replies_are_plain}
use Rattle.rc_embed.specs.ToldLaws as laws
use Rattle.rc_embed.proofs.laws.told_replies_are_plain.Goals as goal

pub returns-clause-entries : goal.returns-clause-entries
returns-clause-entries c = laws.entries_are_plain

pub returns-clause-calls : goal.returns-clause-calls
returns-clause-calls c = laws.told_replies_are_plain

pub returns-clause-commits : goal.returns-clause-commits
returns-clause-commits c = laws.committed_replies_are_plain

pub returns-clause-open_calls : goal.returns-clause-open_calls
returns-clause-open_calls c = open_replies_are_plain
