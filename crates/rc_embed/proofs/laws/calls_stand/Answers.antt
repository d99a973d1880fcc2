use Rattle.rc_embed.specs.EntriesLaws as laws
use Rattle.rc_embed.proofs.laws.calls_stand.Goals as goal

pub returns-clause-calls : goal.returns-clause-calls
returns-clause-calls c = laws.calls_stand

pub returns-clause-commits : goal.returns-clause-commits
returns-clause-commits c = laws.commits_stand
