use Rattle.rc_embed.specs.EntriesLaws as laws
use Rattle.rc_embed.specs.OpenGroupLaws.{open_calls_keep, opening_keeps}
use Rattle.rc_embed.proofs.laws.entries_stay.Goals as goal

pub returns-clause-calls : goal.returns-clause-calls
returns-clause-calls c = laws.calls_keep

pub returns-clause-preparing : goal.returns-clause-preparing
returns-clause-preparing c = laws.preparing_keeps

pub returns-clause-opening : goal.returns-clause-opening
returns-clause-opening c = opening_keeps

pub returns-clause-open_calls : goal.returns-clause-open_calls
returns-clause-open_calls c = open_calls_keep

pub returns-clause-commits : goal.returns-clause-commits
returns-clause-commits c = laws.commits_keep

pub returns-clause-cancels : goal.returns-clause-cancels
returns-clause-cancels c = laws.cancels_keep

pub returns-clause-looks : goal.returns-clause-looks
returns-clause-looks c = laws.looks_keep

pub returns-clause-picks : goal.returns-clause-picks
returns-clause-picks c = laws.picks_keep

pub returns-clause-faults : goal.returns-clause-faults
returns-clause-faults c = laws.faults_keep

pub returns-clause-taking_back : goal.returns-clause-taking_back
returns-clause-taking_back c = laws.taking_back_keeps

pub returns-clause-dealing : goal.returns-clause-dealing
returns-clause-dealing c = laws.dealing_keeps

pub returns-clause-passes : goal.returns-clause-passes
returns-clause-passes c = laws.passes_are_handed_on
