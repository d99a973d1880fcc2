use Rattle.rc_work.specs.RunsLaws as laws
use Rattle.rc_work.proofs.laws.entries_are_turns.Goals as goal

pub returns : goal.returns
returns c = laws.entries_are_turns
