use Rattle.rc_work.specs.RankingLaws as laws
use Rattle.rc_work.proofs.laws.turns_without_groups_are_single.Goals as goal

pub returns : goal.returns
returns c = laws.turns_without_groups_are_single
