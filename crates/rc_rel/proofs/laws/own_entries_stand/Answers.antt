use Rattle.rc_rel.specs.OwnLaws as laws
use Rattle.rc_rel.proofs.laws.own_entries_stand.Goals as goal

pub returns : goal.returns
returns c = laws.own_stands
