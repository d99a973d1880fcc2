use Rattle.rc_store.specs.ResumedLaws as laws
use Rattle.rc_store.proofs.laws.resumed_histories_are_one.Goals as goal

pub returns : goal.returns
returns c = laws.resumed_histories_are_one
