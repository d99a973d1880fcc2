use Rattle.rc_store.specs.HeadlineLaws as laws
use Rattle.rc_store.proofs.laws.receipts_mean_one_history.Goals as goal

pub returns : goal.returns
returns c = laws.receipts_mean_one_history
