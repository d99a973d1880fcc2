use Rattle.rc_store.specs.ReceiptLaws as laws
use Rattle.rc_store.proofs.laws.telling_goes_on.Goals as goal

pub returns : goal.returns
returns c = laws.telling_goes_on
