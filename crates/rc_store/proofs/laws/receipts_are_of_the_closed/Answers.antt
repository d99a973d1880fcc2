use Rattle.rc_store.specs.ReceiptLaws as laws
use Rattle.rc_store.proofs.laws.receipts_are_of_the_closed.Goals as goal

pub returns : goal.returns
returns c = laws.receipts_are_of_the_closed
