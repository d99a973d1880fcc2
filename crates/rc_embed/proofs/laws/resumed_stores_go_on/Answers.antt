use Rattle.rc_embed.specs.ResumedLaws as laws
use Rattle.rc_embed.proofs.laws.resumed_stores_go_on.Goals as goal

pub returns-clause-receipts : goal.returns-clause-receipts
returns-clause-receipts c = laws.receipts_go_on_from_closed

pub returns-clause-closed : goal.returns-clause-closed
returns-clause-closed c = laws.closed_histories_go_on
