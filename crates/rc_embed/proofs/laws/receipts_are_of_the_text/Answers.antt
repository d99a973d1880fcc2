use Rattle.rc_embed.specs.ReceiptsOfText.{receipts_are_of_the_text}
use Rattle.rc_embed.proofs.laws.receipts_are_of_the_text.Goals as goal

pub returns : goal.returns
returns c = receipts_are_of_the_text
