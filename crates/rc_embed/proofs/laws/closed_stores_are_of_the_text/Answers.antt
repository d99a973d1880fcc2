use Rattle.rc_embed.specs.ToldLaws as laws
use Rattle.rc_embed.proofs.laws.closed_stores_are_of_the_text.Goals as goal

pub returns-clause-history : goal.returns-clause-history
returns-clause-history c = laws.closed_is_of_the_text

pub returns-clause-one : goal.returns-clause-one
returns-clause-one c = laws.histories_of_text_are_one
