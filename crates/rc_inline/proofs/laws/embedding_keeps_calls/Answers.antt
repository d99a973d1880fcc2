use Rattle.rc_inline.specs.PlacingLaws as laws
use Rattle.rc_inline.proofs.laws.embedding_keeps_calls.Goals as goal

pub returns-clause-calls : goal.returns-clause-calls
returns-clause-calls c = laws.embedded_plain

pub returns-clause-fitting : goal.returns-clause-fitting
returns-clause-fitting c = laws.embedded_fits
