use Rattle.rc_inline.specs.PlacingLaws as laws
use Rattle.rc_inline.proofs.laws.embedding_keeps_schemas.Goals as goal

pub returns-clause-schema : goal.returns-clause-schema
returns-clause-schema c = laws.embedded_schema

pub returns-clause-names : goal.returns-clause-names
returns-clause-names c = laws.embedded_named
