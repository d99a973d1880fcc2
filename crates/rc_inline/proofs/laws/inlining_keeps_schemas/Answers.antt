use Rattle.rc_inline.specs.InliningLaws as laws
use Rattle.rc_inline.proofs.laws.inlining_keeps_schemas.Goals as goal

pub returns-clause-schema : goal.returns-clause-schema
returns-clause-schema c = laws.inlined_schema

pub returns-clause-names : goal.returns-clause-names
returns-clause-names c = laws.inlined_named
