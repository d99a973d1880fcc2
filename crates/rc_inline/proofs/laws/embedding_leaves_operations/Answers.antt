use Rattle.rc_inline.specs.ApartLaws as laws
use Rattle.rc_inline.proofs.laws.embedding_leaves_operations.Goals as goal

pub returns : goal.returns
returns c = laws.embedded_apart
