use Rattle.rc_core.specs.DetermineLaws as laws
use Rattle.rc_core.proofs.laws.passes_determine_state.Goals as goal

pub returns : goal.returns
returns c = laws.passes_determine
