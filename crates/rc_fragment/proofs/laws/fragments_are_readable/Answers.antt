use Rattle.rc_fragment.specs.HolderLaws.{readable_law}
use Rattle.rc_fragment.proofs.laws.fragments_are_readable.Goals as goal

pub returns : goal.returns
returns c = readable_law
