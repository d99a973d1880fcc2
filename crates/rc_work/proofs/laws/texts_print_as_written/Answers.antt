use Rattle.rc_work.specs.PrintedLaws as laws
use Rattle.rc_work.proofs.laws.texts_print_as_written.Goals as goal

pub returns : goal.returns
returns c = laws.texts_print_as_written
