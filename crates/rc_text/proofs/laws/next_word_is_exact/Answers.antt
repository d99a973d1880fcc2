use Rattle.rc_text.specs.NextWordLaws.{found_iff_comes}
use Rattle.rc_text.proofs.laws.next_word_is_exact.Goals as goal

pub returns : goal.returns
returns c = found_iff_comes
