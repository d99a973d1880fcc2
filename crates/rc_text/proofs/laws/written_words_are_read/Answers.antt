use Rattle.rc_text.specs.NextWordLaws.{words_of-written}
use Rattle.rc_text.proofs.laws.written_words_are_read.Goals as goal

pub returns : goal.returns
returns c = words_of-written
