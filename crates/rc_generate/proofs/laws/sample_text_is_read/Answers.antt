use Rattle.rc_generate.specs.SampleText as laws
use Rattle.rc_generate.proofs.laws.sample_text_is_read.Goals as goal

pub returns : goal.returns
returns c = laws.sample_is_read
