-- Plans that stand alone.
use Rattle.std.proofs.Common.{[], ap}
use Rattle.rc_text.specs.Lines.{start_of}
use Rattle.rc_handplan.specs.Alone.{NoTextNoPlans}
use Rattle.rc_handplan.specs.FirstBrokenLaws.{nothing_is_read}
use Rattle.rc_handplan.specs.declared.starts.Closing.TheVariants as closings
use Rattle.rc_handplan.specs.HandGrammar.{alone_by}

-- a text without a line has none
pub no_text_no_plans : NoTextNoPlans
no_text_no_plans spec = ap alone_by (nothing_is_read closings.End spec (start_of []) tt)
