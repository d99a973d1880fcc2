use Rattle.std.proofs.Common.{ap, ◌∙◌}
use Rattle.rc_tuple.proofs.Imports.{is_within, within_none}
use Rattle.rc_tuple.proofs.col_set.ColSet.is_empty.Goals as goal

pub returns : goal.returns
returns c = c.within.ensures.found ∙ ap (is_within c.args.self) c.empty.ensures ∙ within_none c.args.self
