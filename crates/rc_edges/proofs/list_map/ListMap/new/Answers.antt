use Rattle.std.proofs.Common.{ap, ◌∙◌}
use Rattle.rc_edges.proofs.Imports.{rows_in, rows-none}
use Rattle.rc_edges.proofs.list_map.ListMap.new.Goals as goal

pub returns : goal.returns
returns c = ap rows_in c.new.ensures.items ∙ rows-none
