use Rattle.rc_tuple.specs.RisingSetLaws.{get_or_in}
use Rattle.rc_open.proofs.printing.push_columns.Goals as goal

pub push_column-requires : goal.push_column-requires
push_column-requires c = c.requires _ (get_or_in c.args.cols.now c.loop-col.col-index 0 c.loop-col-test.true)
