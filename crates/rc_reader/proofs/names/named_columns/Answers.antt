use Rattle.std.proofs.Common.{subst, arith}
use Rattle.std.proofs.lemmas.List.{length-map}
use Rattle.rc_tuple.specs.RisingSet.{In}
use Rattle.rc_spec.specs.declared.items.Column.{Column}
use Rattle.rc_spec.specs.Names.{column_names}
use Rattle.rc_reader.specs.NamesLaws.{front_below}
use Rattle.rc_reader.proofs.names.named_columns.Goals as goal

pub from_list-set-requires : goal.from_list-set-requires
from_list-set-requires c = λ n m.
    let member : In n c.loop-word.numbers = subst (In n) c.list.ensures m in
    let below = front_below (column_names c.args.columns.now) _ c.loop-word.numbers _ c.loop-word.invariant.numbers n member in
    omega (arith, length-map c.args.columns.now (λ (column : Column). column.name), c.requires)
