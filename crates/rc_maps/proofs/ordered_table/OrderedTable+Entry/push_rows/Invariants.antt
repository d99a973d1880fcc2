use Rattle.rc_maps.proofs.Imports.{by_many, by_one, IsPushed}
use Rattle.rc_maps.proofs.ordered_table.OrderedTable+Entry.push_rows.Given as goal

abbrev pub invariant-loop-key : goal.invariant-loop-key
invariant-loop-key l = IsPushed (by_one l.initial.key-iterator) (by_one l.key-iterator) l.fn.out.items l.out.items

abbrev pub invariant-loop-key-2 : goal.invariant-loop-key-2
invariant-loop-key-2 l = IsPushed (by_many l.initial.key-iterator) (by_many l.key-iterator) l.fn.out.items l.out.items
