use Rattle.std.proofs.Common.{◌≡◌, ◌++◌, take}
use Rattle.rc_work.proofs.Imports.{flat_map, texts_in_value}
use Rattle.rc_work.proofs.ranking.push_call_texts.Given as goal

abbrev pub invariant-loop-value : goal.invariant-loop-value
invariant-loop-value l = l.texts.items ≡ l.fn.texts.items ++ flat_map texts_in_value (take l.value-index l.value-items)
