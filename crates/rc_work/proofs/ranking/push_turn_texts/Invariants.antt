use Rattle.std.proofs.Common.{◌≡◌, ◌++◌, take}
use Rattle.rc_work.proofs.Imports.{flat_map, texts_in_call}
use Rattle.rc_work.proofs.ranking.push_turn_texts.Given as goal

abbrev pub invariant-loop-call : goal.invariant-loop-call
invariant-loop-call l = l.texts.items ≡ l.fn.texts.items ++ flat_map texts_in_call (take l.call-index l.call-items)
