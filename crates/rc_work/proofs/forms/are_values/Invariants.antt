use Rattle.std.proofs.Common.{◌≡◌, drop}
use Rattle.rc_work.proofs.Imports.{list_all, word_texts, is_value}
use Rattle.rc_work.proofs.forms.are_values.Given as goal

abbrev pub invariant-loop-word : goal.invariant-loop-word
invariant-loop-word l = list_all is_value (word_texts (drop l.word-index l.words)) ≡ list_all is_value (word_texts l.words)
