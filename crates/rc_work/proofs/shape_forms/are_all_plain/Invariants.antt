use Rattle.std.proofs.Common.{◌≡◌, drop}
use Rattle.rc_work.proofs.Imports.{list_all, word_texts, is_plain}
use Rattle.rc_work.proofs.shape_forms.are_all_plain.Given as goal

abbrev pub invariant-loop-word : goal.invariant-loop-word
invariant-loop-word l = list_all is_plain (word_texts (drop l.word-index l.words)) ≡ list_all is_plain (word_texts l.words)
