use Rattle.std.proofs.Common.{◌≡◌, drop}
use Rattle.rc_work.proofs.Imports.{word_texts, has_mark}
use Rattle.rc_work.proofs.shape_forms.has_mark.Given as goal

abbrev pub invariant-loop-word : goal.invariant-loop-word
invariant-loop-word l = has_mark l.mark (word_texts (drop l.word-index l.words)) ≡ has_mark l.mark (word_texts l.words)
