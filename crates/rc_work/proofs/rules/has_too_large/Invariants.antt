use Rattle.std.proofs.Common.{◌≡◌, drop}
use Rattle.rc_work.proofs.Imports.{list_any, word_texts, is_too_large}
use Rattle.rc_work.proofs.rules.has_too_large.Given as goal

abbrev pub invariant-loop-word : goal.invariant-loop-word
invariant-loop-word l = list_any is_too_large (word_texts (drop l.word-index l.words)) ≡ list_any is_too_large (word_texts l.words)
