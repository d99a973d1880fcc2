use Rattle.std.proofs.Common.{◌≡◌, ◌++◌, drop}
use Rattle.rc_work.proofs.Imports.{word_texts, raw_values}
use Rattle.rc_work.proofs.rules.raw_values.Given as goal

-- the values so far, and those of the words that are left
abbrev pub invariant-loop-word : goal.invariant-loop-word
invariant-loop-word l = l.values ++ raw_values (word_texts (drop l.word-index l.words)) ≡ raw_values (word_texts l.words)
