use Rattle.std.proofs.Common.{◌≡◌, ◌++◌, drop}
use Rattle.rc_work.proofs.Imports.{texts, word_texts, plain_words}
use Rattle.rc_work.proofs.shapes.plain_words.Given as goal

-- the words so far, and those that are left
abbrev pub invariant-loop-word : goal.invariant-loop-word
invariant-loop-word l = texts l.plain.items ++ plain_words (word_texts (drop l.word-index l.words)) ≡ plain_words (word_texts l.words)
