use Rattle.std.proofs.Common.{◌≡◌, length}
use Rattle.rc_work.specs.LineForms.{word_texts, words_read}
use Rattle.rc_work.proofs.WordLemmas.{with_front}
use Rattle.rc_work.proofs.words.line_words.Given as goal

-- the words so far, and those that are left, are the line's
abbrev pub invariant-loop-word : goal.invariant-loop-word
invariant-loop-word l = with_front (word_texts l.words.items) (words_read l.rest) ≡ words_read l.bytes

abbrev pub decreases-loop-word : goal.decreases-loop-word
decreases-loop-word l = length l.rest
