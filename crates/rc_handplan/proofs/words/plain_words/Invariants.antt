use Rattle.std.proofs.Common.{◌≡◌, length}
use Rattle.rc_reader.specs.Forms.{texts, plain_words_of}
use Rattle.rc_handplan.proofs.WordLemmas.{with_front}
use Rattle.rc_handplan.proofs.words.plain_words.Given as goal

-- the words so far, and those that are left, are the line's
abbrev pub invariant-loop-word : goal.invariant-loop-word
invariant-loop-word l = with_front (texts l.words.items) (plain_words_of l.rest) ≡ plain_words_of l.bytes

abbrev pub decreases-loop-word : goal.decreases-loop-word
decreases-loop-word l = length l.rest
