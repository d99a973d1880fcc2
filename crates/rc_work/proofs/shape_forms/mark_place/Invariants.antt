use Rattle.std.proofs.Common.{◌≡◌, ◌+◌, drop}
use Rattle.rc_work.proofs.Imports.{position_or_len, word_texts, is_mark}
use Rattle.rc_work.proofs.shape_forms.mark_place.Given as goal

abbrev pub invariant-loop-i : goal.invariant-loop-i
invariant-loop-i l =
    l.i + position_or_len (is_mark l.mark) (word_texts (drop l.i l.words)) ≡ position_or_len (is_mark l.mark) (word_texts l.words)
