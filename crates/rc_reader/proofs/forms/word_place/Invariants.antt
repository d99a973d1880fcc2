use Rattle.std.proofs.Common.{◌≡◌, ◌+◌, drop}
use Rattle.std.specs.List.{position_or_len}
use Rattle.std.specs.Str.{bytes_eq}
use Rattle.rc_reader.specs.Forms.{texts}
use Rattle.rc_reader.proofs.forms.word_place.Given as goal

abbrev pub invariant-loop-i : goal.invariant-loop-i
invariant-loop-i l =
    l.i + position_or_len (λ word. bytes_eq word l.wanted) (texts (drop l.i l.words))
    ≡ position_or_len (λ word. bytes_eq word l.wanted) (texts l.words)
