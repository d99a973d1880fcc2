-- The place of a reader of lines.
use Rattle.std.specs.Prelude.{◌≤◌, ◌^◌, length}
use Rattle.rc_text.specs.Lines.{TextPlace, IsLineStart}
use Rattle.rc_text.specs.declared.lines.Lines.TheInside.{Inside}

-- the place of a reader's fields
abbrev pub place_of : Inside → TextPlace
place_of lines = record { text = lines.bytes.now; at = lines.at; line = lines.line }

-- a line begins there, of a text that is not too long
pub record IsReadable (lines : Inside) : Type 0 where
  pub short : length lines.bytes.now ≤ 2 ^ 24
  pub start : IsLineStart (place_of lines)
