-- The words of a line, collected one after another.
use Rattle.std.proofs.Common.{List, ◌++◌, Option, Some, None}
use Rattle.rc_text.specs.Words.{WordText}

abbrev pub with_front : List WordText → Option (List WordText) → Option (List WordText)
with_front front None = None
with_front front (Some words) = Some (front ++ words)
