use Rattle.std.proofs.Common.{◌≡◌, drop, map, string_bytes}
use Rattle.rc_command.proofs.Imports.{list_any, is_flag}
use Rattle.rc_command.proofs.command.has_flag.Given as goal

abbrev pub invariant-loop-word : goal.invariant-loop-word
invariant-loop-word l =
    list_any is_flag (map string_bytes (drop l.word-index l.words)) ≡ list_any is_flag (map string_bytes l.words)
