-- What clap reads of the program.
use Rattle.std.specs.Prelude.{ℕ, Bool, List, [], ◌∷◌, ◌==◌, true, false, codes, option_and_then, option_map, Option, Some, None, if◌then◌else◌}
use Rattle.std.specs.Str.{bytes_eq}
use Rattle.clap.specs.Words.{App, Row, Rule, Text, first_of, new_app, new_rule, with_rule, with_subcommand}
use Rattle.rc_text.specs.Numbers.{u64_of}
use Rattle.rc_command.specs.declared.command.Command.{Command}
use Rattle.rc_command.specs.declared.command.Command.TheVariants as command
use Rattle.rc_command.specs.declared.command.TextCommand.TheVariants as of_text
use Rattle.rc_command.specs.Command.{audit_of, big_of, command_named, dot_of}

-- the program: a subcommand must be there, and neither help nor version is asked for
abbrev pub program : App
program = let app = new_app (codes "relc") in record app {
  top = record app.top {
    subcommand_required = true;
    disable_help_flag = true;
    disable_help_subcommand = true;
  };
}

-- a word that must be there
abbrev pub required_word : Text → Rule
required_word id = record (new_rule id) { required = true }

-- `big` with its two words
abbrev pub big_app : App
big_app = with_rule (with_rule (new_app (codes "big")) (required_word (codes "SEED"))) (required_word (codes "N"))

-- `dot` with a word that may be left out
abbrev pub dot_app : App
dot_app = with_rule (new_app (codes "dot")) (new_rule (codes "OP"))

-- `audit` with a word that may be left out
abbrev pub audit_app : App
audit_app = with_rule (new_app (codes "audit")) (new_rule (codes "FORM"))

-- the program with the commands that make something of what they read, and take no further word
abbrev pub program_making : App
program_making =
    with_subcommand (with_subcommand (with_subcommand (with_subcommand (with_subcommand (with_subcommand program (new_app (codes "check")).top)
    (new_app (codes "plan")).top) (new_app (codes "run")).top) (new_app (codes "hand")).top) (new_app (codes "group")).top) (new_app (codes "open")).top

-- the program with its commands
abbrev pub grammar : App
grammar = with_subcommand (with_subcommand (with_subcommand program_making audit_app.top) dot_app.top) big_app.top

-- the word begins with a hyphen, 45
abbrev pub is_flag : List ℕ → Bool
is_flag [] = false
is_flag (byte ∷ rest) = byte == 45

-- the command of the two words behind `big`
abbrev pub big_words : Option Text → Option Text → Option Command
big_words (Some seed) (Some calls) = big_of (u64_of seed) (u64_of calls)
big_words (Some seed) None = None
big_words None calls = None

-- the command of the word behind `dot`, where there is one
abbrev pub dot_words : Option Text → Option Command
dot_words (Some op) = dot_of op
dot_words None = Some (command.OfText of_text.Dot)

-- the command of the word behind `audit`, where there is one
abbrev pub audit_words : Option Text → Option Command
audit_words (Some form) = audit_of form
audit_words None = Some (command.OfText of_text.Audit)

-- the command of a subcommand's name and what clap found behind it
abbrev pub met_as : Text → List Row → Option Command
met_as name rows = if bytes_eq name (codes "big") then big_words (first_of (codes "SEED") rows) (first_of (codes "N") rows)
    else (if bytes_eq name (codes "dot") then dot_words (first_of (codes "OP") rows)
    else (if bytes_eq name (codes "audit") then audit_words (first_of (codes "FORM") rows)
    else option_map command.OfText (command_named name)))

-- the command of the subcommand that clap met, where there is one
abbrev pub met : Option (Text × List Row) → Option Command
met = option_and_then (λ p. met_as p.0 p.1)
