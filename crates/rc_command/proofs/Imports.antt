-- The names that files of proofs/ take from the crates below, from std and from specs/, passed on from one place.
pub use Rattle.clap.proofs.WalkLemmas.{first_value-rows, walk_stopped}
pub use Rattle.clap.specs.Faults.{check_fault, defaults_fault, entered_fault, level_fault, settle_fault, step_fault, stray_fault, turn_fault, walk_fault, word_fault}
pub use Rattle.clap.specs.Kinds.{or_else}
pub use Rattle.clap.specs.Lexer.{long_of, short_of}
pub use Rattle.clap.specs.Simple.{label_of, names_of}
pub use Rattle.clap.specs.Values.{reading_of}
pub use Rattle.clap.specs.Walk.{Held, Names, Step, Walk, after_step, answers_to, finished, idle, nothing_held, settled, subcommand_met, value, walk, walk_from, walked, word_met}
pub use Rattle.clap.specs.Words.{App, IsAmong, Kinds, Row, Rule, Shape, Text, app_of, built, fault_of, found_of, is_simple, is_simple_and_free, kind_of, new_rule, rows_of, rule_of, subcommand_name_of, subcommand_of, subcommand_rows_of, with_rule, with_subcommand}
pub use Rattle.clap.specs.declared.error.kind.ErrorKind.{ErrorKind}
pub use Rattle.clap.specs.declared.parser.matches.ArgMatches.{ArgMatches}
pub use Rattle.clap.specs.declared.parser.matches.ValueSource.TheVariants.{CommandLine}
pub use Rattle.rc_command.specs.Command.{command_of}
pub use Rattle.rc_command.specs.Grammar.{audit_app, audit_words, big_app, big_words, dot_app, dot_words, grammar, is_flag, met, met_as, program, program_making, required_word}
pub use Rattle.rc_command.specs.declared.command.Command.{Command}
pub use Rattle.std.proofs.lemmas.List.{drop-map, take_rest}
pub use Rattle.std.proofs.lemmas.Result.{IfOk-weaker}
pub use Rattle.std.proofs.lemmas.Slice.Eq.{bytes_eq-Decides}
pub use Rattle.std.specs.List.{list_any}
pub use Rattle.std.specs.Str.{bytes_eq}
