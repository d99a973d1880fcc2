-- The names that files of specs/ take from the crates below and from std, passed on from one place.
pub use Rattle.rc_plan.specs.Compiled.{IsPlanOf, plan_at}
pub use Rattle.rc_plan.specs.PlanRules.{AreKnown, IsFirstBrokenPlanRule, IsKnown, KeepsPlanRules}
pub use Rattle.rc_plan.specs.PlanText.{plan_rule_text, plan_text}
pub use Rattle.rc_plan.specs.declared.refusal.PlanRefusal.{PlanRefusal}
pub use Rattle.rc_plan.specs.declared.statement.ReadMode.{ReadMode}
pub use Rattle.rc_plan.specs.declared.statement.ReadMode.TheVariants.{Lookup, Scan}
pub use Rattle.rc_plan.specs.declared.statement.Statement.{Statement}
pub use Rattle.rc_plan.specs.declared.statement.Statement.TheVariants.{Apply, CheckAbsent, CheckDep, CheckFound, Commit, Emit, Lock, Probe, Read, Release}
pub use Rattle.rc_plan.specs.declared.statement.Which.{Which}
pub use Rattle.rc_query.specs.Planned.{IsPlanned}
pub use Rattle.rc_query.specs.PlannedLaws.{one_planned}
pub use Rattle.rc_reader.specs.Answers.{rest_place}
pub use Rattle.rc_reader.specs.Forms.{all_plain, onto_words, plain_words_of, texts}
pub use Rattle.rc_reader.specs.MembersLaws.{distinct_push, each_push}
pub use Rattle.rc_reader.specs.Names.{has_unknown, names_twice, number_among, numbers_of}
pub use Rattle.rc_reader.specs.NamesLaws.{number_among-below, numbers_of-below}
pub use Rattle.rc_reader.specs.declared.reading.Rest.{Rest}
pub use Rattle.rc_spec.specs.Acceptance.{IsSealed}
pub use Rattle.rc_spec.specs.Calls.{all_columns}
pub use Rattle.rc_spec.specs.Decomposition.{edge_at}
pub use Rattle.rc_spec.specs.Names.{class_names, column_names, edge_names, op_names}
pub use Rattle.rc_spec.specs.Placement.{class_at, op_at}
pub use Rattle.rc_spec.specs.RefusalText.{no_column}
pub use Rattle.rc_spec.specs.declared.items.Class.{Class}
pub use Rattle.rc_spec.specs.declared.items.Column.{Column}
pub use Rattle.rc_spec.specs.declared.items.Edge.{Edge}
pub use Rattle.rc_spec.specs.declared.items.Op.{Op}
pub use Rattle.rc_spec.specs.declared.lock.Mode.{Mode}
pub use Rattle.rc_spec.specs.declared.lock.Mode.TheVariants.{Exclusive, Shared}
pub use Rattle.rc_spec.specs.declared.spec.Spec.{Spec}
pub use Rattle.rc_text.specs.Language.{Language, broken_at}
pub use Rattle.rc_text.specs.LanguageLaws.{Keeps, read_keeps}
pub use Rattle.rc_text.specs.Lines.{ContentLine, IsLineStart, TextPlace, content_from, past_end_of, printed_lines, start_of}
pub use Rattle.rc_text.specs.Numbers.{is_number, u64_of}
pub use Rattle.rc_text.specs.Words.{Found, WordText, found_then, next_word_of, plain_text, quoted_text, words_of}
pub use Rattle.rc_text.specs.WordsLaws.{words_of-step}
pub use Rattle.rc_text.specs.declared.numbers.NumFault.{NumFault}
pub use Rattle.rc_text.specs.declared.words.WordFault.{WordFault}
pub use Rattle.rc_tuple.specs.ColSet.{Within}
pub use Rattle.rc_tuple.specs.ColSetLaws.{in_range_below}
pub use Rattle.rc_tuple.specs.RisingSet.{AreDistinct, In, IsRising, gather}
pub use Rattle.rc_tuple.specs.RisingSetLaws.{in_gather, nat_order, rising_gather}
pub use Rattle.std.specs.List.{flat_map, list_any, range_with_len}
pub use Rattle.std.specs.Option.{ok_or, option_and_then, option_map}
pub use Rattle.std.specs.Ordering.{nat_cmp}
pub use Rattle.std.specs.Str.{bytes_eq}
