-- The names that files of proofs/ take from the crates below, from std and from specs/, passed on from one place.
pub use Rattle.rc_handplan.specs.Answers.{FailsLine, Refuses, TakesLine, refusal_at}
pub use Rattle.rc_handplan.specs.Chosen.{AllKeepRules, IsChosenBy, plan_for}
pub use Rattle.rc_handplan.specs.ChosenLaws.{written_is_plan}
pub use Rattle.rc_handplan.specs.HandGrammar.{after_line, after_start, after_statement, going_on, hand_language, hands_from, hands_reading_to, statement_in, with_next}
pub use Rattle.rc_handplan.specs.HandGrammarLaws.{by_start, ended, goes_on, none_left, of_statement, runs_out}
pub use Rattle.rc_handplan.specs.Hands.{HaveSets, is_of, last_plan, onto_last, with_statement}
pub use Rattle.rc_handplan.specs.HandsLaws.{read_hands}
pub use Rattle.rc_handplan.specs.PlansText.{op_text}
pub use Rattle.rc_handplan.specs.Starts.{ends_plans, line_start}
pub use Rattle.rc_handplan.specs.Statements.{columns_named}
pub use Rattle.rc_handplan.specs.declared.hand.Hand.{Hand}
pub use Rattle.rc_handplan.specs.declared.refusal.HandRule.TheVariants.{H4, S8}
pub use Rattle.rc_handplan.specs.declared.refusal.LineFault.{LineFault}
pub use Rattle.rc_handplan.specs.declared.starts.Closing.{Closing}
pub use Rattle.rc_handplan.specs.declared.starts.LineStart.{LineStart}
pub use Rattle.rc_plan.specs.Compiled.{IsPlanOf, plan_at}
pub use Rattle.rc_plan.specs.PlanRules.{KeepsPlanRules}
pub use Rattle.rc_plan.specs.PlanText.{plan_text}
pub use Rattle.rc_plan.specs.declared.statement.Statement.{Statement}
pub use Rattle.rc_reader.specs.Answers.{rest_place}
pub use Rattle.rc_reader.specs.Forms.{texts}
pub use Rattle.rc_reader.specs.MembersLaws.{distinct_apart, distinct_from_test, distinct_push, each_push, test_from_distinct}
pub use Rattle.rc_reader.specs.Names.{has_repeat, has_unknown, number_among, numbers_of}
pub use Rattle.rc_spec.specs.Names.{column_names}
pub use Rattle.rc_spec.specs.Placement.{op_at}
pub use Rattle.rc_spec.specs.declared.spec.Spec.{Spec}
pub use Rattle.rc_text.specs.Lines.{ContentLine, IsLineStart, TextPlace, content_from, content_of, past_end_of}
pub use Rattle.rc_text.specs.declared.lines.Line.{Line}
pub use Rattle.rc_tuple.specs.ColSet.{has, with_column}
pub use Rattle.rc_tuple.specs.ColSetLaws.{range_with_len_more}
pub use Rattle.rc_tuple.specs.RisingSet.{AreDistinct, In, gather}
pub use Rattle.rc_tuple.specs.RisingSetLaws.{gather_in, gather_more, get_or_in, has_in, in_gather, in_has, nat_order}
pub use Rattle.std.proofs.Common.{arith, drop, refl, subst, suc, sym, take}
pub use Rattle.std.proofs.lemmas.Bool.{cases_Bool, cases_lt, eqb-true, ltb-false, ltb-true, ne_eqb}
pub use Rattle.std.proofs.lemmas.List.{flat_map_more, get_or_append_left, get_or_push, length-append}
pub use Rattle.std.proofs.lemmas.List.Sums.{passes_at_first}
pub use Rattle.std.proofs.lemmas.Option.{cond_some}
pub use Rattle.std.specs.List.{cons_option, flat_map, position, position_or_len, range_with_len}
pub use Rattle.std.specs.Ordering.{nat_cmp}
pub use Rattle.std.specs.Prelude.{is_none}
