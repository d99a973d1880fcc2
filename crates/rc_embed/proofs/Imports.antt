-- The names that files of proofs/ take from the crates below, from std and from specs/, passed on from one place.
pub use Rattle.rc_embed.specs.Asked.{AskedCall, asked_with, calls_by, columns_of_all, known_columns}
pub use Rattle.rc_embed.specs.Asking.{all_declared, asked_by, asked_calls}
pub use Rattle.rc_embed.specs.Closing.{IsPlaceOf, number_of, pass_count}
pub use Rattle.rc_embed.specs.Declaring.{declared_by, declared_call, declared_fault_at, declared_fault_in, declared_fault_of, declares_values, first_declared_fault, pattern_at}
pub use Rattle.rc_embed.specs.DeclaringLaws.{declared_calls_are_covered}
pub use Rattle.rc_embed.specs.EntriesLaws.{told_last}
pub use Rattle.rc_embed.specs.Frames.{with_picked_reply, with_replies, with_reply}
pub use Rattle.rc_embed.specs.Holding.{held}
pub use Rattle.rc_embed.specs.OpenFrames.{BreaksRule, HasRefusal, IsOpenedBy, IsOpenedWithBy, IsRefusedBy, IsRefusedWithBy, TellsFault, options_asked}
pub use Rattle.rc_embed.specs.OpenGroupLaws.{no_declared_call_is_uncovered, open_groups_keep_their_locks}
pub use Rattle.rc_embed.specs.OpenGroups.{HasCalledOpen, HasDeclaredCause, HasNoRefusalIn, HasOpenCause, IsLeftBy, IsUncoveredIn, call_in, open_fault_in, open_fault_of}
pub use Rattle.rc_embed.specs.Opened.{AreInBounds, ArePlannedOf, AreShort, IsAskedBy, IsBuiltOf, IsCompiledWith, IsMadeOf, IsOfTexts, IsOpened, IsOpenedWith, IsPlannedWith, IsRefusedFor, IsRefusedPlan, IsRefusedWith, IsStoreOfTexts, IsUnplannedFor, OpenSeen}
pub use Rattle.rc_embed.specs.OpenedLaws.{opened_plans, refused_without_plans}
pub use Rattle.rc_embed.specs.Refused.{HasCallCause, fault_at, fault_in, fault_of, first_fault, is_group, spent_by}
pub use Rattle.rc_embed.specs.Replies.{count_fitting, joined, values_of}
pub use Rattle.rc_embed.specs.ResumedFrames.{BreaksRuleOf, IsUnresumedBy, TellsResumeFault}
pub use Rattle.rc_embed.specs.Resuming.{IsOneOf, IsOneResumed, IsResumedOf, IsResumedWith, IsUnresumedFor, Suffices}
pub use Rattle.rc_embed.specs.Session.{HasCommitted, HasNoCall, HeldFor, IsStateAsBefore, IsStateOf, IsUnchanged, SessionSeen, alone, made_of, prepared_in, receipt_of, replies_given, replies_in, reply_of, uncommitted_in}
pub use Rattle.rc_embed.specs.SessionInside.{session_seen}
pub use Rattle.rc_embed.specs.declared.fault.CallFault.{CallFault}
pub use Rattle.rc_embed.specs.declared.fault.CallFault.TheVariants.{Busy, Count, Memory, Prepared, Spent, UnknownOperation, Values}
pub use Rattle.rc_embed.specs.declared.fault.OpenCallFault.{OpenCallFault}
pub use Rattle.rc_embed.specs.declared.fault.OpenFault.{OpenFault}
pub use Rattle.rc_embed.specs.declared.fault.OpenFault.TheVariants.{Line, Options, Plan, PlanLine, Rule, ShapeLine, TooLong}
pub use Rattle.rc_embed.specs.declared.fault.ResumeFault.{ResumeFault}
pub use Rattle.rc_embed.specs.declared.fault.ResumeFault.TheVariants.{Limit, Other, Refused, Sessions}
pub use Rattle.rc_embed.specs.declared.frame.Frame.{Frame}
pub use Rattle.rc_embed.specs.declared.open_frame.OpenFrame.{OpenFrame}
pub use Rattle.rc_embed.specs.declared.session.Last.TheVariants.{Group}
pub use Rattle.rc_embed.specs.declared.session.State.{State}
pub use Rattle.rc_embed.specs.declared.session.State.TheVariants.{Idle, Moving, Open, PreparedGroup}
pub use Rattle.rc_handplan.specs.Chosen.{AllKeepRules, AreChosen, IsFirstRefused}
pub use Rattle.rc_handplan.specs.HandGrammar.{plans_of}
pub use Rattle.rc_handplan.specs.Hands.{AreHands}
pub use Rattle.rc_handplan.specs.declared.hand.Hand.{Hand}
pub use Rattle.rc_inline.specs.ApartLaws.{embedded_apart, with_ops}
pub use Rattle.rc_inline.specs.Inlining.{HasItsSchema}
pub use Rattle.rc_inline.specs.Placing.{embedded}
pub use Rattle.rc_inline.specs.PlacingLaws.{embedded_named, embedded_schema}
pub use Rattle.rc_journal.specs.PartEntries.{PartEntries}
pub use Rattle.rc_multi.specs.Group.{Covers, with_step}
pub use Rattle.rc_multi.specs.GroupLocks.{HasOperation}
pub use Rattle.rc_open.specs.ExtendedLaws.{known_over}
pub use Rattle.rc_plan.specs.Compiled.{IsCompiled, SpecWithPlans}
pub use Rattle.rc_plan.specs.declared.refusal.PlanRefusal.{PlanRefusal}
pub use Rattle.rc_reader.specs.Grammar.{text_version}
pub use Rattle.rc_rel.specs.Further.{Extends}
pub use Rattle.rc_rel.specs.HistoryLaws.{with_replies-parts}
pub use Rattle.rc_rel.specs.declared.entry.Step.{Step}
pub use Rattle.rc_row.specs.Passes.{IsMoreRoom, PassSeen, compiled_of, core_of, new_pass, spec_of}
pub use Rattle.rc_row.specs.declared.keeping.Keeping.{Keeping}
pub use Rattle.rc_row.specs.declared.keeping.Keeping.TheVariants.{Counts}
pub use Rattle.rc_spec.specs.Acceptance.{IsAccepted, IsSealed}
pub use Rattle.rc_spec.specs.Calls.{Fits}
pub use Rattle.rc_spec.specs.InRange.{IsInRange, IsOpAmong}
pub use Rattle.rc_spec.specs.Names.{IsWellNamed}
pub use Rattle.rc_spec.specs.Placement.{no_op, op_at}
pub use Rattle.rc_spec.specs.Ranges.{range_columns}
pub use Rattle.rc_spec.specs.declared.call.Call.{Call}
pub use Rattle.rc_spec.specs.declared.call.Reply.{Reply}
pub use Rattle.rc_spec.specs.declared.items.Column.{Column}
pub use Rattle.rc_spec.specs.declared.items.Op.{Op}
pub use Rattle.rc_spec.specs.declared.spec.Spec.{Spec}
pub use Rattle.rc_store.specs.Closed.{ClosedSeen}
pub use Rattle.rc_store.specs.FreeLaws.{new_are_free}
pub use Rattle.rc_store.specs.OpenBacks.{IsCallBack}
pub use Rattle.rc_store.specs.OpenGroups.{HasMadeOpenGroup, OpenGroupSeen}
pub use Rattle.rc_store.specs.Running.{HasBegun, HasBegunGroup, RunningGroupSeen, RunningSeen, calls_of}
pub use Rattle.rc_store.specs.Store.{AreRepliesFor, HasMade, HasMadeEntry, HasMadeGroup, HoldsExactly, IsAsBefore, IsFree, IsReplyFor, StoreSeen, receipt_at}
pub use Rattle.rc_store.specs.declared.receipt.GroupReceipt.{GroupReceipt}
pub use Rattle.rc_store.specs.declared.receipt.Position.{Position}
pub use Rattle.rc_store.specs.declared.receipt.Receipt.{Receipt}
pub use Rattle.rc_tuple.specs.Relation.{Follows}
pub use Rattle.rc_tuple.specs.RisingSet.{AreDistinct, In, gather}
pub use Rattle.rc_tuple.specs.RisingSetLaws.{append_in_left, append_in_right, distinct_left, get_or_in}
pub use Rattle.rc_tuple.specs.Tuple.{Pairs, pair_cmp}
pub use Rattle.rc_tuple.specs.declared.dep.Dep.{Dep}
pub use Rattle.rc_work.specs.CallColumns.{HasKnownColumns, call_of, written_columns_at}
pub use Rattle.rc_work.specs.CallColumnsLaws.{written_columns_at-few}
pub use Rattle.rc_work.specs.CallLaws.{Fits-call_over}
pub use Rattle.rc_work.specs.DistinctLaws.{length-distinct-le}
pub use Rattle.rc_work.specs.Fitting.{IsOfWords}
pub use Rattle.rc_work.specs.Shapes.{IsShapeOf, with_operations}
pub use Rattle.rc_work.specs.ShapesGrammar.{shapes_of}
pub use Rattle.rc_work.specs.ShapesLaws.{HasKnownColumns-over}
pub use Rattle.std.proofs.Common.{arith, refl, rules, subst}
pub use Rattle.std.proofs.Math.Seq.{drop-append-add}
pub use Rattle.std.proofs.lemmas.Bool.{cases_lt, false≢true, le-leb}
pub use Rattle.std.proofs.lemmas.Grind.{flat_map-append}
pub use Rattle.std.proofs.lemmas.List.{append-nil, append_assoc, drop-drop, drop_more, get_or-drop, get_or-map, get_or_default, length-append, length-drop, length-map, take-append-drop, take-take, take_all, take_at, take_more, take_more_set}
pub use Rattle.std.proofs.lemmas.List.Edits.{map_over_more}
pub use Rattle.std.proofs.lemmas.List.Elements.{All-cons, All-nil}
pub use Rattle.std.proofs.lemmas.List.FromFn.{get_or-map-range_with_len, get_or-range_with_len, length-map-range_with_len, length-range_with_len, map-range_with_len_more}
pub use Rattle.std.proofs.lemmas.Option.{same_Some, slice_get-get_or, slice_get_past}
pub use Rattle.std.specs.Arc.{arc_value}
pub use Rattle.std.specs.List.{AllByRecursion, range_with_len, slice_get, zip}
pub use Rattle.std.specs.Option.{option_or}
pub use Rattle.std.specs.Ordering.{nat_cmp}
pub use Rattle.std.specs.Prelude.{IfOk, List}
