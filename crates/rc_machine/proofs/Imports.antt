-- The names that files of proofs/ take from the crates below, from std and from specs/, passed on from one place.
pub use Rattle.rc_bindings.specs.Bindings.{BindingList, IsGivenBy, IsRowWith, OneBinding, TakesRows, given, with_tuples}
pub use Rattle.rc_bindings.specs.BindingsLaws.{rising_behind}
pub use Rattle.rc_bindings.specs.RegistersLaws.{get-project, get_of, if_ok, zip_there}
pub use Rattle.rc_fragment.specs.Fragment.{HasColumns, HasRowOf, HasScanned, HasShape, IsLookedUp, IsScan, IsThere, IsThereWith, edge_row, edge_table, key_and_extra, shape_of}
pub use Rattle.rc_fragment.specs.FragmentLaws.{number_has_shape, parted_edge, shape_by_number}
pub use Rattle.rc_fragment.specs.FragmentRows.{FragmentRows}
pub use Rattle.rc_fragment.specs.Holder.{AreGoodRows, AreKeyed, AreOfOneRelation, AreOfRelation, AreOffered, CanRaiseNew, GoesOn, HasNoRowAt, HasRefused, HasRisen, HasRoomFor, HasRowAt, HasTaken, HasTakenNothing, HeldStripe, Holding, IsAbove, IsHeld, IsHeldExclusive, IsLent, IsPartlyAddedAt, IsRefusal, LentStripe, MayTake, RefusedTake, all_reverted, changed_at, held_of, just_taken, offered_at, reverted, with_changes, with_changes_at, with_now, with_room, with_room_at, with_tuple_at}
pub use Rattle.rc_fragment.specs.HolderLaws.{readable_law}
pub use Rattle.rc_fragment.specs.HoldingLaws.{goes_on_again, goes_on_same, held-change, held-reverted, held-room, held-taken, risen_again}
pub use Rattle.rc_fragment.specs.Implied.{NumberedRow, lowered_all, raised_all}
pub use Rattle.rc_fragment.specs.ImpliedTables.{class_rows, is_kept, is_kept_of_class, is_of_class, numbered_rows}
pub use Rattle.rc_fragment.specs.RowValues.{IsParted, extra_columns, values_at}
pub use Rattle.rc_fragment.specs.RowValuesLaws.{extra_set, extra_within, length_values, row_of_parts, zip_values}
pub use Rattle.rc_fragment.specs.Tuples.{CanAddRow, CanAddTuple, HasTuple, IsFirstKept, changes_of_class}
pub use Rattle.rc_fragment.specs.declared.held.Held.{Held}
pub use Rattle.rc_fragment.specs.declared.held.TakeStop.{TakeStop}
pub use Rattle.rc_fragment.specs.declared.shape.EdgeShape.{EdgeShape}
pub use Rattle.rc_machine.specs.Access.{AreLockedFor, HasAnsweredByPath, HasListed, HasLockedPath, HasLookedUp, IsBehind, IsOnlyMatch, IsRowFound, IsTupleFound, leaving, row_reply}
pub use Rattle.rc_machine.specs.Applied.{AreTakenAlike, CanApply, CanInsert, CanRemove, CanReplace, HasApplied, HasRemoved, HasReplaced, replaced_in}
pub use Rattle.rc_machine.specs.Apply.{AreAddable, AreAllCounted, AreAllThere, AreExclusive, ArePlaces, CanChange, HaveRoom, IsAddable, IsSameButLent, all_changed, all_placed, edges_with, has_column, place_in, stripe_in, with_place}
pub use Rattle.rc_machine.specs.Checks.{is_beside, told_by}
pub use Rattle.rc_machine.specs.EdgeRead.{IsReadOver}
pub use Rattle.rc_machine.specs.Locks.{AreLocked, HasLocked, HasRefusedOne}
pub use Rattle.rc_machine.specs.Machine.{AreAsTaken, AreTakenAsOffered, HasAnswered, HasEvaluated, HasRefusedCall, HasReplied, HasRunCall, HasServed, IsRefused, locks_of, rows_now, rows_taken, stripes_held, told_answer}
pub use Rattle.rc_machine.specs.Read.{AreGood, AreMerges, AreReaders, HasMerged, HasMergedAll, HasMergedOn, IsCovered, IsMergeOf, IsMergeOn, IsReader, TakesMerges}
pub use Rattle.rc_machine.specs.ReplyLaws.{told_answer_fault, told_answer_ok}
pub use Rattle.rc_machine.specs.Run.{HasGoneOn, HasKeptLeast, IsAt, IsClassTaken, IsOn}
pub use Rattle.rc_machine.specs.Stopped.{CountsIfHeld, CountsOnlyHeld, stopped}
pub use Rattle.rc_machine.specs.Stripes.{AreStripesOf, IsStripeOf}
pub use Rattle.rc_machine.specs.Workspace.{AreWide, HasMoreTuples}
pub use Rattle.rc_machine.specs.declared.edge_read.EdgeRead.{EdgeRead}
pub use Rattle.rc_machine.specs.declared.stop.Stop.{Stop}
pub use Rattle.rc_machine.specs.declared.stripe.ClassStripe.{ClassStripe}
pub use Rattle.rc_plan.specs.Access.{AreLate, Asks, AsksFor, AsksForRow, AsksForRows, AsksQuery, InsertsRow, IsAccessPath, IsLate, MayBeLate, RemovesRow, UpdatesRow, extra_of, is_dep_check, is_given_lock, is_lock, is_lock_of, is_read_of}
pub use Rattle.rc_plan.specs.AccessLaws.{first_at, given_lock_falls, given_lock_locks, key_bound_more, late_at, late_read, named-no_lock, none_late, row_of_match, tuple_of_row}
pub use Rattle.rc_plan.specs.Compiled.{IsPlanOf, SpecWithPlans, plan_at}
pub use Rattle.rc_plan.specs.CompiledLaws.{plan_serves}
pub use Rattle.rc_plan.specs.EdgeClassLaws.{classes_from, classes_more, fewer, filter_next, others}
pub use Rattle.rc_plan.specs.EdgeClasses.{class_edges, classes_of, with_class}
pub use Rattle.rc_plan.specs.Evaluation.{RunState, answer, apply, emit, eval, named_by, replace, rows_as_taken, run, run_one, some_differs, some_left, stays_beside, stripes_locked}
pub use Rattle.rc_plan.specs.Laws.{Serves}
pub use Rattle.rc_plan.specs.LockOrderLaws.{IsOfClass-stripes_locked, of_locked_one}
pub use Rattle.rc_plan.specs.MatchLaws.{all_seen_match, pick-project}
pub use Rattle.rc_plan.specs.NamedStripes.{AreOfLocked, HasNamed, IsNamedBy}
pub use Rattle.rc_plan.specs.NamedStripesLaws.{named_law}
pub use Rattle.rc_plan.specs.PlanRules.{ChecksAreDone, Covers, CoversOld, FindsTuples, HasLockMode, HasProbed, IsFindable, IsInsert, IsKeyBound, IsLocked, IsQuery, IsUpdate, KeepsAll, MayApply, MayRead, Phase, Progress, after, at_start, given_columns, pattern_columns}
pub use Rattle.rc_plan.specs.ProbeLaws.{IsProbing, found_one, more_named, one_left, probe_searching, seen_at, tuple_is_named, tuple_named}
pub use Rattle.rc_plan.specs.RemoveLaws.{covered_without_probe}
pub use Rattle.rc_plan.specs.Resolved.{IsResolvedEdge}
pub use Rattle.rc_plan.specs.RunLaws.{cols_of-project, lock_keeps, named_grows, read_keeps, read_same, run-replied, search_begins}
pub use Rattle.rc_plan.specs.Search.{IsSearching, searching, updating}
pub use Rattle.rc_plan.specs.StripeLocks.{AreIn, IsOfClass, band, mode_number, stripe_lock_cmp, stripes_of}
pub use Rattle.rc_plan.specs.StripeLocksLaws.{AreIn-more, named_before, named_now, physical_stripe-agreeing, physical_stripe-in_band, stripe_lock_order, stripes_of_in, striping_in_target}
pub use Rattle.rc_plan.specs.UpdateLaws.{IsOld, bindings_agree, old_in, old_is_named}
pub use Rattle.rc_plan.specs.declared.access.AccessPath.{AccessPath}
pub use Rattle.rc_plan.specs.declared.statement.ReadMode.{ReadMode}
pub use Rattle.rc_plan.specs.declared.statement.ReadMode.TheVariants.{Lookup, Scan}
pub use Rattle.rc_plan.specs.declared.statement.Statement.{Statement}
pub use Rattle.rc_plan.specs.declared.statement.Statement.TheVariants.{Apply, CheckAbsent, CheckDep, CheckFound, Commit, Emit, Lock, Probe, Read, Release}
pub use Rattle.rc_plan.specs.declared.statement.Which.{Which}
pub use Rattle.rc_plan.specs.declared.statement.Which.TheVariants.{All}
pub use Rattle.rc_spec.specs.Acceptance.{IsSealed}
pub use Rattle.rc_spec.specs.Adequacy.{KeepsA3}
pub use Rattle.rc_spec.specs.Calls.{Fits, FitsAt, GivesTuple, all_columns, value_columns}
pub use Rattle.rc_spec.specs.CallsLaws.{fits_at_op, tuple_columns}
pub use Rattle.rc_spec.specs.Contents.{how_many, join}
pub use Rattle.rc_spec.specs.ContentsLaws.{target_within}
pub use Rattle.rc_spec.specs.CountedRows.{all_lowered, all_raised, count_at, is_row_at, lowered, raised, row_in, with_count}
pub use Rattle.rc_spec.specs.CountedRowsLaws.{AllHeld, AreCountedRows, AreCountedRows-rows_on, AreCountedRows-with_count, in_with_count, raised-lowered, recounts-apart, rising_with_count, with_count_new, with_count_old, without_rows-fragments}
pub use Rattle.rc_spec.specs.Decomposition.{bound, edge_at, no_node, node_at, source_and_key, target_columns}
pub use Rattle.rc_spec.specs.DecompositionLaws.{class_among, edge_at_in}
pub use Rattle.rc_spec.specs.Fragments.{EdgeRow, all_rows, edge_numbers, edge_row_cmp, fragment_of, on_stripes, row_stripe, rows_on, tuples_of_edge}
pub use Rattle.rc_spec.specs.FragmentsLaws.{all_rows_in, edge_row_order, fragments_in, in_all_rows, in_fragments, in_tuples_of_edge, rising_fragments, tuples_of_edge_in}
pub use Rattle.rc_spec.specs.HeathLaws.{IsJoined, IsReached, in_join, join_in, rising_join}
pub use Rattle.rc_spec.specs.InRange.{AreBelow, IsInRange, IsOpAmong, IsSetBelow}
pub use Rattle.rc_spec.specs.JoinLaws.{project-agreeing}
pub use Rattle.rc_spec.specs.Locks.{StripeLock, Suffices}
pub use Rattle.rc_spec.specs.Placement.{FindsByKey, IsPlaced, class_at, class_of, no_class, no_op, op_at, stripes_of_first}
pub use Rattle.rc_spec.specs.PlacementLaws.{class_of_known, physical_stripe_below, placed_total}
pub use Rattle.rc_spec.specs.Plain.{Outcome, at_most, first_broken_dependency, inserted_unless, plain, plain_by, row_cmp, rows_of, updated_unless, without}
pub use Rattle.rc_spec.specs.PlainLaws.{insert-present, plain-known, plain_satisfies, update-absent, update-found}
pub use Rattle.rc_spec.specs.Ranges.{in_ranges, is_asked, range_column, range_columns}
pub use Rattle.rc_spec.specs.RowLists.{rows_of_width}
pub use Rattle.rc_spec.specs.RowListsLaws.{length-flat_map_width, rows_of_width-flat_map}
pub use Rattle.rc_spec.specs.Stripes.{band_start, hash_of, mix, physical_stripe, stripe_of, stripe_total}
pub use Rattle.rc_spec.specs.StripesLaws.{band_before, one_class_law}
pub use Rattle.rc_spec.specs.declared.call.Call.{Call}
pub use Rattle.rc_spec.specs.declared.call.Reply.{Reply}
pub use Rattle.rc_spec.specs.declared.call.Reply.TheVariants.{Absent, Conflict, Inserted, Many, Present, Removed, Rows, Updated}
pub use Rattle.rc_spec.specs.declared.items.Class.{Class}
pub use Rattle.rc_spec.specs.declared.items.Edge.{Edge}
pub use Rattle.rc_spec.specs.declared.items.EdgeKind.TheVariants.{Singleton}
pub use Rattle.rc_spec.specs.declared.items.Op.{Op}
pub use Rattle.rc_spec.specs.declared.items.OpKind.{OpKind}
pub use Rattle.rc_spec.specs.declared.items.OpKind.TheVariants.{Insert, Query, Remove, Update}
pub use Rattle.rc_spec.specs.declared.lock.Mode.{Mode}
pub use Rattle.rc_spec.specs.declared.lock.Mode.TheVariants.{Exclusive, Shared}
pub use Rattle.rc_spec.specs.declared.range.Range.{Range}
pub use Rattle.rc_spec.specs.declared.spec.Spec.{Spec}
pub use Rattle.rc_tuple.specs.ColSet.{IsColSet, Within, has, inter, rank, union, with_column}
pub use Rattle.rc_tuple.specs.ColSetLaws.{has-gather, has-with_column, in_minus, in_range_below, in_range_bounds, in_union, minus_in, one_bit, range_with_len_more, rank_within, rising_range, slice_get-rank, test_from_within, union_left, union_right, within_from_test}
pub use Rattle.rc_tuple.specs.MergeLaws.{project_all, value_in}
pub use Rattle.rc_tuple.specs.Relation.{Follows, IsOver, IsRelation, Satisfies}
pub use Rattle.rc_tuple.specs.RelationLaws.{agree_from_test, agree_on-same, in_list_any, list_any_in, satisfies_fewer, test_from_agree}
pub use Rattle.rc_tuple.specs.RisingSet.{AreDistinct, In, IsRising, gather, put}
pub use Rattle.rc_tuple.specs.RisingSetLaws.{IsOrder, append_in_left, append_in_right, filter-filter, filter_in, flat_map_in, gather-rising, gather_in, get_or_in, has_in, in_append, in_filter, in_flat_map, in_gather, in_has, in_map, in_put, kept_once, map_in, nat_order, not_below_itself, number_lists_order, put_new, put_old, rising_filter, rising_gather, rising_put, same_rising, slice_get_in}
pub use Rattle.rc_tuple.specs.Tuple.{IsTuple, Pairs, agree_on, agrees, cols_of, get, matches, merge, merges_of, pair_cmp, pick, project, same_at, tuple_cmp, tuple_eq, value}
pub use Rattle.rc_tuple.specs.TupleLaws.{Agree, agree_from, agree_on_zip, cols-project, cols_of-zip, fewer_cols, in_merge, in_project, one_pair, pair_order, project-project, project_by, project_in, project_less, rising_cols, rising_cols-project, rising_columns, rising_merge, rising_pairs, same_from_test, test_from_same, tuple_order}
pub use Rattle.rc_tuple.specs.declared.dep.Dep.{Dep}
pub use Rattle.std.proofs.Common.{ap, arith, get_or, map, refl, subst, sym}
pub use Rattle.std.proofs.Math.ListN.{get_or-map}
pub use Rattle.std.proofs.Math.Nat.{eq-or-lt_of_le, mul-div_cancel}
pub use Rattle.std.proofs.Math.Seq.{take-suc}
pub use Rattle.std.proofs.lemmas.Bool.{and_from, and_parts, cases_Bool, cases_eq, eq-eqb, eqb-false, eqb-true, false≢true, le-leb, leb-true, ne_eqb, not-true, not_from_false, or_parts}
pub use Rattle.std.proofs.lemmas.Cmp.{ranked}
pub use Rattle.std.proofs.lemmas.List.{append-nil, append_assoc, drop_all, drop_more, get_or_default, length-drop, length-map, map-append, take_all, take_more}
pub use Rattle.std.proofs.lemmas.List.Elements.{filter-append}
pub use Rattle.std.proofs.lemmas.List.Filters.{dedup_is}
pub use Rattle.std.proofs.lemmas.List.Folds.{list_any-append, list_any_at}
pub use Rattle.std.proofs.lemmas.List.FromFn.{length-map-range_with_len, length-range_with_len}
pub use Rattle.std.proofs.lemmas.List.Sums.{fold-append, sum_by_more_le}
pub use Rattle.std.proofs.lemmas.Nat.{and_mask}
pub use Rattle.std.proofs.lemmas.Option.{get_or_from_slice_get, none-some, slice_get_within}
pub use Rattle.std.specs.Cmp.{nat_cmp_is, unsigned_ties}
pub use Rattle.std.specs.Global.{Vec}
pub use Rattle.std.specs.List.{flat_map, fold, list_all, list_any, range_with_len, sum_by, zip}
pub use Rattle.std.specs.Option.{is_some, option_copied, option_map_or}
pub use Rattle.std.specs.Ordering.{match_ordering, nat_cmp, ordering_then}
pub use Rattle.std.specs.Prelude.{List, OnOk, bit_and, count_ones, drop, take, unwrap_or}
pub use Rattle.std.specs.declared.cmp.Ordering.{Ordering}
pub use Rattle.std.specs.declared.cmp.Ordering.TheVariants.{Equal, Greater, Less}
