-- The names that files of specs/ take from the crates below and from std, passed on from one place.
pub use Rattle.rc_bindings.specs.Bindings.{BindingList, OneBinding, with_tuples}
pub use Rattle.rc_fragment.specs.Fragment.{HasAlone, HasSingle, IsFoundAt, IsLookedUp, IsScan, IsThere, edge_table}
pub use Rattle.rc_fragment.specs.Holder.{AreGoodRows, AreOfRelation, AreOffered, GoesOn, HasRisen, HasRoomFor, HeldStripe, Holding, IsAbove, IsHeld, IsHeldExclusive, IsRefusal, changed_at, held_of, offered_at, reverted}
pub use Rattle.rc_fragment.specs.Implied.{NumberedRow}
pub use Rattle.rc_fragment.specs.ImpliedTables.{class_rows}
pub use Rattle.rc_fragment.specs.RowValues.{extra_columns, values_at}
pub use Rattle.rc_fragment.specs.declared.held.Held.{Held}
pub use Rattle.rc_fragment.specs.declared.held.TakeStop.{TakeStop}
pub use Rattle.rc_fragment.specs.declared.shape.EdgeShape.{EdgeShape}
pub use Rattle.rc_plan.specs.Access.{IsAccessPath, is_lock_of, is_read_of}
pub use Rattle.rc_plan.specs.Compiled.{IsPlanOf, SpecWithPlans, plan_at}
pub use Rattle.rc_plan.specs.EdgeClasses.{class_edges}
pub use Rattle.rc_plan.specs.Evaluation.{eval, rows_as_taken, run, touched}
pub use Rattle.rc_plan.specs.NamedStripes.{AreOfLocked, HasNamed}
pub use Rattle.rc_plan.specs.PlanRules.{AreKnown, Covers, IsFindable, IsQuery, IsUpdate, KeepsFrom, Progress}
pub use Rattle.rc_plan.specs.ProbeLaws.{IsProbing}
pub use Rattle.rc_plan.specs.Resolved.{IsResolvedEdge}
pub use Rattle.rc_plan.specs.Search.{IsSearching, updating}
pub use Rattle.rc_plan.specs.StripeLocks.{AreIn, band, stripes_of}
pub use Rattle.rc_plan.specs.UpdateLaws.{IsOld}
pub use Rattle.rc_plan.specs.declared.access.AccessPath.{AccessPath}
pub use Rattle.rc_plan.specs.declared.statement.ReadMode.{ReadMode}
pub use Rattle.rc_plan.specs.declared.statement.Statement.{Statement}
pub use Rattle.rc_plan.specs.declared.statement.Which.{Which}
pub use Rattle.rc_spec.specs.Acceptance.{IsSealed}
pub use Rattle.rc_spec.specs.Calls.{Fits, GivesTuple, all_columns}
pub use Rattle.rc_spec.specs.CountedRows.{lowered, raised, row_in}
pub use Rattle.rc_spec.specs.CountedRowsLaws.{AreCountedRows}
pub use Rattle.rc_spec.specs.Decomposition.{bound, edge_at}
pub use Rattle.rc_spec.specs.Fragments.{EdgeRow, edge_numbers, edge_row_cmp, fragment_of, rows_on}
pub use Rattle.rc_spec.specs.Locks.{StripeLock}
pub use Rattle.rc_spec.specs.Placement.{class_at, class_of, op_at}
pub use Rattle.rc_spec.specs.Plain.{Outcome, at_most, plain}
pub use Rattle.rc_spec.specs.Stripes.{physical_stripe, stripe_total}
pub use Rattle.rc_spec.specs.declared.call.Call.{Call}
pub use Rattle.rc_spec.specs.declared.call.Reply.{Reply}
pub use Rattle.rc_spec.specs.declared.call.Reply.TheVariants.{Absent, Inserted, Removed, Rows, Updated}
pub use Rattle.rc_spec.specs.declared.items.Op.{Op}
pub use Rattle.rc_spec.specs.declared.items.OpKind.{OpKind}
pub use Rattle.rc_spec.specs.declared.items.OpKind.TheVariants.{Insert, Query, Remove, Update}
pub use Rattle.rc_spec.specs.declared.lock.Mode.{Mode}
pub use Rattle.rc_spec.specs.declared.lock.Mode.TheVariants.{Exclusive}
pub use Rattle.rc_spec.specs.declared.spec.Spec.{Spec}
pub use Rattle.rc_tuple.specs.ColSet.{Within, inter, union}
pub use Rattle.rc_tuple.specs.Relation.{IsRelation, Satisfies}
pub use Rattle.rc_tuple.specs.RisingSet.{AreDistinct, In, IsRising, gather}
pub use Rattle.rc_tuple.specs.RisingSetLaws.{in_map}
pub use Rattle.rc_tuple.specs.Tuple.{Pairs, agree_on, agrees, cols_of, matches, merge, pair_cmp, pick}
pub use Rattle.std.specs.List.{flat_map, list_any, zip}
pub use Rattle.std.specs.Ordering.{nat_cmp}
pub use Rattle.std.specs.Prelude.{Bool, List, None, Option, Some, not, true, ℕ}
