use Rattle.std.proofs.Common.{ℕ, ◌*◌, ◌-◌, ◌<◌, List, length, take, drop, sym, ap, ◌∙◌, subst}
use Rattle.rc_work.proofs.Imports.{In, AreDistinct, tuple_of, columns_at, ranges_of, columns_at-below, columns_at-distinct, length-bounds, with_operations}
use Rattle.rc_work.proofs.CallLemmas.{ranges_found, ranges_within, count_given, columns_given, bounds_left, same_call}
use Rattle.rc_work.proofs.calls.refill_over.Goals as goal

pub overflow_sub-given : goal.overflow_sub-given
overflow_sub-given c = ranges_within (with_operations c.args.spec.now c.args.shapes.now) c.args.op c.args.cols.now c.range_columns-ranges.result.now c.requires.cols (ranges_found (with_operations c.args.spec.now c.args.shapes.now) c.args.op c.op_over.result.now c.range_columns-ranges.result.now c.requires.known c.op_over.ensures c.range_columns-ranges.ensures)

pub refill-requires-clause-below : goal.refill-requires-clause-below
refill-requires-clause-below c =
    subst (λ (cols : List ℕ). (k : ℕ) → In k cols → k < 32)
    (sym (columns_given (with_operations c.args.spec.now c.args.shapes.now) c.args.op c.args.cols.now c.range_columns-ranges.result.now c.requires.cols (ranges_found (with_operations c.args.spec.now c.args.shapes.now) c.args.op c.op_over.result.now c.range_columns-ranges.result.now c.requires.known c.op_over.ensures c.range_columns-ranges.ensures)))
    (columns_at-below (with_operations c.args.spec.now c.args.shapes.now) c.args.op c.requires.columns)

pub refill-requires-clause-distinct : goal.refill-requires-clause-distinct
refill-requires-clause-distinct c =
    subst (λ (cols : List ℕ). AreDistinct cols)
    (sym (columns_given (with_operations c.args.spec.now c.args.shapes.now) c.args.op c.args.cols.now c.range_columns-ranges.result.now c.requires.cols (ranges_found (with_operations c.args.spec.now c.args.shapes.now) c.args.op c.op_over.result.now c.range_columns-ranges.result.now c.requires.known c.op_over.ensures c.range_columns-ranges.ensures)))
    (columns_at-distinct (with_operations c.args.spec.now c.args.shapes.now) c.args.op c.requires.columns.distinct)

pub refill_ranges-requires : goal.refill_ranges-requires
refill_ranges-requires c =
    let ranges = ranges_found (with_operations c.args.spec.now c.args.shapes.now) c.args.op c.op_over.result.now c.range_columns-ranges.result.now c.requires.known c.op_over.ensures c.range_columns-ranges.ensures in
    let count = c.requires.count ∙ ap (λ (cols : List ℕ). length cols) c.requires.cols in
    ap (λ (bounds : List ℕ). length bounds) (bounds_left (with_operations c.args.spec.now c.args.shapes.now) c.args.op c.args.cols.now c.range_columns-ranges.result.now c.requires.cols ranges c.args.values.now)
    ∙ length-bounds (with_operations c.args.spec.now c.args.shapes.now) c.args.op c.args.values.now count
    ∙ sym (ap (λ (l : List ℕ). 2 * length l) ranges)

pub returns-clause-call : goal.returns-clause-call
returns-clause-call c =
    let spec = (with_operations c.args.spec.now c.args.shapes.now) in
    let ranges = ranges_found (with_operations c.args.spec.now c.args.shapes.now) c.args.op c.op_over.result.now c.range_columns-ranges.result.now c.requires.known c.op_over.ensures c.range_columns-ranges.ensures in
    let cols = columns_given spec c.args.op c.args.cols.now c.range_columns-ranges.result.now c.requires.cols ranges in
    let given = count_given spec c.args.op c.args.cols.now c.range_columns-ranges.result.now c.requires.cols ranges in
    let left = bounds_left spec c.args.op c.args.cols.now c.range_columns-ranges.result.now c.requires.cols ranges c.args.values.now in
    same_call c.args.op c.refill.new.self _ c.refill_ranges.new.ranges _
    (c.in_ok-refill.ensures.ok
    ∙ ap (λ (l : List ℕ). tuple_of l (take (length c.args.cols.now - 2 * length c.range_columns-ranges.result.now) c.args.values.now)) cols
    ∙ ap (λ n. tuple_of (columns_at spec c.args.op) (take n c.args.values.now)) given)
    (c.in_ok-refill_ranges.ensures.ranges ∙ ap (ranges_of c.range_columns-ranges.result.now) left
    ∙ ap (λ (l : List ℕ). ranges_of l (drop (length (columns_at spec c.args.op)) c.args.values.now)) ranges)
