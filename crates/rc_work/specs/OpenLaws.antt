-- What is read of a workload whose calls may bring their own operation keeps its limits, and its calls fit the specification with the
-- shapes.
use Rattle.std.proofs.Common.{◌≡◌, ℕ, suc, ◌+◌, ◌≤◌, Bool, true, false, not, cond, List, [], ◌∷◌, ◌++◌, length, Option, Some, None, Result, Ok, Err, refl, sym, ap, ◌∙◌, subst, arith}
use Rattle.std.specs.Prelude.{◌||◌, ◌&&◌, ◌==◌, is_none, nat_le, unwrap_or}
use Rattle.rc_work.specs.Imports.{AllByRecursion, list_any, position_from, slice_get, bytes_eq, read_keeps, ContentLine, WordText, AreDistinct, AreBelow, HasOutsAmong, IsOpAmong, column_names, range_columns, Column, Op, OpKind, Query, Insert, Remove, Update, Spec, Broken, apart_from_test, distinct_append, distinct_from_test, numbers_of-below, columns_named, repeats, share, LineRule, S3, S4, S5, S6, S7, S8, W2, W3, W4, u64_of}
use Rattle.std.proofs.lemmas.Bool.{and_parts, or_parts, leb-false, not-false, eqb-true, eqb-false}
use Rattle.std.proofs.lemmas.List.{length-append, length-map}
use Rattle.std.proofs.lemmas.Option.{slice_get_within}
use Rattle.std.proofs.lemmas.Slice.Eq.{bytes_eq-Decides}
use Rattle.rc_work.specs.declared.also.Also.TheVariants.{Nothing}
use Rattle.rc_work.specs.declared.draft.Draft.{Draft}
use Rattle.rc_work.specs.declared.shapes.OpenDraft.{OpenDraft}
use Rattle.rc_work.specs.CallColumns.{written_columns, written_columns_at}
use Rattle.rc_work.specs.Determined.{keeps_rules}
use Rattle.rc_work.specs.DeterminedLaws.{operation_test_is_exact}
use Rattle.rc_work.specs.Drafts.{HasNoGroup, IsRawCall, IsDraft}
use Rattle.rc_work.specs.DraftsLaws.{IsDraft-with_call, IsDraft-draft_of, IsDraft-with_line, IsThreadCount, headed-count}
use Rattle.rc_work.specs.GroupsLaws.{IsNoGroup, no_group_of, keeps_call, keeps_form}
use Rattle.rc_work.specs.LineForms.{FormText, round_line, end_line, call_line, group_line, words_read, form_of}
use Rattle.rc_work.specs.LineRules.{after_form, has_wrong_kind, is_too_large, raw_call, raw_values, thread_in, thread_of}
use Rattle.rc_work.specs.LineRules as lines
use Rattle.rc_work.specs.LineRulesLaws.{IsRawCall-raw_call, IsWorkLineTaken, call_line-thread, length-raw_values, ok, taken, thread_below, unrefused}
use Rattle.rc_work.specs.OpenGrammar.{with_draft, after_shape_of, after_open_form, after_open_words, after_open, open_language, open_from, open_of, open_behind, open_all}
use Rattle.rc_work.specs.ShapeForms.{KindText, query_kind, insert_kind, remove_kind, update_kind, ShapeText, shape_form, plain_words}
use Rattle.rc_work.specs.ShapeRules.{after_op, after_shape, breaks_known, breaks_limit, breaks_names, breaks_range, is_same_kind, is_same_shape, kind_with, named, out_words, range_words, shape_call, shape_name, shape_op, shape_place, with_op, with_shape}
use Rattle.rc_work.specs.Shapes.{with_operations, IsShapeOf}
use Rattle.rc_work.specs.ShapesLaws.{IsDraft-over, IsRawCall-over, has_wrong_kind-over, with_both, written_columns_at-further}
use Rattle.rc_work.specs.UnfilledGroups.{count_in}
use Rattle.rc_work.specs.WorkGrammar.{Headed, broken_at, headed}

same_read : (x y : OpenDraft) → ok x ≡ ok y → x ≡ y
same_read x y e = cc

abbrev ok_read : OpenDraft → Result OpenDraft Broken
ok_read read = Ok read

-- what was read keeps the limits, its shapes are operations of the specification, and its turns are right over both; no groups are read
pub record IsOpenDraft (spec : Spec) (read : OpenDraft) : Type 0 where
  pub few : length read.shapes ≤ 32
  pub shapes : AllByRecursion (IsShapeOf spec) read.shapes
  pub draft : IsDraft (with_operations spec read.shapes) read.draft
  pub single : HasNoGroup read.draft

-- ---- a line that each workload may have

-- a line that is tested over the specification's own operations
own_line : (spec : Spec) (shapes : List Op) (draft : Draft) (form : FormText) (next : Draft) → IsDraft (with_operations spec shapes) draft
    → IsWorkLineTaken spec draft form next → IsDraft (with_operations spec shapes) (lines.with_line spec draft form)
own_line spec shapes draft round_line next is line =
    IsDraft-with_line (with_operations spec shapes) draft round_line next is (record {
      range = line.range;
      limit = line.limit;
      order = line.order;
      operation = line.operation;
      count = line.count;
      kinds = line.kinds;
      ended = line.ended;
      group = line.group;
      value = line.value;
    })
own_line spec shapes draft end_line next is line =
    IsDraft-with_line (with_operations spec shapes) draft end_line next is (record {
      range = line.range;
      limit = line.limit;
      order = line.order;
      operation = line.operation;
      count = line.count;
      kinds = line.kinds;
      ended = line.ended;
      group = line.group;
      value = line.value;
    })
own_line spec shapes draft (call_line thread op values) next is line =
    IsDraft-with_call (with_operations spec shapes) draft draft.group (thread_in draft thread) (raw_call spec op values) refl is
    (omega (arith, eqb-false (length draft.rounds) 0 line.order)) (leb-false 20000 (count_in draft) line.limit)
    (call_line-thread spec draft thread op values next line)
    (IsRawCall-over spec shapes (raw_call spec op values) (IsRawCall-raw_call spec draft thread op values next line))
own_line spec shapes draft (group_line thread size) next is line =
    IsDraft-with_line (with_operations spec shapes) draft (group_line thread size) next is (record {
      range = line.range;
      limit = line.limit;
      order = line.order;
      operation = line.operation;
      count = line.count;
      kinds = line.kinds;
      ended = line.ended;
      group = line.group;
      value = line.value;
    })

IsDraft-after_own : (spec : Spec) (shapes : List Op) (draft : Draft) (form : FormText) (next : Draft) → IsDraft (with_operations spec shapes) draft
    → after_form spec draft form ≡ Ok next → IsDraft (with_operations spec shapes) next
IsDraft-after_own spec shapes draft form next is e =
    let line = taken spec draft form next e in
    subst (IsDraft (with_operations spec shapes)) line.value (own_line spec shapes draft form next is line)

IsOpenDraft-with_draft : (spec : Spec) (read next : OpenDraft) (form : FormText) (after : Result Draft LineRule) → IsNoGroup (Some form) → IsOpenDraft spec read
    → after_form spec read.draft form ≡ after → with_draft read after ≡ Ok next → IsOpenDraft spec next
IsOpenDraft-with_draft spec read next form (Err rule) plain is given e = absurd cc
IsOpenDraft-with_draft spec read next form (Ok draft) plain is given e =
    let same : record read { draft = draft } ≡ next = same_read (record read { draft = draft }) next e in
    subst (IsOpenDraft spec) same (record {
      few = is.few;
      shapes = is.shapes;
      draft = IsDraft-after_own spec read.shapes read.draft form draft is.draft given;
      single = keeps_form spec read.draft (Some form) draft plain is.single given;
    })

-- ---- the operation of a line

columns_below : (spec : Spec) (words : List WordText) → AreBelow (length spec.columns) (named spec words)
columns_below spec words c m =
    let below = numbers_of-below (column_names spec.columns) (plain_words words) c m in
    omega (arith, length-map spec.columns (λ (column : Column). column.name))

outs_among : (spec : Spec) (kind : KindText) (ranges : List ℕ) → HasOutsAmong (length spec.columns) (kind_with kind (named spec (out_words kind)) ranges)
outs_among spec (query_kind ranges outs) more = columns_below spec outs
outs_among spec insert_kind more = tt
outs_among spec remove_kind more = tt
outs_among spec update_kind more = tt

ranges_are : (spec : Spec) (kind : KindText) (outs : List ℕ)
    → range_columns (kind_with kind outs (named spec (range_words kind))) ≡ named spec (range_words kind)
ranges_are spec (query_kind ranges outs) more = refl
ranges_are spec insert_kind more = refl
ranges_are spec remove_kind more = refl
ranges_are spec update_kind more = refl

-- its columns are the specification's
pub IsOpAmong-shape_op : (spec : Spec) (shape : ShapeText) → IsOpAmong (length spec.columns) (shape_op spec shape)
IsOpAmong-shape_op spec shape = record {
  pattern = columns_below spec shape.pattern;
  outs = outs_among spec shape.kind (named spec (range_words shape.kind));
  ranges =
      subst (AreBelow (length spec.columns)) (sym (ranges_are spec shape.kind (named spec (out_words shape.kind))))
      (columns_below spec (range_words shape.kind));
}

shape_distinct : (spec : Spec) (shape : ShapeText) → breaks_names spec shape ≡ false
    → AreDistinct ((shape_op spec shape).pattern ++ range_columns (shape_op spec shape).kind)
shape_distinct spec shape e =
    let pattern = plain_words shape.pattern in
    let ranges = plain_words (range_words shape.kind) in
    let parts = or_parts (repeats spec pattern || repeats spec ranges) (share spec pattern ranges) e in
    let each = or_parts (repeats spec pattern) (repeats spec ranges) parts.0 in
    subst (λ (l : List ℕ). AreDistinct (columns_named spec pattern ++ l)) (sym (ranges_are spec shape.kind (named spec (out_words shape.kind))))
    (distinct_append (columns_named spec pattern) (columns_named spec ranges) (distinct_from_test (columns_named spec pattern) each.0)
    (distinct_from_test (columns_named spec ranges) each.1) (apart_from_test (columns_named spec pattern) (columns_named spec ranges) parts.1))

pub IsShapeOf-called : (spec : Spec) (op : Op) (name : List ℕ) → IsShapeOf spec op → IsShapeOf spec (record op { name = name })
IsShapeOf-called spec op name is = record {
  among = record { pattern = is.among.pattern; outs = is.among.outs; ranges = is.among.ranges };
  distinct = is.distinct;
  keeps = record { o1 = is.keeps.o1; o2 = is.keeps.o2; o3 = is.keeps.o3 };
}

-- ---- the shape that is found

-- a shape at this place is written with the same columns
record IsFoundAt (spec : Spec) (shapes : List Op) (op : Op) (place : ℕ) : Type 0 where
  shape : Op
  there : slice_get shapes place ≡ Some shape
  same : written_columns spec shape ≡ written_columns spec op

record IsFirstAt (test : Op → Bool) (shapes : List Op) (from place : ℕ) : Type 0 where
  behind : ℕ
  at : place ≡ from + behind
  shape : Op
  there : slice_get shapes behind ≡ Some shape
  passes : test shape ≡ true

first_by : (test : Op → Bool) (shape : Op) (shapes : List Op) (from place : ℕ)
    → (position_from test (from + 1) shapes ≡ Some place → IsFirstAt test shapes (from + 1) place) → (b : Bool) → test shape ≡ b
    → cond b (Some from) (position_from test (from + 1) shapes) ≡ Some place → IsFirstAt test (shape ∷ shapes) from place
first_by test shape shapes from place others true passes h =
    let same : from ≡ place = cc in
    record { behind = 0; at = omega (arith, same); shape = shape; there = refl; passes = passes }
first_by test shape shapes from place others false fails h =
    let rest = others h in
    record { behind = suc rest.behind; at = omega (arith, rest.at); shape = rest.shape; there = rest.there; passes = rest.passes }

first_at : (test : Op → Bool) (shapes : List Op) (from place : ℕ) → position_from test from shapes ≡ Some place → IsFirstAt test shapes from place
first_at test [] from place e = absurd cc
first_at test (shape ∷ shapes) from place e = first_by test shape shapes from place (first_at test shapes (from + 1) place) (test shape) refl e

same_kind : (kind other : OpKind) → is_same_kind kind other ≡ true → kind ≡ other
same_kind (Query outs ranges) (Query others more) e =
    let parts = and_parts (bytes_eq outs others) (bytes_eq ranges more) e in
    let first = (bytes_eq-Decides outs others).0 parts.0 in
    let second = (bytes_eq-Decides ranges more).0 parts.1 in
    λ i. Query (first i) (second i)
same_kind (Query outs ranges) Insert e = absurd cc
same_kind (Query outs ranges) Remove e = absurd cc
same_kind (Query outs ranges) Update e = absurd cc
same_kind Insert (Query outs ranges) e = absurd cc
same_kind Insert Insert e = refl
same_kind Insert Remove e = absurd cc
same_kind Insert Update e = absurd cc
same_kind Remove (Query outs ranges) e = absurd cc
same_kind Remove Insert e = absurd cc
same_kind Remove Remove e = refl
same_kind Remove Update e = absurd cc
same_kind Update (Query outs ranges) e = absurd cc
same_kind Update Insert e = absurd cc
same_kind Update Remove e = absurd cc
same_kind Update Update e = refl

same_columns : (spec : Spec) (op other : Op) → is_same_shape op other ≡ true → written_columns spec other ≡ written_columns spec op
same_columns spec op other e =
    let parts = and_parts (bytes_eq op.pattern other.pattern) (is_same_kind op.kind other.kind) e in
    let pattern = (bytes_eq-Decides op.pattern other.pattern).0 parts.0 in
    let kind = same_kind op.kind other.kind parts.1 in
    sym (λ i. written_columns spec (record { name = op.name; pattern = pattern i; kind = kind i }))

last_there : (shapes : List Op) (op : Op) → slice_get (shapes ++ op ∷ []) (length shapes) ≡ Some op
last_there [] op = refl
last_there (shape ∷ shapes) op = last_there shapes op

found_there : (spec : Spec) (shapes : List Op) (op : Op) (found : Option ℕ) → shape_place shapes op ≡ found
    → IsFoundAt spec (with_shape shapes op found) op (unwrap_or found (length shapes))
found_there spec shapes op None e = record {
  shape = record op { name = shape_name (length shapes) };
  there = last_there shapes (record op { name = shape_name (length shapes) });
  same = refl;
}
found_there spec shapes op (Some place) e =
    let first = first_at (is_same_shape op) shapes 0 place e in
    let same : place ≡ first.behind = omega (arith, first.at) in
    record {
      shape = first.shape;
      there = ap (slice_get shapes) same ∙ first.there;
      same = same_columns spec op first.shape first.passes;
    }

-- its call is right
right_call : (spec : Spec) (shapes : List Op) (op : Op) (place : ℕ) (values : List WordText) → IsFoundAt spec shapes op place
    → list_any is_too_large values ≡ false → not (length values == length (written_columns spec op)) ≡ false
    → has_wrong_kind spec (written_columns spec op) (raw_values values) ≡ false
    → IsRawCall (with_operations spec shapes) (record { op = length spec.ops + place; cols = written_columns spec op; values = raw_values values })
right_call spec shapes op place values at small count kinds =
    let cols = written_columns_at-further spec shapes place at.shape at.there ∙ at.same in
    record {
      known = omega (arith, length-append spec.ops shapes, slice_get_within shapes place at.shape at.there);
      cols = sym cols;
      count =
          length-raw_values values small ∙ eqb-true (length values) (length (written_columns spec op)) (not-false _ count)
          ∙ ap (λ (l : List ℕ). length l) (sym cols);
      kinds =
          has_wrong_kind-over spec shapes (written_columns_at (with_operations spec shapes) (length spec.ops + place)) (raw_values values)
          ∙ ap (λ (l : List ℕ). has_wrong_kind spec l (raw_values values)) cols
          ∙ kinds;
    }

-- ---- a line that brings its own operation

-- the tests that it passed
pub record IsShapeTaken (spec : Spec) (read : OpenDraft) (op : Op) (thread : List ℕ) (values : List WordText) (next : OpenDraft) : Type 0 where
  pub range : breaks_range read thread values ≡ false
  pub limit : breaks_limit read op ≡ false
  pub order : (length read.draft.rounds == 0) ≡ false
  pub ended : read.draft.ended ≡ false
  pub count : not (length values == length (written_columns spec op)) ≡ false
  pub kinds : has_wrong_kind spec (written_columns spec op) (raw_values values) ≡ false
  pub keeps : not (keeps_rules spec op) ≡ false
  pub value : with_op spec read op thread values ≡ next

pub shape_taken : (spec : Spec) (read : OpenDraft) (op : Op) (thread : List ℕ) (values : List WordText) (next : OpenDraft)
    → after_op spec read op thread values ≡ Ok next → IsShapeTaken spec read op thread values next
shape_taken spec read op thread values next e =
    let keeps_test = cond (not (keeps_rules spec op)) (Err W4) (ok (with_op spec read op thread values)) in
    let kinds_test = cond (has_wrong_kind spec (written_columns spec op) (raw_values values)) (Err W3) keeps_test in
    let count_test = cond (not (length values == length (written_columns spec op))) (Err W2) kinds_test in
    let end_test = cond read.draft.ended (Err S8) count_test in
    let order_test = cond (length read.draft.rounds == 0) (Err S7) end_test in
    let limit_test = cond (breaks_limit read op) (Err S6) order_test in
    let range = unrefused (breaks_range read thread values) S5 limit_test next e in
    let limit = unrefused (breaks_limit read op) S6 order_test next range.1 in
    let order = unrefused (length read.draft.rounds == 0) S7 end_test next limit.1 in
    let end = unrefused read.draft.ended S8 count_test next order.1 in
    let count = unrefused (not (length values == length (written_columns spec op))) W2 kinds_test next end.1 in
    let kinds = unrefused (has_wrong_kind spec (written_columns spec op) (raw_values values)) W3 keeps_test next count.1 in
    let keeps = unrefused (not (keeps_rules spec op)) W4 (ok (with_op spec read op thread values)) next kinds.1 in
    record {
      range = range.0;
      limit = limit.0;
      order = order.0;
      ended = end.0;
      count = count.0;
      kinds = kinds.0;
      keeps = keeps.0;
      value = same_read (with_op spec read op thread values) next keeps.1;
    }

pub all_push : {A : Type 0} (P : A → Type 0) (xs : List A) (x : A) → AllByRecursion P xs → P x → AllByRecursion P (xs ++ x ∷ [])
all_push P [] x all here = (here, tt)
all_push P (y ∷ xs) x all here = (all.0, all_push P xs x all.1 here)

-- what further shapes keep
record KeepShapes (spec : Spec) (read : OpenDraft) (shapes : List Op) : Type 0 where
  few : length shapes ≤ 32
  shapes_are : AllByRecursion (IsShapeOf spec) shapes
  draft : IsDraft (with_operations spec shapes) read.draft

keep_shapes : (spec : Spec) (read : OpenDraft) (op : Op) (found : Option ℕ) → IsOpenDraft spec read → IsShapeOf spec op
    → (is_none found && nat_le 32 (length read.shapes)) ≡ false → KeepShapes spec read (with_shape read.shapes op found)
keep_shapes spec read op None is shape limit =
    let more = record op { name = shape_name (length read.shapes) } ∷ [] in
    record {
      few = omega (arith, leb-false 32 (length read.shapes) limit, length-append read.shapes more);
      shapes_are = all_push (IsShapeOf spec) read.shapes _ is.shapes (IsShapeOf-called spec op (shape_name (length read.shapes)) shape);
      draft =
          subst (λ (s : Spec). IsDraft s read.draft) (with_both spec read.shapes more)
          (IsDraft-over (with_operations spec read.shapes) more read.draft is.draft);
    }
keep_shapes spec read op (Some place) is shape limit = record { few = is.few; shapes_are = is.shapes; draft = is.draft }

IsOpenDraft-with_op : (spec : Spec) (read : OpenDraft) (op : Op) (thread : List ℕ) (values : List WordText) (next : OpenDraft) → IsOpenDraft spec read
    → IsShapeOf spec op → IsShapeTaken spec read op thread values next → IsOpenDraft spec (with_op spec read op thread values)
IsOpenDraft-with_op spec read op thread values next is shape line =
    let limits = or_parts (nat_le 20000 (count_in read.draft)) (is_none (shape_place read.shapes op) && nat_le 32 (length read.shapes)) line.limit in
    let ranges = or_parts (is_none (thread_of read.draft.threads thread)) (list_any is_too_large values) line.range in
    let kept = keep_shapes spec read op (shape_place read.shapes op) is shape limits.1 in
    let shapes = with_shape read.shapes op (shape_place read.shapes op) in
    let call = shape_call spec read.shapes op values in
    record {
      few = kept.few;
      shapes = kept.shapes_are;
      draft =
          IsDraft-with_call (with_operations spec shapes) read.draft read.draft.group (thread_in read.draft thread) call refl kept.draft
          (omega (arith, eqb-false (length read.draft.rounds) 0 line.order)) (leb-false 20000 (count_in read.draft) limits.0)
          (thread_below read.draft.threads (u64_of thread) ranges.0)
          (right_call spec shapes op (unwrap_or (shape_place read.shapes op) (length read.shapes)) values
          (found_there spec read.shapes op (shape_place read.shapes op) refl) ranges.1 line.count line.kinds);
      single = keeps_call read.draft read.draft.group (thread_in read.draft thread) call is.single.none is.single;
    }

IsOpenDraft-after_shape : (spec : Spec) (read : OpenDraft) (shape : ShapeText) (next : OpenDraft) → IsOpenDraft spec read
    → after_shape spec read shape ≡ Ok next → IsOpenDraft spec next
IsOpenDraft-after_shape spec read shape next is e =
    let op_test = after_op spec read (shape_op spec shape) shape.thread shape.values in
    let known_test = cond (breaks_known spec shape) (Err S4) op_test in
    let names = unrefused (breaks_names spec shape) S3 known_test next e in
    let known = unrefused (breaks_known spec shape) S4 op_test next names.1 in
    let line = shape_taken spec read (shape_op spec shape) shape.thread shape.values next known.1 in
    subst (IsOpenDraft spec) line.value (IsOpenDraft-with_op spec read (shape_op spec shape) shape.thread shape.values next is (record {
      among = IsOpAmong-shape_op spec shape;
      distinct = shape_distinct spec shape names.0;
      keeps = (operation_test_is_exact spec (shape_op spec shape)).0 (not-false (keeps_rules spec (shape_op spec shape)) line.keeps);
    }) line)

-- ---- the lines

shape_keeps : (spec : Spec) (read : OpenDraft) (found : Option ShapeText) (next : OpenDraft) → IsOpenDraft spec read
    → after_shape_of spec read found ≡ Ok next → IsOpenDraft spec next
shape_keeps spec read None next is e = absurd cc
shape_keeps spec read (Some shape) next is e = IsOpenDraft-after_shape spec read shape next is e

open_form_keeps : (later : Bool) (spec : Spec) (read : OpenDraft) (words : List WordText) (found : Option FormText) (next : OpenDraft) → IsNoGroup found
    → IsOpenDraft spec read → after_open_form later spec read words found ≡ Ok next → IsOpenDraft spec next
open_form_keeps later spec read words None next plain is e = shape_keeps spec read (shape_form later words) next is e
open_form_keeps later spec read words (Some form) next plain is e =
    IsOpenDraft-with_draft spec read next form (after_form spec read.draft form) plain is refl e

open_words_keep : (later : Bool) (spec : Spec) (read : OpenDraft) (found : Option (List WordText)) (next : OpenDraft) → IsOpenDraft spec read
    → after_open_words later spec read found ≡ Ok next → IsOpenDraft spec next
open_words_keep later spec read None next is e = absurd cc
open_words_keep later spec read (Some words) next is e = open_form_keeps later spec read words (form_of Nothing words) next (no_group_of words) is e

IsOpenDraft-after_open : (later : Bool) (spec : Spec) (read : OpenDraft) (bytes : List ℕ) (next : OpenDraft) → IsOpenDraft spec read
    → after_open later spec read bytes ≡ Ok next → IsOpenDraft spec next
unfolding after_open
IsOpenDraft-after_open later spec read bytes next is e = open_words_keep later spec read (words_read bytes) next is e

ended_read : (ended : Bool) (past_end : ℕ) (read last : OpenDraft) → cond ended (ok_read read) (broken_at S8 past_end) ≡ Ok last → read ≡ last
ended_read true past_end read last e = cc
ended_read false past_end read last e = absurd cc

IsOpenDraft-open_from : (later : Bool) (past_end : ℕ) (spec : Spec) (read : OpenDraft) (lines : List ContentLine) (last : OpenDraft) → IsOpenDraft spec read
    → open_from later past_end spec read lines ≡ Ok last → IsOpenDraft spec last
unfolding open_from
IsOpenDraft-open_from later past_end spec read lines last is e =
    read_keeps (open_language later spec) (IsOpenDraft spec) (IsOpenDraft spec) (λ before bytes next h given. IsOpenDraft-after_open later spec before bytes next h given)
    (λ next line others h. h) (λ at next found h out. subst (IsOpenDraft spec) (ended_read next.draft.ended at next found out) h) past_end read lines last is e

IsOpenDraft-open_of : (spec : Spec) (threads : ℕ) → IsThreadCount threads → IsOpenDraft spec (open_of threads)
IsOpenDraft-open_of spec threads count = record {
  few = omega arith;
  shapes = tt;
  draft = IsDraft-draft_of (with_operations spec []) threads count;
  single = record { none = refl; single = tt };
}

behind_keeps : (later : Bool) (spec : Spec) (past_end : ℕ) (lines : List ContentLine) (found : Result Headed Broken) (last : OpenDraft) → headed past_end lines ≡ found
    → open_behind later past_end spec found ≡ Ok last → IsOpenDraft spec last
behind_keeps later spec past_end lines (Err broken) last is e = absurd cc
behind_keeps later spec past_end lines (Ok head) last is e =
    IsOpenDraft-open_from later past_end spec (open_of head.threads) head.others last
    (IsOpenDraft-open_of spec head.threads (headed-count past_end lines head is)) e

-- what is read keeps all that
pub IsOpenDraft-open_all : (later : Bool) (past_end : ℕ) (spec : Spec) (lines : List ContentLine) (last : OpenDraft)
    → open_all later past_end spec lines ≡ Ok last → IsOpenDraft spec last
IsOpenDraft-open_all later past_end spec lines last e = behind_keeps later spec past_end lines (headed past_end lines) last refl e
