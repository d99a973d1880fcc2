-- What a line gives that breaks no rule.
use Rattle.std.proofs.Common.{◌≡◌, ℕ, suc, ◌<◌, ◌≤◌, Bool, true, false, not, cond, eqb, leb, ltb, List, [], ◌∷◌, length, Option, Some, None, Result, Ok, Err, refl, sym, ap, ◌∙◌, subst}
use Rattle.std.specs.Prelude.{is_none, unwrap_or, ◌&&◌, ◌||◌}
use Rattle.rc_work.specs.Imports.{list_any, filter_map, option_map_or, WordText, u64_of, NumFault, op_names, Op, Spec, number_among-below, LineRule, S5, S6, S7, S8, W1, W2, W3, W5}
use Rattle.std.proofs.lemmas.Bool.{and_parts, or_parts, not-false, leb-true, ltb-true, eqb-true}
use Rattle.std.proofs.lemmas.List.{length-map}
use Rattle.rc_work.specs.declared.draft.Draft.{Draft}
use Rattle.rc_work.specs.CallColumns.{written_columns_at}
use Rattle.rc_work.specs.LineForms.{FormText, call_line, group_line}
use Rattle.rc_work.specs.LineRules.{thread_by, thread_of, size_by, group_size, raw_values, is_too_large, op_number, has_wrong_kind, breaks_range, breaks_limit, breaks_order, breaks_operation, breaks_count, breaks_kinds, thread_in, breaks_group, raw_call, with_line, after_form}
use Rattle.rc_work.specs.Drafts.{IsRawCall}

-- ---- the tests that a line passed

abbrev pub ok : {X : Type 0} → X → Result X LineRule
ok x = Ok x

same_ok : {X : Type 0} (x y : X) → ok x ≡ ok y → x ≡ y
same_ok x y e = cc

-- a test that did not refuse
pub unrefused : {X : Type 0} (b : Bool) (rule : LineRule) (gives : Result X LineRule) (next : X) → cond b (Err rule) gives ≡ Ok next → (b ≡ false) × (gives ≡ Ok next)
unrefused true rule gives next e = absurd cc
unrefused false rule gives next e = (refl, e)

pub record IsWorkLineTaken (spec : Spec) (draft : Draft) (form : FormText) (next : Draft) : Type 0 where
  pub range : breaks_range draft form ≡ false
  pub limit : breaks_limit draft form ≡ false
  pub order : breaks_order draft form ≡ false
  pub operation : breaks_operation spec form ≡ false
  pub count : breaks_count spec form ≡ false
  pub kinds : breaks_kinds spec form ≡ false
  pub ended : draft.ended ≡ false
  pub group : breaks_group draft form ≡ false
  pub value : with_line spec draft form ≡ next

pub taken : (spec : Spec) (draft : Draft) (form : FormText) (next : Draft) → after_form spec draft form ≡ Ok next → IsWorkLineTaken spec draft form next
taken spec draft form next e =
    let group_test = cond (breaks_group draft form) (Err W5) (ok (with_line spec draft form)) in
    let kinds_test = cond (breaks_kinds spec form) (Err W3) group_test in
    let count_test = cond (breaks_count spec form) (Err W2) kinds_test in
    let operation_test = cond (breaks_operation spec form) (Err W1) count_test in
    let end_test = cond draft.ended (Err S8) operation_test in
    let order_test = cond (breaks_order draft form) (Err S7) end_test in
    let limit_test = cond (breaks_limit draft form) (Err S6) order_test in
    let range = unrefused (breaks_range draft form) S5 limit_test next e in
    let limit = unrefused (breaks_limit draft form) S6 order_test next range.1 in
    let order = unrefused (breaks_order draft form) S7 end_test next limit.1 in
    let end = unrefused draft.ended S8 operation_test next order.1 in
    let operation = unrefused (breaks_operation spec form) W1 count_test next end.1 in
    let count = unrefused (breaks_count spec form) W2 kinds_test next operation.1 in
    let kinds = unrefused (breaks_kinds spec form) W3 group_test next count.1 in
    let group = unrefused (breaks_group draft form) W5 (ok (with_line spec draft form)) next kinds.1 in
    record {
      range = range.0;
      limit = limit.0;
      order = order.0;
      operation = operation.0;
      count = count.0;
      kinds = kinds.0;
      ended = end.0;
      group = group.0;
      value = same_ok (with_line spec draft form) next group.1;
    }

-- ---- the turn of a call

filter_map_first : {X Y : Type 0} (f : X → Option Y) (x : X) (xs : List X) (y : Option Y) → f x ≡ y → (is_none y || list_any (λ z. is_none (f z)) xs) ≡ false → (list_any (λ z. is_none (f z)) xs ≡ false → length (filter_map f xs) ≡ length xs) → length (filter_map f (x ∷ xs)) ≡ suc (length xs)
filter_map_first f x xs None e none ih = absurd cc
filter_map_first f x xs (Some y) e none ih = rw e (ap suc (ih none))

-- where each gives something, as many are given
length-filter_map : {X Y : Type 0} (f : X → Option Y) (xs : List X) → list_any (λ z. is_none (f z)) xs ≡ false → length (filter_map f xs) ≡ length xs
length-filter_map f [] none = refl
length-filter_map f (x ∷ xs) none = filter_map_first f x xs (f x) refl none (length-filter_map f xs)

-- there are as many values as words, where none is too large
pub length-raw_values : (words : List WordText) → list_any is_too_large words ≡ false → length (raw_values words) ≡ length words
length-raw_values words none = length-filter_map _ words none

pub thread_below : (threads : ℕ) (found : Result ℕ NumFault) → is_none (thread_by threads found) ≡ false → unwrap_or (thread_by threads found) 0 < threads
thread_below threads (Err fault) e = absurd cc
thread_below threads (Ok number) e =
    elim (ltb number threads) as (λ v. ltb number threads ≡ v → is_none (cond v (Some number) None) ≡ false → unwrap_or (cond v (Some number) None) 0 < threads) [
      | true ↦ λ below _. ltb-true number threads below
      | false ↦ λ _ h. absurd cc
    ] refl e

-- the thread of a call is below their number
pub call_line-thread : (spec : Spec) (draft : Draft) (thread op : List ℕ) (values : List WordText) (next : Draft)
    → IsWorkLineTaken spec draft (call_line thread op values) next → thread_in draft thread < draft.threads
call_line-thread spec draft thread op values next is =
    thread_below draft.threads (u64_of thread) (or_parts (is_none (thread_of draft.threads thread)) (list_any is_too_large values) is.range).0

-- so is that of a group
pub group_line-thread : (spec : Spec) (draft : Draft) (thread size : List ℕ) (next : Draft)
    → IsWorkLineTaken spec draft (group_line thread size) next → thread_in draft thread < draft.threads
group_line-thread spec draft thread size next is =
    thread_below draft.threads (u64_of thread) (or_parts (is_none (thread_of draft.threads thread)) (is_none (group_size size)) is.range).0

-- 2 to 16
pub record IsGroupSize (size : ℕ) : Type 0 where
  pub some : 2 ≤ size
  pub few : size ≤ 16

size_within : (found : Result ℕ NumFault) → is_none (size_by found) ≡ false → IsGroupSize (unwrap_or (size_by found) 0)
size_within (Err fault) e = absurd cc
size_within (Ok number) e =
    elim (leb 2 number && leb number 16) as (λ v. (leb 2 number && leb number 16) ≡ v → is_none (cond v (Some number) None) ≡ false
    → IsGroupSize (unwrap_or (cond v (Some number) None) 0)) [
      | true ↦ λ both _.
          let parts = and_parts (leb 2 number) (leb number 16) both in
          record { some = leb-true 2 number parts.0; few = leb-true number 16 parts.1 }
      | false ↦ λ _ h. absurd cc
    ] refl e

-- a group is of 2 to 16 calls
pub group_line-size : (spec : Spec) (draft : Draft) (thread size : List ℕ) (next : Draft)
    → IsWorkLineTaken spec draft (group_line thread size) next → IsGroupSize (unwrap_or (group_size size) 0)
group_line-size spec draft thread size next is =
    size_within (u64_of size) (or_parts (is_none (thread_of draft.threads thread)) (is_none (group_size size)) is.range).1

known_call : (spec : Spec) (op : List ℕ) (values : List WordText) (number : Option ℕ) → op_number spec op ≡ number → is_none number ≡ false
    → list_any is_too_large values ≡ false → not (eqb (length values) (length (option_map_or (written_columns_at spec) number []))) ≡ false
    → has_wrong_kind spec (option_map_or (written_columns_at spec) number []) (raw_values values) ≡ false → IsRawCall spec (raw_call spec op values)
known_call spec op values None is known range count kinds = absurd cc
known_call spec op values (Some n) is known range count kinds =
    let same : (raw_call spec op values).op ≡ n = ap (λ found. unwrap_or found 0) is in
    record {
      known = subst (λ k. k < length spec.ops) (sym same) (subst (λ k. n < k) (length-map spec.ops (λ (x : Op). x.name)) (number_among-below (op_names spec.ops) op n is));
      cols = ap (λ found. option_map_or (written_columns_at spec) found []) is ∙ ap (written_columns_at spec) (sym same);
      count = length-raw_values values range ∙ eqb-true (length values) (length (written_columns_at spec n)) (not-false _ count) ∙ ap (λ k. length (written_columns_at spec k)) (sym same);
      kinds = subst (λ k. has_wrong_kind spec (written_columns_at spec k) (raw_values values) ≡ false) (sym same) kinds;
    }

-- the call of a line is right
pub IsRawCall-raw_call : (spec : Spec) (draft : Draft) (thread op : List ℕ) (values : List WordText) (next : Draft)
    → IsWorkLineTaken spec draft (call_line thread op values) next → IsRawCall spec (raw_call spec op values)
IsRawCall-raw_call spec draft thread op values next is =
    known_call spec op values (op_number spec op) refl is.operation
    (or_parts (is_none (thread_of draft.threads thread)) (list_any is_too_large values) is.range).1
    is.count is.kinds
