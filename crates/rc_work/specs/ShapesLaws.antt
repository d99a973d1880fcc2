-- Laws of a specification with further operations: what holds of its own operations' calls goes on to hold.
use Rattle.std.proofs.Common.{◌≡◌, ℕ, zero, suc, ◌+◌, ◌<◌, inl, inr, List, [], ◌∷◌, ◌++◌, length, Option, Some, None, refl, sym, ap, ◌∙◌, subst, arith}
use Rattle.std.specs.Prelude.{IfSome, ◌||◌}
use Rattle.rc_work.specs.Imports.{AllByRecursion, slice_get, option_map_or, In, in_append, value_columns, IsInRange, IsWellNamed, Op, OpKind, Query, Insert, Remove, Update, Spec}
use Rattle.std.proofs.lemmas.List.{append-nil, length-append}
use Rattle.rc_work.specs.declared.draft.Draft.{Draft}
use Rattle.rc_work.specs.declared.draft.UnfilledGroup.{UnfilledGroup}
use Rattle.rc_work.specs.declared.raw.RawCall.{RawCall}
use Rattle.rc_work.specs.declared.raw.RawTurn.{RawTurn}
use Rattle.rc_work.specs.declared.raw.RawValue.{RawValue}
use Rattle.rc_work.specs.CallColumns.{HasKnownColumns, written_columns, written_columns_at}
use Rattle.rc_work.specs.Drafts.{IsRawCall, IsRawTurn, IsUnfilledGroup, IsDraft}
use Rattle.rc_work.specs.LineRules.{is_wrong_kind, has_wrong_kind}
use Rattle.rc_work.specs.Printed.{kind_at}
use Rattle.rc_work.specs.Shapes.{with_operations, IsShapeOf}

-- without further ones it stays as it is
pub with_none : (spec : Spec) → with_operations spec [] ≡ spec
with_none spec = λ i. record spec { ops = append-nil spec.ops i }

-- further ones, one after another
append-assoc : (xs ys zs : List Op) → (xs ++ ys) ++ zs ≡ xs ++ (ys ++ zs)
append-assoc [] ys zs = refl
append-assoc (x ∷ xs) ys zs = ap (λ (l : List Op). x ∷ l) (append-assoc xs ys zs)

pub with_both : (spec : Spec) (shapes more : List Op) → with_operations (with_operations spec shapes) more ≡ with_operations spec (shapes ++ more)
with_both spec shapes more = λ i. record spec { ops = append-assoc spec.ops shapes more i }

slice_get-front : {A : Type 0} (xs ys : List A) (n : ℕ) → n < length xs → slice_get (xs ++ ys) n ≡ slice_get xs n
slice_get-front [] ys n below = absurd (omega arith)
slice_get-front (x ∷ xs) ys zero below = refl
slice_get-front (x ∷ xs) ys (suc n) below = slice_get-front xs ys n (omega arith)

slice_get-behind : {A : Type 0} (xs ys : List A) (n : ℕ) → slice_get (xs ++ ys) (length xs + n) ≡ slice_get ys n
slice_get-behind [] ys n = ap (slice_get ys) (omega arith)
slice_get-behind (x ∷ xs) ys n =
    let more : suc (length xs) + n ≡ suc (length xs + n) = omega arith in
    ap (slice_get (x ∷ (xs ++ ys))) more ∙ slice_get-behind xs ys n

-- ---- columns

-- the operations of a specification don't say which columns it has
written_by : (spec : Spec) (shapes : List Op) (pattern : List ℕ) (kind : OpKind)
    → value_columns (with_operations spec shapes) pattern kind ≡ value_columns spec pattern kind
written_by spec shapes pattern (Query outs ranges) = refl
written_by spec shapes pattern Insert = refl
written_by spec shapes pattern Remove = refl
written_by spec shapes pattern Update = refl

pub written_columns-over : (spec : Spec) (shapes : List Op) (op : Op) → written_columns (with_operations spec shapes) op ≡ written_columns spec op
written_columns-over spec shapes op = rw (written_by spec shapes op.pattern op.kind) refl

written_found : (spec : Spec) (shapes : List Op) (found : Option Op)
    → option_map_or (written_columns (with_operations spec shapes)) found [] ≡ option_map_or (written_columns spec) found []
written_found spec shapes None = refl
written_found spec shapes (Some op) = written_columns-over spec shapes op

-- those of an own operation's calls
pub written_columns_at-own : (spec : Spec) (shapes : List Op) (n : ℕ) → n < length spec.ops
    → written_columns_at (with_operations spec shapes) n ≡ written_columns_at spec n
written_columns_at-own spec shapes n below =
    ap (λ (found : Option Op). option_map_or (written_columns (with_operations spec shapes)) found []) (slice_get-front spec.ops shapes n below)
    ∙ written_found spec shapes (slice_get spec.ops n)

-- and those of a further one's
pub written_columns_at-further : (spec : Spec) (shapes : List Op) (n : ℕ) (op : Op) → slice_get shapes n ≡ Some op
    → written_columns_at (with_operations spec shapes) (length spec.ops + n) ≡ written_columns spec op
written_columns_at-further spec shapes n op is =
    ap (λ (found : Option Op). option_map_or (written_columns (with_operations spec shapes)) found []) (slice_get-behind spec.ops shapes n ∙ is)
    ∙ written_columns-over spec shapes op

pub has_wrong_kind-over : (spec : Spec) (shapes : List Op) (cols : List ℕ) (values : List RawValue)
    → has_wrong_kind (with_operations spec shapes) cols values ≡ has_wrong_kind spec cols values
has_wrong_kind-over spec shapes [] values = refl
has_wrong_kind-over spec shapes (col ∷ cols) [] = refl
has_wrong_kind-over spec shapes (col ∷ cols) (value ∷ values) =
    ap (λ b. is_wrong_kind (kind_at spec col) value || b) (has_wrong_kind-over spec shapes cols values)

-- each operation has known columns, where the specification's own have them and the further ones are shapes of it
all_in : {A : Type 0} (P : A → Type 0) (xs : List A) → AllByRecursion P xs → (x : A) → In x xs → P x
all_in P [] all x m = absurd m
all_in P (y ∷ xs) all x (inl e) = subst P (sym e) all.0
all_in P (y ∷ xs) all x (inr m) = all_in P xs all.1 x m

pub HasKnownColumns-over : (spec : Spec) (shapes : List Op) → IsInRange spec → IsWellNamed spec → AllByRecursion (IsShapeOf spec) shapes
    → HasKnownColumns (with_operations spec shapes)
HasKnownColumns-over spec shapes range named are = record {
  few = range.columns;
  among = λ op m. elim (in_append op spec.ops shapes m) [
    | inl own ↦ range.known_ops op own
    | inr further ↦ (all_in (IsShapeOf spec) shapes are op further).among
  ];
  distinct = λ op m. elim (in_append op spec.ops shapes m) [
    | inl own ↦ named.patterns op own
    | inr further ↦ (all_in (IsShapeOf spec) shapes are op further).distinct
  ];
}

-- ---- calls

-- a right call stays right
pub IsRawCall-over : (spec : Spec) (shapes : List Op) (call : RawCall) → IsRawCall spec call → IsRawCall (with_operations spec shapes) call
IsRawCall-over spec shapes call is =
    let same = written_columns_at-own spec shapes call.op is.known in
    record {
      known = omega (arith, is.known, length-append spec.ops shapes);
      cols = is.cols ∙ sym same;
      count = is.count ∙ ap (λ (cols : List ℕ). length cols) (sym same);
      kinds =
          has_wrong_kind-over spec shapes (written_columns_at (with_operations spec shapes) call.op) call.values
          ∙ ap (λ (cols : List ℕ). has_wrong_kind spec cols call.values) same
          ∙ is.kinds;
    }

all_over : {A : Type 0} (P Q : A → Type 0) → ((x : A) → P x → Q x) → (xs : List A) → AllByRecursion P xs → AllByRecursion Q xs
all_over P Q so [] all = tt
all_over P Q so (x ∷ xs) all = (so x all.0, all_over P Q so xs all.1)

calls_over : (spec : Spec) (shapes : List Op) (calls : List RawCall) → AllByRecursion (IsRawCall spec) calls
    → AllByRecursion (IsRawCall (with_operations spec shapes)) calls
calls_over spec shapes = all_over (IsRawCall spec) (IsRawCall (with_operations spec shapes)) (IsRawCall-over spec shapes)

turn_over : (spec : Spec) (shapes : List Op) (turn : RawTurn) → IsRawTurn spec turn → IsRawTurn (with_operations spec shapes) turn
turn_over spec shapes turn is = record { some = is.some; few = is.few; calls = calls_over spec shapes turn.calls is.calls }

group_over : (spec : Spec) (shapes : List Op) (threads : ℕ) (found : Option UnfilledGroup) → IfSome found (IsUnfilledGroup spec threads)
    → IfSome found (IsUnfilledGroup (with_operations spec shapes) threads)
group_over spec shapes threads None is = tt
group_over spec shapes threads (Some group) is = record {
  thread = is.thread;
  few = is.few;
  unfilled = is.unfilled;
  calls = calls_over spec shapes group.turn.calls is.calls;
}

-- so does a draft
pub IsDraft-over : (spec : Spec) (shapes : List Op) (draft : Draft) → IsDraft spec draft → IsDraft (with_operations spec shapes) draft
IsDraft-over spec shapes draft is = record {
  some_thread = is.some_thread;
  few_threads = is.few_threads;
  few_rounds = is.few_rounds;
  few_calls = is.few_calls;
  threads = is.threads;
  turns =
      all_over (AllByRecursion (IsRawTurn spec)) (AllByRecursion (IsRawTurn (with_operations spec shapes)))
      (λ turns all. all_over (IsRawTurn spec) (IsRawTurn (with_operations spec shapes)) (turn_over spec shapes) turns all) draft.rounds is.turns;
  group = group_over spec shapes draft.threads draft.group is.group;
}
