-- What a line with a call gives, part by part: its thread behind the lines before it, then its values, then the rest.
use Rattle.std.proofs.Common.{◌≡◌, ℕ, ◌+◌, ◌<◌, Bool, true, false, not, cond, get_or, List, [], length, Option, Some, Result, Ok, Err, refl, sym, ap, ◌∙◌, subst}
use Rattle.std.specs.Prelude.{is_none, nat_le, unwrap_or, ◌==◌, ◌||◌}
use Rattle.std.proofs.lemmas.Option.{slice_get-get_or}
use Rattle.rc_work.specs.Imports.{list_any, option_map_or, FailsLine, WordText, Op, Spec, LineFault, LineRule, S5, S6, S7, S8, W1, W2, W3, W4, W5}
use Rattle.rc_reader.specs.declared.refusal.LineFault.TheVariants as faults
use Rattle.rc_work.specs.declared.draft.Draft.{Draft}
use Rattle.rc_work.specs.declared.raw.RawCall.{RawCall}
use Rattle.rc_work.specs.declared.shapes.OpenDraft.{OpenDraft}
use Rattle.rc_work.specs.CallColumns.{written_columns, written_columns_at}
use Rattle.rc_work.specs.Determined.{keeps_rules}
use Rattle.rc_work.specs.LineForms.{call_line}
use Rattle.rc_work.specs.LineRules.{thread_of, thread_in, is_too_large, raw_values, has_wrong_kind, op_number, call_thread, read_call, after_form}
use Rattle.rc_work.specs.ShapeRules.{breaks_limit, shape_place, with_shape, after_op}
use Rattle.rc_work.specs.UnfilledGroups.{count_in, is_others, with_call}

abbrev some : {X : Type 0} → X → Option X
some x = Some x

-- what was given goes on, and a broken rule stands
abbrev pub and_next : {X Y : Type 0} → Result X LineRule → (X → Result Y LineRule) → Result Y LineRule
and_next (Ok x) next = next x
and_next (Err rule) next = Err rule

pub next_fails : {X Y : Type 0} (fault : LineFault) (gives : Result X LineRule) (next : X → Result Y LineRule) → FailsLine fault gives
    → FailsLine fault (and_next gives next)
next_fails faults.Memory gives next fails = tt
next_fails (faults.Broken rule) gives next fails = ap (λ g. and_next g next) fails

by_lines : {X Y : Type 0} (range limit order ended : Bool) (x : X) (next : X → Result Y LineRule)
    → cond range (Err S5) (cond limit (Err S6) (cond order (Err S7) (cond ended (Err S8) (next x))))
    ≡ and_next (cond range (Err S5) (cond limit (Err S6) (cond order (Err S7) (cond ended (Err S8) (Ok x))))) next
by_lines true limit order ended x next = refl
by_lines false true order ended x next = refl
by_lines false false true ended x next = refl
by_lines false false false true x next = refl
by_lines false false false false x next = refl

by_values : {X Y : Type 0} (count kinds : Bool) (x : X) (next : X → Result Y LineRule)
    → cond count (Err W2) (cond kinds (Err W3) (next x)) ≡ and_next (cond count (Err W2) (cond kinds (Err W3) (Ok x))) next
by_values true kinds x next = refl
by_values false true x next = refl
by_values false false x next = refl

-- ---- a call of an operation that its line brings

module _ (spec : Spec) (read : OpenDraft) (op : Op) (thread : List ℕ) (values : List WordText) (full : Bool) (limit : full ≡ breaks_limit read op) where
  abbrev shape_number : ℕ
  shape_number = length spec.ops + unwrap_or (shape_place read.shapes op) (length read.shapes)

  abbrev op_thread : Result ℕ LineRule
  op_thread = call_thread read.draft full thread values

  abbrev with_op_call : Bool → ℕ → RawCall → Result OpenDraft LineRule
  with_op_call keeps t call =
      cond (not keeps) (Err W4) (Ok (record { shapes = with_shape read.shapes op (shape_place read.shapes op); draft = with_call read.draft t call }))

  abbrev from_thread : ℕ → Result OpenDraft LineRule
  from_thread t = and_next (read_call spec op shape_number values) (with_op_call (keeps_rules spec op) t)

  op_parts : after_op spec read op thread values ≡ and_next op_thread from_thread
  op_parts =
      ap (λ rest. cond (is_none (thread_of read.draft.threads thread) || list_any is_too_large values) (Err S5)
      (cond (breaks_limit read op) (Err S6) (cond (length read.draft.rounds == 0) (Err S7) (cond read.draft.ended (Err S8) rest))))
      (by_values (not (length values == length (written_columns spec op))) (has_wrong_kind spec (written_columns spec op) (raw_values values))
      (record { op = shape_number; cols = written_columns spec op; values = raw_values values })
      (with_op_call (keeps_rules spec op) (thread_in read.draft thread)))
      ∙ ap (λ b. cond (is_none (thread_of read.draft.threads thread) || list_any is_too_large values) (Err S5)
      (cond b (Err S6) (cond (length read.draft.rounds == 0) (Err S7) (cond read.draft.ended (Err S8) (from_thread (thread_in read.draft thread))))))
      (sym limit)
      ∙ by_lines (is_none (thread_of read.draft.threads thread) || list_any is_too_large values) full (length read.draft.rounds == 0)
      read.draft.ended (thread_in read.draft thread) from_thread

  pub op_unplaced : (fault : LineFault) → FailsLine fault op_thread → FailsLine fault (after_op spec read op thread values)
  op_unplaced fault fails = subst (FailsLine fault) (sym op_parts) (next_fails fault op_thread from_thread fails)

  module _ (t number : ℕ) (placed : op_thread ≡ Ok t) (is : number ≡ shape_number) where
    op_placed : after_op spec read op thread values ≡ and_next (read_call spec op number values) (with_op_call (keeps_rules spec op) t)
    op_placed =
        op_parts ∙ ap (λ g. and_next g from_thread) placed
        ∙ ap (λ n. and_next (read_call spec op n values) (with_op_call (keeps_rules spec op) t)) (sym is)

    pub op_unread : (fault : LineFault) → FailsLine fault (read_call spec op number values) → FailsLine fault (after_op spec read op thread values)
    op_unread fault fails = subst (FailsLine fault) (sym op_placed) (next_fails fault (read_call spec op number values) _ fails)

    -- what the call gives, by whether its operation keeps the rules
    pub op_given : (call : RawCall) (keeps : Bool) → read_call spec op number values ≡ Ok call → keeps ≡ keeps_rules spec op
        → after_op spec read op thread values ≡ with_op_call keeps t call
    op_given call keeps given rules =
        op_placed ∙ ap (λ g. and_next g (with_op_call (keeps_rules spec op) t)) given ∙ ap (λ b. with_op_call b t call) (sym rules)

-- ---- a call of an operation of the specification

module _ (spec : Spec) (draft : Draft) (thread name : List ℕ) (values : List WordText) (full : Bool) (limit : full ≡ nat_le 20000 (count_in draft)) where
  abbrev named_thread : Result ℕ LineRule
  named_thread = call_thread draft full thread values

  abbrev with_named_call : Bool → ℕ → RawCall → Result Draft LineRule
  with_named_call others t call = cond others (Err W5) (Ok (with_call draft t call))

  abbrev by_columns : ℕ → ℕ → List ℕ → Result Draft LineRule
  by_columns t number cols =
      cond (not (length values == length cols)) (Err W2)
      (cond (has_wrong_kind spec cols (raw_values values)) (Err W3)
      (with_named_call (is_others draft.group t) t (record { op = number; cols = cols; values = raw_values values })))

  abbrev by_number : Option ℕ → ℕ → Result Draft LineRule
  by_number found t = cond (is_none found) (Err W1) (by_columns t (unwrap_or found 0) (option_map_or (written_columns_at spec) found []))

  named_parts : after_form spec draft (call_line thread name values) ≡ and_next named_thread (by_number (op_number spec name))
  named_parts =
      ap (λ b. cond (is_none (thread_of draft.threads thread) || list_any is_too_large values) (Err S5)
      (cond b (Err S6) (cond (length draft.rounds == 0) (Err S7) (cond draft.ended (Err S8) (by_number (op_number spec name) (thread_in draft thread))))))
      (sym limit)
      ∙ by_lines (is_none (thread_of draft.threads thread) || list_any is_too_large values) full
      (length draft.rounds == 0) draft.ended (thread_in draft thread) (by_number (op_number spec name))

  pub call_unplaced : (fault : LineFault) → FailsLine fault named_thread → FailsLine fault (after_form spec draft (call_line thread name values))
  call_unplaced fault fails = subst (FailsLine fault) (sym named_parts) (next_fails fault named_thread _ fails)

  module _ (t number : ℕ) (op : Op) (placed : named_thread ≡ Ok t) (named : op_number spec name ≡ Some number) (below : number < length spec.ops)
      (at : op ≡ get_or spec.ops number op) where
    call_placed : after_form spec draft (call_line thread name values)
        ≡ and_next (read_call spec op number values) (with_named_call (is_others draft.group t) t)
    call_placed =
        named_parts
        ∙ ap (λ g. and_next g (by_number (op_number spec name))) placed
        ∙ ap (λ found. by_number found t) named
        ∙ ap (λ found. by_columns t number (option_map_or (written_columns spec) found []))
        (slice_get-get_or spec.ops number op below ∙ ap (λ (o : Op). some o) (sym at))
        ∙ by_values (not (length values == length (written_columns spec op))) (has_wrong_kind spec (written_columns spec op) (raw_values values))
        (record { op = number; cols = written_columns spec op; values = raw_values values }) (with_named_call (is_others draft.group t) t)

    pub call_unread : (fault : LineFault) → FailsLine fault (read_call spec op number values)
        → FailsLine fault (after_form spec draft (call_line thread name values))
    call_unread fault fails = subst (FailsLine fault) (sym call_placed) (next_fails fault (read_call spec op number values) _ fails)

    -- what the call gives, by whether a group is unfilled that is another thread's
    pub call_given : (call : RawCall) (others : Bool) → read_call spec op number values ≡ Ok call → others ≡ is_others draft.group t
        → after_form spec draft (call_line thread name values) ≡ with_named_call others t call
    call_given call others given is =
        call_placed ∙ ap (λ g. and_next g (with_named_call (is_others draft.group t) t)) given ∙ ap (λ b. with_named_call b t call) (sym is)
