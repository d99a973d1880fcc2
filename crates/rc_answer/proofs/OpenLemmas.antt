-- What is written of a workload whose calls bring their own operation, and what its run leaves.
use Rattle.std.proofs.Common.{◌≡◌, ◌++◌, ◌∙◌, ◌-◌, ◌<◌, ℕ, inl, List, Option, Result, Ok, Err, ap, drop, length, refl, subst, sym, take}
use Rattle.rc_answer.proofs.Imports.{take-append-drop, take_rest, IfOk, TextPlace, Adds, shapes_text, further_text, IsAccepted, Op, Spec, In, append_in_left, append_in_right, op_at, ArePlansOf, SpecWithPlans, plan_at, IsPlanned, IsRead, ReadsAs, rest_place, Broken, Reading, spec_reading, Rest, ReadRefusal, HasSingleTurns, open_reading, with_operations, OpenWork, AnswersOpen, AnswersOpenWork, IsOpenReport, ArePlanned, HasOpenText, HasOpenWorkText, IsOfItsStore, IsRunBy, IsRunOf, open_text, run_text, is_report, WritesRefusal, Writes, Ran, Status, Done, Stop}
use Rattle.rc_reader.specs.declared.refusal.ReadRefusal.TheVariants as refusals
use Rattle.rc_answer.proofs.AnswerLemmas.{read_place, writes_wider}
use Rattle.rc_answer.proofs.RanLemmas.{planned_run}

-- ---- the text of a run

-- one of those behind the first is one of all
pub in_further : (op : Op) (ops : List Op) (n m : ℕ) → In op (take m (drop n ops)) → In op ops
in_further op ops n m h =
    subst (In op) (take-append-drop n ops)
    (append_in_right op (take n ops) (drop n ops)
    (subst (In op) (take-append-drop m (drop n ops)) (append_in_left op (take m (drop n ops)) (drop m (drop n ops)) h)))

-- what is printed of the operations behind the declared ones
pub shapes_printed : (made here : SpecWithPlans) (spec : Spec) (ops : List Op) (declared : ℕ) (text : List ℕ) → here ≡ made → spec ≡ here.spec → ops ≡ spec.ops
    → text ≡ shapes_text spec (take (length ops - declared) (drop declared ops)) → text ≡ shapes_text made.spec (drop declared made.spec.ops)
shapes_printed made here spec ops declared text is same are printed =
    let all : spec ≡ made.spec = same ∙ ap (λ (c : SpecWithPlans). c.spec) is in
    printed ∙ ap (shapes_text spec) (take_rest ops declared ∙ ap (drop declared) are)
    ∙ ap (λ (s : Spec). shapes_text s (drop declared s.ops)) all

module _ (spec : Spec) (read : OpenWork) (ran : Ran) (run : IsRunOf (with_operations spec read.shapes) read.work ran) where
  abbrev whole : List ℕ
  whole = shapes_text spec read.shapes ++ run_text read.work.ranks ran

  -- the operations behind the declared ones are the shapes
  pub text_is : (declared : ℕ) → declared ≡ length spec.ops → open_text declared read.work.ranks ran ≡ whole
  text_is declared count =
      ap (λ n. open_text n read.work.ranks ran) count
      ∙ ap (λ (l : List ℕ). l ++ run_text read.work.ranks ran) (further_text spec ran.closed.compiled.spec read.shapes run.of_spec)

  whole_is_report : IsOpenReport spec read whole Done
  whole_is_report = record {
    others = run_text read.work.ranks ran;
    report = is_report (ArePlanned (with_operations spec read.shapes)) (with_operations spec read.shapes) read.work ran run;
    printed = refl;
  }

  pub is_open_report : (declared : ℕ) → declared ≡ length spec.ops → IsOpenReport spec read (open_text declared read.work.ranks ran) Done
  is_open_report declared count = subst (λ (l : List ℕ). IsOpenReport spec read l Done) (sym (text_is declared count)) whole_is_report

-- a run by the planned plans of the specification with the shapes
pub extended_run : (spec extended : Spec) (made : SpecWithPlans) (read : OpenWork) (ran : Ran) → extended ≡ with_operations spec read.shapes → made.spec ≡ extended
    → ArePlansOf made.spec made.plans → ((op : ℕ) → op < length extended.ops → IsPlanned extended (op_at extended op) (plan_at made.plans op))
    → IsRunBy (λ plans. plans ≡ made.plans) made.spec read.work ran → IsRunOf (with_operations spec read.shapes) read.work ran
extended_run spec extended made read ran is same plans each run =
    subst (λ (s : Spec). IsRunOf s read.work ran) is (planned_run extended made read.work ran same plans each run)

-- ---- behind the specification

module _ (version : ℕ) (spec here : Spec) (place : TextPlace) (read : OpenWork) (here_is : here ≡ spec) (made : open_reading version here place ≡ Ok read) where
  work_read : open_reading version spec place ≡ Ok read
  work_read = subst (λ (s : Spec). open_reading version s place ≡ Ok read) here_is made

  -- the report of a run answers the workload
  pub open_work_answers : (old new : Option (List ℕ)) (r : Result Status Stop) → Writes (IsOpenReport spec read) old new r
      → Writes (AnswersOpenWork spec (open_reading version spec place)) old new r
  open_work_answers old new r written =
      subst (λ (found : Result OpenWork Broken). Writes (AnswersOpenWork spec found) old new r) (sym work_read) written

  -- and the run is one of it
  pub open_work_text : (old new : Option (List ℕ)) (r : Result Ran Stop) → IsAccepted (with_operations spec read.shapes) → HasSingleTurns read.work
      → IfOk r (IsRunOf (with_operations spec read.shapes) read.work) → IfOk r IsOfItsStore
      → IfOk r (λ ran. Adds old (shapes_text spec read.shapes ++ run_text read.work.ranks ran) new)
      → IfOk r (HasOpenWorkText version spec place old new)
  open_work_text old new (Err stop) extended single run store written = tt
  open_work_text old new (Ok ran) extended single run store written = record {
    work = read;
    work_read = work_read;
    extended = extended;
    single = single;
    run = run;
    store = store;
    written = written;
  }

-- the refusal of the workload answers it
pub open_work_refusal : (version : ℕ) (spec here : Spec) (place : TextPlace) (refusal : ReadRefusal) (old new : Option (List ℕ)) (r : Result Status Stop) → here ≡ spec
    → ReadsAs {X = OpenWork} (Err refusal) (open_reading version here place) → WritesRefusal old new refusal r
    → Writes (AnswersOpenWork spec (open_reading version spec place)) old new r
open_work_refusal version spec here place refusals.Memory old new r same made (is_memory, unchanged) =
    subst (Writes (AnswersOpenWork spec (open_reading version spec place)) old new) (sym is_memory) (inl unchanged)
open_work_refusal version spec here place (refusals.Line rule line) old new r same made written =
    subst (λ (found : Result OpenWork Broken). Writes (AnswersOpenWork spec found) old new r)
    (sym (subst (λ (s : Spec). open_reading version s place ≡ Err (record { rule = rule; line = line })) same made)) written

-- ---- the specification

module _ (input : List ℕ) (reading : Reading) (spec : Spec) (rest : Rest) (read : spec_reading input ≡ Ok reading) (is : IsRead input spec rest reading) (accepted : IsAccepted spec) where
  -- what is written of the workload behind an accepted specification is what may be written of both
  pub open_answers : (old new : Option (List ℕ)) (r : Result Status Stop)
      → Writes (AnswersOpenWork spec (open_reading rest.version spec (rest_place input rest))) old new r
      → Writes (AnswersOpen input (spec_reading input)) old new r
  open_answers old new r written =
      writes_wider (AnswersOpenWork spec (open_reading rest.version spec (rest_place input rest))) (AnswersOpen input (spec_reading input)) old new r
      (λ out status h. subst (λ (found : Result Reading Broken). AnswersOpen input found out status) (sym read)
      (inl (
        subst (λ (s : Spec). IsAccepted s) (sym is.value) accepted,
        subst (λ (z : ℕ × Spec × TextPlace). AnswersOpenWork z.1 (open_reading z.0 z.1 z.2) out status)
            (λ i. (is.version i, sym is.value i, sym (read_place input reading spec rest is) i)) h,
      )))
      written

  pub opened_text : (old new : Option (List ℕ)) (ran : Ran) → HasOpenWorkText rest.version spec (rest_place input rest) old new ran → HasOpenText input old new ran
  opened_text old new ran h = record {
    spec = spec;
    work = h.work;
    read = record {
      reading = reading;
      read = read;
      of_spec = is.value;
      accepted = accepted;
      work_read =
          (λ i. open_reading (sym is.version i) spec (read_place input reading spec rest is i)) ∙ h.work_read;
      extended = h.extended;
      single = h.single;
    };
    run = h.run;
    store = h.store;
    written = h.written;
  }

-- the refusal of a specification is that of `open`
pub open_refusal_answers : (input : List ℕ) (refusal : ReadRefusal) (old new : Option (List ℕ)) (r : Result Status Stop)
    → ReadsAs (Err refusal) (spec_reading input) → WritesRefusal old new refusal r → Writes (AnswersOpen input (spec_reading input)) old new r
open_refusal_answers input refusals.Memory old new r made (is_memory, same) =
    subst (Writes (AnswersOpen input (spec_reading input)) old new) (sym is_memory) (inl same)
open_refusal_answers input (refusals.Line rule line) old new r made written =
    subst (λ (read : Result Reading Broken). Writes (AnswersOpen input read) old new r) (sym made) written
