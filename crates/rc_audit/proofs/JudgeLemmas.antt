-- What a judge that passed lines says of them.
use Rattle.std.proofs.Common.{◌≡◌, ℕ, ◌+◌, Bool, true, Err, get_or, length, arith, List, [], ◌∷◌, ◌++◌, refl, sym, ap, ◌∙◌, inl, inr, subst}
use Rattle.std.specs.Prelude.{◌==◌, OnOk, Result, Ok, IfOk}
use Rattle.rc_audit.proofs.Imports.{eqb-true, append-nil, append_assoc, map-append, ContentLine, bytes_of_content, Memory, SpecWithPlans, Work, Entries, Fault, Form, Judge, Opening, Relation, Stage, Verdict, Bad, BeginsGood, IsGoodReport, IsVerdict, IsJudgeable, HasPassed, IsAmong, IsAtStage, IsBefore, IsOfSame, IsOpening, Judges, judged_form, judged_plans, judged_work, verdict_at, Keeps}
use Rattle.rc_audit.specs.declared.fault.Fault.TheVariants as faults
use Rattle.rc_audit.specs.declared.stage.Stage.TheVariants as stages
use Rattle.rc_audit.proofs.StageLemmas.{among_begins, among_none, closing_begins, opening_bad, opening_begins, opening_last, opening_none}

stage_begins : (form : Form) (compiled : SpecWithPlans) (work : Work) (relation : Relation) (stage : Stage) (front : List (List ℕ)) → IsJudgeable compiled.spec work
    → IsAtStage form compiled work relation stage front → BeginsGood form compiled work front
stage_begins form compiled work relation (stages.Opening opening) front can at = opening_begins form compiled work can opening front at.0
stage_begins form compiled work relation (stages.Entries entries) front can at = among_begins form compiled work can relation entries front at.0
stage_begins form compiled work relation (stages.Closing closing) front can at = closing_begins form compiled work can closing front at

-- lines that were passed begin a good report
pub passed_begins : (judge : Judge) (front : List (List ℕ)) → HasPassed judge front → BeginsGood (judged_form judge) (judged_plans judge) (judged_work judge) front
passed_begins judge front passed = stage_begins (judged_form judge) (judged_plans judge) (judged_work judge) judge.relation judge.stage front passed.judgeable passed.stage_is

-- so do those before a line that is passed, with it
pub passed_line : (old new : Judge) (front : List (List ℕ)) (line : List ℕ) (result : Result (Unit {0}) Fault) → IsOfSame old new
    → Judges (judged_form old) (judged_plans old) (judged_work old) front line (HasPassed new (front ++ line ∷ [])) result
    → OnOk result (BeginsGood (judged_form old) (judged_plans old) (judged_work old) (front ++ line ∷ []))
passed_line old new front line (Err fault) same judged = tt
passed_line old new front line (Ok done) same judged =
    subst (λ (z : Form × SpecWithPlans × Work). BeginsGood z.0 z.1 z.2 (front ++ line ∷ []))
    (λ i. (same.form_is i, same.compiled_is i, same.work_is i)) (passed_begins new (front ++ line ∷ []) judged)

module _ (all front now : List ContentLine) (whole : all ≡ front ++ now) where
  -- one line more
  pub whole_more : (line : ContentLine) (new : List ContentLine) → now ≡ line ∷ new → all ≡ (front ++ line ∷ []) ++ new
  whole_more line new here = whole ∙ ap (λ l. front ++ l) here ∙ sym (append_assoc front (line ∷ []) new)

  pub bytes_more : (line : ContentLine) → bytes_of_content front ++ line.bytes ∷ [] ≡ bytes_of_content (front ++ line ∷ [])
  bytes_more line = sym (map-append (λ (l : ContentLine). l.bytes) front (line ∷ []))

  module _ (judge : Judge) (form : Form) (compiled : SpecWithPlans) (work : Work) (past_end : ℕ) (form_is : judged_form judge ≡ form)
      (compiled_is : judged_plans judge ≡ compiled) (work_is : judged_work judge ≡ work) (passed : HasPassed judge (bytes_of_content front)) where
    same : ◌≡◌ {A = Form × SpecWithPlans × Work} (judged_form judge, judged_plans judge, judged_work judge) (form, compiled, work)
    same i = (form_is i, compiled_is i, work_is i)

    begins : BeginsGood form compiled work (bytes_of_content front)
    begins = subst (λ (z : Form × SpecWithPlans × Work). BeginsGood z.0 z.1 z.2 (bytes_of_content front)) same (passed_begins judge (bytes_of_content front) passed)

    -- a line with which no good report begins
    pub bad_verdict : (line : ContentLine) (new : List ContentLine) → now ≡ line ∷ new
        → (BeginsGood (judged_form judge) (judged_plans judge) (judged_work judge) (bytes_of_content front ++ line.bytes ∷ []) → ⊥) → IsVerdict form compiled work past_end all (Bad line.number)
    unfolding begins same
    bad_verdict line new here bad = inl (record {
      front = front;
      line = line;
      others = new;
      whole = whole ∙ ap (λ l. front ++ l) here;
      before = begins;
      bad = λ h. bad (subst (λ (z : Form × SpecWithPlans × Work). BeginsGood z.0 z.1 z.2 (bytes_of_content front ++ line.bytes ∷ [])) (sym same) h);
      number_is = refl;
    })

    -- the lines run out too early
    pub few_verdict : (number : ℕ) → now ≡ [] → ((entries : ℕ) → IsGoodReport (judged_form judge) (judged_plans judge) (judged_work judge) (bytes_of_content front) entries → ⊥)
        → past_end ≡ number → IsVerdict form compiled work past_end all (Bad number)
    unfolding begins same
    few_verdict number here none number_is =
        let all_of : front ≡ all = sym (whole ∙ ap (λ l. front ++ l) here ∙ append-nil front) in
        inr (record {
          begin = subst (λ (l : List ContentLine). BeginsGood form compiled work (bytes_of_content l)) all_of begins;
          none = λ entries good. none entries
              (subst (λ (z : Form × SpecWithPlans × Work). IsGoodReport z.0 z.1 z.2 (bytes_of_content front) entries) (sym same)
              (subst (λ (l : List ContentLine). IsGoodReport form compiled work (bytes_of_content l) entries) (sym all_of) good));
          number_is = number_is;
        })

abbrev pub IsNotClosing : Stage → Type 0
IsNotClosing (stages.Opening opening) = Unit {0}
IsNotClosing (stages.Entries entries) = Unit {0}
IsNotClosing (stages.Closing closing) = ⊥

stage_none : (form : Form) (compiled : SpecWithPlans) (work : Work) (relation : Relation) (stage : Stage) (front : List (List ℕ)) → IsJudgeable compiled.spec work
    → IsNotClosing stage → IsAtStage form compiled work relation stage front → (entries : ℕ) → IsGoodReport form compiled work front entries → ⊥
stage_none form compiled work relation (stages.Opening opening) front can open_still at = opening_none form compiled work can opening front at.0
stage_none form compiled work relation (stages.Entries entries) front can open_still at = among_none form compiled work can relation entries front at.0 at.1
stage_none form compiled work relation (stages.Closing closing) front can open_still at = absurd open_still

-- before the closing lines no good report ends
pub passed_none : (judge : Judge) (front : List (List ℕ)) → IsNotClosing judge.stage → HasPassed judge front → (entries : ℕ)
    → IsGoodReport (judged_form judge) (judged_plans judge) (judged_work judge) front entries → ⊥
passed_none judge front open_still passed =
    stage_none (judged_form judge) (judged_plans judge) (judged_work judge) judge.relation judge.stage front passed.judgeable open_still passed.stage_is

-- ---- a line

opening_at : (judge : Judge) (opening : Opening) (front : List (List ℕ)) → judge.stage ≡ stages.Opening opening → HasPassed judge front
    → IsOpening (judged_form judge) (judged_plans judge) (judged_work judge) opening front × Keeps (judged_plans judge).spec judge.relation []
opening_at judge opening front is passed = subst (λ stage. IsAtStage (judged_form judge) (judged_plans judge) (judged_work judge) judge.relation stage front) is passed.stage_is

-- another line than the next of the opening ones
pub opening_is_bad : (judge : Judge) (opening : Opening) (line : List ℕ) (front : List (List ℕ)) → judge.stage ≡ stages.Opening opening → HasPassed judge front
    → (line ≡ get_or opening.lines opening.met [] → ⊥) → BeginsGood (judged_form judge) (judged_plans judge) (judged_work judge) (front ++ line ∷ []) → ⊥
opening_is_bad judge opening line front is passed other =
    opening_bad (judged_form judge) (judged_plans judge) (judged_work judge) passed.judgeable opening front (opening_at judge opening front is passed).0 line other

-- the last of the opening lines
pub opening_before : (judge : Judge) (opening next : Opening) (line : List ℕ) (ended : Bool) (front : List (List ℕ)) → judge.stage ≡ stages.Opening opening
    → HasPassed judge front → line ≡ get_or opening.lines opening.met [] → next ≡ record opening { met = opening.met + 1 }
    → ended ≡ (next.met == length next.lines) → ended ≡ true → IsBefore (judged_form judge) (judged_plans judge) (judged_work judge) judge.relation 0 0 (front ++ line ∷ [])
opening_before judge opening next line ended front is passed met next_is last was =
    let at = opening_at judge opening front is passed in
    let all : next.met ≡ length next.lines = eqb-true next.met (length next.lines) (sym last ∙ was) in
    let met_is : next.met ≡ opening.met + 1 = ap (λ (o : Opening). o.met) next_is in
    let count : length next.lines ≡ length opening.lines = ap (λ (o : Opening). length o.lines) next_is in
    opening_last (judged_form judge) (judged_plans judge) (judged_work judge) passed.judgeable opening front at.0 line judge.relation met (omega (arith, all, met_is, count)) at.1

pub among_at : (judge : Judge) (entries : Entries) (front : List (List ℕ)) → judge.stage ≡ stages.Entries entries → HasPassed judge front
    → IsAmong (judged_form judge) (judged_plans judge) (judged_work judge) judge.relation entries front
among_at judge entries front is passed =
    (subst (λ stage. IsAtStage (judged_form judge) (judged_plans judge) (judged_work judge) judge.relation stage front) is passed.stage_is).0

-- a line that is not passed, whatever was to be so after it
pub judges_err : (form : Form) (compiled : SpecWithPlans) (work : Work) (front : List (List ℕ)) (line : List ℕ) (before after : Type 0) (fault : Fault)
    → Judges {X = Unit {0}} form compiled work front line before (Err fault) → Judges {X = Unit {0}} form compiled work front line after (Err fault)
judges_err form compiled work front line before after faults.Memory h = tt
judges_err form compiled work front line before after faults.Bad h = h

-- and what is said of it
pub judged_bad : (form : Form) (compiled : SpecWithPlans) (work : Work) (front : List (List ℕ)) (line : List ℕ) (after : Type 0) (IsSaid : Verdict → Type 0) (number : ℕ)
    (fault : Fault) (said : Result Verdict Memory) → said ≡ verdict_at fault number
    → ((BeginsGood form compiled work (front ++ line ∷ []) → ⊥) → IsSaid (Bad number))
    → Judges {X = Unit {0}} form compiled work front line after (Err fault) → IfOk said IsSaid
judged_bad form compiled work front line after IsSaid number faults.Memory said said_is is h = subst (λ r. IfOk r IsSaid) (sym said_is) tt
judged_bad form compiled work front line after IsSaid number faults.Bad said said_is is h = subst (λ r. IfOk r IsSaid) (sym said_is) (is h)
