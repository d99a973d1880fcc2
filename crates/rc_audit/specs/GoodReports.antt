-- Good reports of a specification with its plans and a workload, in one of two forms, and the verdict on a list of content lines.
use Rattle.std.specs.Prelude.{◌≡◌, ◌⊎◌, ℕ, List, [], ◌∷◌, ◌++◌, length, codes}
use Rattle.rc_audit.specs.Imports.{flat_map, range_with_len, ContentLine, bytes_of_content, Spec, Statement, SpecWithPlans, plan_at, plan_lines, Entry, replay, Work, count_line, journal_lines, report, Runs}
use Rattle.rc_audit.specs.declared.form.Form.{Form}
use Rattle.rc_audit.specs.declared.form.Form.TheVariants.{Run, Group, Journal}
use Rattle.rc_audit.specs.declared.verdict.Verdict.{Verdict}
use Rattle.rc_audit.specs.declared.verdict.Verdict.TheVariants.{Legal, Bad}

-- the lines of an operation's plan, by its number
abbrev pub op_lines : Spec → List (List Statement) → ℕ → List (List ℕ)
op_lines spec plans op = plan_lines spec op (plan_at plans op)

-- those of all plans, in the order in which the operations are written
abbrev pub plans_in_lines : SpecWithPlans → List (List ℕ)
plans_in_lines compiled = flat_map (op_lines compiled.spec compiled.plans) (range_with_len 0 (length compiled.spec.ops))

-- the lines that are printed of a history: the plans, and the report with the relation that the history leaves
abbrev pub run_lines : SpecWithPlans → Work → List Entry → List (List ℕ)
run_lines compiled work history = plans_in_lines compiled ++ report compiled.spec work.ranks history (replay compiled.spec history)

-- the lines of its journal alone: the number of entries, the entries, and `end`
abbrev pub bare_lines : Spec → Work → List Entry → List (List ℕ)
bare_lines spec work history =
    count_line (codes "journal") (length history) ∷ (journal_lines spec work.ranks history ++ codes "end" ∷ [])

-- the lines that a report of this form has of a history
abbrev pub good_lines : Form → SpecWithPlans → Work → List Entry → List (List ℕ)
good_lines Run compiled work history = run_lines compiled work history
good_lines Group compiled work history = run_lines compiled work history
good_lines Journal compiled work history = bare_lines compiled.spec work history

-- The lines of a good report of this form, of a run of the workload, with so many entries: all that is printed of the run, the
-- plans among them, or its journal alone. An entry has a step for each call of its turn.
pub record IsGoodReport (form : Form) (compiled : SpecWithPlans) (work : Work) (lines : List (List ℕ)) (entries : ℕ) : Type 0 where
  pub history : List Entry
  pub run : Runs compiled.spec work history
  pub printed : lines ≡ good_lines form compiled work history
  pub count : length history ≡ entries

-- the lines begin a good report
pub record BeginsGood (form : Form) (compiled : SpecWithPlans) (work : Work) (lines : List (List ℕ)) : Type 0 where
  pub others : List (List ℕ)
  pub entries : ℕ
  pub good : IsGoodReport form compiled work (lines ++ others) entries

-- ---- the verdict

-- a line such that the lines before it begin a good report, and with it they begin none
pub record IsFirstBadLine (form : Form) (compiled : SpecWithPlans) (work : Work) (lines : List ContentLine) (number : ℕ) : Type 0 where
  pub front : List ContentLine
  pub line : ContentLine
  pub others : List ContentLine
  pub whole : lines ≡ front ++ line ∷ others
  pub before : BeginsGood form compiled work (bytes_of_content front)
  pub bad : BeginsGood form compiled work (bytes_of_content front ++ line.bytes ∷ []) → ⊥
  pub number_is : line.number ≡ number

-- all lines begin a good report and are none: the line is one past the text's last, which may be blank or a comment
pub record AreTooFew (form : Form) (compiled : SpecWithPlans) (work : Work) (past_end : ℕ) (lines : List ContentLine) (number : ℕ) : Type 0 where
  pub begin : BeginsGood form compiled work (bytes_of_content lines)
  pub none : (entries : ℕ) → IsGoodReport form compiled work (bytes_of_content lines) entries → ⊥
  pub number_is : past_end ≡ number

-- Legal, with the number of entries; or bad, by the first line such that no good report begins with the lines so far, or
-- one past the text's last where more lines are wanted.
abbrev pub IsVerdict : Form → SpecWithPlans → Work → ℕ → List ContentLine → Verdict → Type 0
IsVerdict form compiled work past_end lines (Legal entries) = IsGoodReport form compiled work (bytes_of_content lines) entries
IsVerdict form compiled work past_end lines (Bad number) =
    IsFirstBadLine form compiled work lines number ⊎ AreTooFew form compiled work past_end lines number
