-- What the lines so far tell of a run.
use Rattle.std.specs.Prelude.{◌≡◌, ℕ, List, [], ◌∷◌, ◌++◌, codes, decimal, length, nat_le, sum_by, if◌then◌else◌}
use Rattle.rc_audit.specs.Imports.{enumerate_from, flat_map, Pairs, Spec, Call, SpecWithPlans, Entry, Step, replay, Turn, Work, HasThreads, RoundsFit, KeepsLimits, entry_after, count_line, group_head, entry_lines, final_lines, journal_lines, Runs}
use Rattle.rc_audit.specs.declared.form.Form.{Form}
use Rattle.rc_audit.specs.declared.form.Form.TheVariants.{Run, Group, Journal}
use Rattle.rc_audit.specs.GoodReports.{good_lines, plans_in_lines}
use Rattle.rc_audit.specs.Standing.{Stands}

-- a workload whose reports are judged: it keeps the limits, and its calls fit
pub record IsJudgeable (spec : Spec) (work : Work) : Type 0 where
  pub threads : HasThreads work
  pub limits : KeepsLimits work
  pub fit : RoundsFit spec work.rounds

-- the line begins with the place and the thread, each with a space behind it
abbrev pub IsOfThread : ℕ → List ℕ → ℕ → Type 0
IsOfThread place line thread = (rest : List ℕ) × (line ≡ decimal place ++ 32 ∷ (decimal thread ++ 32 ∷ rest))

-- what stands before the lines of the steps of an entry that has so many
abbrev pub turn_head : ℕ → ℕ → ℕ → List (List ℕ)
turn_head place thread count = if nat_le 2 count then group_head place thread count ∷ [] else []

-- the lines of a thread's steps in one entry
abbrev pub turn_lines : Spec → List (List ℕ) → ℕ → ℕ → List Step → List (List ℕ)
turn_lines spec texts place thread steps = entry_lines spec texts place (record { pass = thread; nth = 0; steps = steps })

-- the lines of entries with their places, of which the first has this one
abbrev pub entry_lines_from : Spec → List (List ℕ) → ℕ → List Entry → List (List ℕ)
entry_lines_from spec texts n history = flat_map (λ e. entry_lines spec texts e.0 e.1) (enumerate_from n history)

-- the lines before that with the number of entries
abbrev pub lines_before : Form → SpecWithPlans → List (List ℕ)
lines_before Run compiled = plans_in_lines compiled
lines_before Group compiled = plans_in_lines compiled
lines_before Journal compiled = []

-- the lines behind the last entry, where the entries leave this relation
abbrev pub lines_after : Form → Spec → List (List ℕ) → List Pairs → List (List ℕ)
lines_after Run spec texts rows = final_lines spec texts rows
lines_after Group spec texts rows = final_lines spec texts rows
lines_after Journal spec texts rows = codes "end" ∷ []

-- the lines of the entry of a thread's turn behind the entries that are done
abbrev pub next_lines : SpecWithPlans → Work → List Entry → ℕ → List Call → List (List ℕ)
next_lines compiled work done thread calls =
    entry_lines compiled.spec work.ranks (length done) (entry_after compiled.spec done thread calls)

module _ (form : Form) (compiled : SpecWithPlans) (work : Work) where
  -- the lines up to that with the number of entries
  abbrev pub opening_lines : List (List ℕ)
  opening_lines = lines_before form compiled ++ count_line (codes "journal") (sum_by length work.rounds) ∷ []

  -- the lines up to the last entry that is done
  abbrev pub lines_done : List Entry → List (List ℕ)
  lines_done done = opening_lines ++ journal_lines compiled.spec work.ranks done

  -- the lines with which a history's report ends
  abbrev pub closing_lines : List Entry → List (List ℕ)
  closing_lines history = lines_after form compiled.spec work.ranks (replay compiled.spec history)

  -- the lines behind the entries that are done, of a history that goes on
  abbrev pub lines_behind : List Entry → List Entry → List (List ℕ)
  lines_behind done more = entry_lines_from compiled.spec work.ranks (length done) more ++ closing_lines (done ++ more)

  -- These lines, and the pending ones of the last entry that is done, are those up to that entry, from where a run goes on as
  -- it stands; and each good report that begins with these lines is of a run that begins with the entries that are done.
  pub record IsJudged (done : List Entry) (left : ℕ → List (List Call)) (rounds : List (List Turn)) (front pending : List (List ℕ)) : Type 0 where
    pub stands : Stands compiled.spec work done left rounds
    pub lines : front ++ pending ≡ lines_done done
    pub told : (history : List Entry) (others : List (List ℕ)) → Runs compiled.spec work history
        → good_lines form compiled work history ≡ front ++ others → (more : List Entry) × (history ≡ done ++ more)

  -- where nothing is left, the entries that are done are a run, and the only one whose report begins with the lines so far
  pub record IsWhole (done : List Entry) (front : List (List ℕ)) : Type 0 where
    pub run : Runs compiled.spec work done
    pub printed : good_lines form compiled work done ≡ front ++ closing_lines done
    pub only : (history : List Entry) (others : List (List ℕ)) → Runs compiled.spec work history
        → good_lines form compiled work history ≡ front ++ others → (history ≡ done) × (others ≡ closing_lines done)
