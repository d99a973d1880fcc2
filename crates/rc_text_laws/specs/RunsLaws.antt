-- The text of a report of a run of a workload determines the run.
use Rattle.std.proofs.Common.{◌≡◌, ℕ, ◌<◌, ◌≤◌, ◌^◌, List, [], ◌∷◌, length, map, Ok, inl, inr, refl, sym, ap, subst, arith}
use Rattle.rc_text_laws.specs.Imports.{AllByRecursion, In, map_in, each_in, in_each, Pairs, IsTuple, ContentLine, TextPlace, content_from, past_end_of, printed_lines, Fits, IsWellNamed, IsInRange, ColKind, Num, Text, Call, Spec, Step, Entry, replay, Also, Turn, Work, TurnsFit, RoundsFit, HasTurnSize, KeepsLimits, KnowsTexts, HasKnownTexts, HasKnownValues, IsBounded, AreBounded, Range, bounds_given, kind_at, work_by, work_reading, reading_all, report, Runs, HasTurn, entries_are_turns, AreTexts}
use Rattle.std.proofs.lemmas.List.{length-map}
use Rattle.std.proofs.lemmas.List.Elements.{recursion_from_All}
use Rattle.rc_text_laws.specs.LinesLaws.{IsShown, AreShown}
use Rattle.rc_text_laws.specs.CountLaws.{few_steps}
use Rattle.rc_text_laws.specs.LegalLaws.{HasCallsShown, IsCallShown, IsJournal, one_report_one_journal}
use Rattle.rc_text_laws.specs.ReadLaws.{are_read_lines}

shown_value : (kind : ColKind) (texts : List (List ℕ)) (n : ℕ) → n < 2 ^ 64
    → (kind ≡ Text → n < length texts) → IsShown kind texts n
shown_value Num texts n small known = small
shown_value Text texts n small known = known refl

shown_args : (spec : Spec) (texts : List (List ℕ)) (args : Pairs) → IsTuple args
    → HasKnownTexts spec texts args → AreShown spec texts args
shown_args spec texts args is known =
    in_each (λ p. IsShown (kind_at spec p.0) texts p.1) args
    (λ p m. shown_value (kind_at spec p.0) texts p.1 (is.values p m) (known p m))

-- bounds are of 64 bits
bounds_small : (ranges : List Range) → AllByRecursion IsBounded ranges → (p : ℕ × ℕ) → In p (bounds_given ranges)
    → p.1 < 2 ^ 64
bounds_small [] small p m = absurd m
bounds_small (range ∷ ranges) small p (inl e) = subst (λ (q : ℕ × ℕ). q.1 < 2 ^ 64) (sym e) small.0.0
bounds_small (range ∷ ranges) small p (inr (inl e)) = subst (λ (q : ℕ × ℕ). q.1 < 2 ^ 64) (sym e) small.0.1
bounds_small (range ∷ ranges) small p (inr (inr m)) = bounds_small ranges small.1 p m

shown_bounds : (spec : Spec) (texts : List (List ℕ)) (ranges : List Range) → AreBounded ranges
    → HasKnownTexts spec texts (bounds_given ranges) → AreShown spec texts (bounds_given ranges)
shown_bounds spec texts ranges bounded known =
    in_each (λ p. IsShown (kind_at spec p.0) texts p.1) (bounds_given ranges)
    (λ p m. shown_value (kind_at spec p.0) texts p.1 (bounds_small ranges (recursion_from_All IsBounded ranges bounded) p m) (known p m))

-- a call of the workload: of one of its turns
call_shown : (spec : Spec) (work : Work) (calls : List Call) (call : Call) → KnowsTexts spec work → RoundsFit spec work.rounds
    → (thread : ℕ) → HasTurn work thread calls → In call calls
    → Fits spec call × HasKnownValues spec work.ranks call
call_shown spec work calls call knows fit thread is m =
    let within : In call is.turn.calls = subst (λ (l : List Call). In call l) is.same m in (
      each_in (Fits spec) is.turn.calls
          (each_in (λ (t : Turn). AllByRecursion (Fits spec) t.calls) is.round
          (each_in (TurnsFit spec) work.rounds fit is.round is.known) is.turn is.within) call within,
      each_in (HasKnownValues spec work.ranks) is.turn.calls
          (each_in (λ (t : Turn). AllByRecursion (HasKnownValues spec work.ranks) t.calls) is.round
          (each_in (AllByRecursion (λ (t : Turn). AllByRecursion (HasKnownValues spec work.ranks) t.calls)) work.rounds knows is.round is.known)
          is.turn is.within) call within,
    )

step_called : (spec : Spec) (texts : List (List ℕ)) (step : Step) → Fits spec step.call → HasKnownValues spec texts step.call
    → IsCallShown spec texts step
step_called spec texts step fits known = record {
  op = fits.0;
  fits = fits.1;
  args = shown_args spec texts step.call.args fits.1.tuple known.args;
  bounds = shown_bounds spec texts step.call.ranges fits.1.bounds known.bounds;
}

called : (spec : Spec) (work : Work) (history : List Entry) → KeepsLimits work
    → KnowsTexts spec work → RoundsFit spec work.rounds → Runs spec work history
    → (e : Entry) → In e history → HasCallsShown spec work.ranks e
called spec work history limits knows fit run e m =
    let is = entries_are_turns spec work history e run m in
    let few : (1 ≤ length is.turn.calls) × (length is.turn.calls ≤ 16) =
    each_in HasTurnSize is.round (each_in (AllByRecursion HasTurnSize) work.rounds limits.turns is.round is.known)
    is.turn is.within in
    record {
      small = omega (arith, run.threads e m, limits.few_threads);
      some = omega (arith, few.0, ap (λ (l : List Call). length l) is.same, length-map e.steps (λ (s : Step). s.call));
      calls = in_each (IsCallShown spec work.ranks) e.steps (λ step n.
          let shown = call_shown spec work (map (λ (s : Step). s.call) e.steps) step.call knows fit e.pass is (map_in (λ (s : Step). s.call) step e.steps n) in
          step_called spec work.ranks step shown.0 shown.1);
    }

-- one printed report of a workload has one run
abbrev pub OneReportOneRun : Type 0
OneReportOneRun =
    (spec : Spec) (work : Work) (history other : List Entry) → IsWellNamed spec → IsInRange spec
    → AreTexts work.ranks → KeepsLimits work → KnowsTexts spec work → RoundsFit spec work.rounds
    → Runs spec work history → Runs spec work other
    → printed_lines (report spec work.ranks history (replay spec history))
    ≡ printed_lines (report spec work.ranks other (replay spec other))
    → history ≡ other

pub journal : (spec : Spec) (work : Work) (history : List Entry) → KeepsLimits work
    → KnowsTexts spec work → RoundsFit spec work.rounds → Runs spec work history
    → IsJournal spec work.ranks history
journal spec work history limits knows fit run = record {
  count = few_steps spec work history limits run;
  calls = in_each (HasCallsShown spec work.ranks) history (called spec work history limits knows fit run);
  numbered = run.numbered;
  legal = run.legal;
}

pub one_report_one_run : OneReportOneRun
one_report_one_run spec work history other named ranged good limits knows fit h k e =
    one_report_one_journal spec work.ranks history other named ranged good
    (journal spec work history limits knows fit h) (journal spec work other limits knows fit k) e

-- ---- what was read

-- Two runs of a workload that was read, with the same printed report, are the same.
abbrev pub ReportsTellRuns : Type 0
ReportsTellRuns =
    (also : Also) (spec : Spec) (place : TextPlace) (work : Work) (history other : List Entry) → IsWellNamed spec
    → IsInRange spec
    → work_reading also spec place ≡ Ok work → Runs spec work history
    → Runs spec work other
    → printed_lines (report spec work.ranks history (replay spec history))
    ≡ printed_lines (report spec work.ranks other (replay spec other))
    → history ≡ other

-- so of a workload that lines give
pub reports_tell_runs_of_lines : (also : Also) (past_end : ℕ) (spec : Spec) (lines : List ContentLine) (work : Work)
    (history other : List Entry) → IsWellNamed spec → IsInRange spec
    → work_by spec (reading_all also past_end spec lines) ≡ Ok work → Runs spec work history
    → Runs spec work other
    → printed_lines (report spec work.ranks history (replay spec history))
    ≡ printed_lines (report spec work.ranks other (replay spec other))
    → history ≡ other
reports_tell_runs_of_lines also past_end spec lines work history other named ranged read h k e =
    let is = are_read_lines also past_end spec lines work named ranged read in
    one_report_one_run spec work history other named ranged is.texts is.limits is.known is.fit h k e

pub reports_tell_runs : ReportsTellRuns
reports_tell_runs also spec place work history other named ranged read h k e =
    reports_tell_runs_of_lines also (past_end_of place.text) spec (content_from place) work history other named ranged read h k e
