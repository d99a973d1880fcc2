-- What lines of plans give is what they mean.
use Rattle.std.proofs.Math.Bool.{or-true}
use Rattle.std.proofs.Common.{◌≡◌, ◌≢◌, ℕ, true, List, [], ◌∷◌, Result, Ok, refl, subst}
use Rattle.rc_text.specs.LanguageLaws as laws
use Rattle.rc_handplan.specs.Imports.{ContentLine, content_from, past_end_of, Spec}
use Rattle.rc_handplan.specs.declared.starts.Closing.{Closing}
use Rattle.rc_handplan.specs.declared.starts.LineStart.{LineStart}
use Rattle.rc_handplan.specs.declared.starts.LineStart.TheVariants as starts
use Rattle.rc_handplan.specs.FirstBroken.{HandsMean, FirstBrokenPlanLine, BeginNoPlan, NothingIsRead}
use Rattle.rc_handplan.specs.HandGrammar.{HandReading, Broken, hand_language, hands_from}
use Rattle.rc_handplan.specs.HandGrammarLaws.{ended, none_left}
use Rattle.rc_handplan.specs.Starts.{line_start, is_work, is_end, ends_plans}

pub first_broken_plan_line : FirstBrokenPlanLine
unfolding hands_from
first_broken_plan_line closing spec place gives = (
  (λ e. subst (λ (r : Result HandReading Broken). HandsMean closing spec place r) e
      (laws.means-reading (hand_language closing spec) (past_end_of place.text) [] (content_from place))),
  (λ means. laws.reading-means (hand_language closing spec) (past_end_of place.text) [] (content_from place) gives means),
)

other_ends : (closing : Closing) (start : LineStart) → start ≢ starts.Plan → ends_plans closing [] start ≡ true
other_ends closing starts.Plan other = absurd (other refl)
other_ends closing starts.Work other = or-true (is_work closing)
other_ends closing starts.End other = or-true (is_end closing)
other_ends closing starts.Other other = refl

nothing_from : (closing : Closing) (spec : Spec) (past_end : ℕ) (lines : List ContentLine) → BeginNoPlan lines
    → hands_from closing spec past_end [] lines ≡ Ok (record { hands = []; others = lines })
nothing_from closing spec past_end [] other = none_left closing spec past_end [] [] refl refl
nothing_from closing spec past_end (line ∷ others) other =
    ended closing spec past_end [] (line ∷ others) line others refl (other_ends closing (line_start line.bytes) other)

pub nothing_is_read : NothingIsRead
nothing_is_read closing spec place other = nothing_from closing spec (past_end_of place.text) (content_from place) other
