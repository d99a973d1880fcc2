-- What each line of plans does to what all lines give.
use Rattle.std.proofs.Common.{◌<◌, arith, ◌≡◌, ℕ, true, false, List, [], ◌∷◌, length, eqb, Ok, Err, refl, sym, ap, ◌∙◌}
use Rattle.rc_text.specs.LanguageLaws as laws
use Rattle.rc_handplan.specs.Imports.{ContentLine, Spec}
use Rattle.rc_handplan.specs.declared.hand.Hand.{Hand}
use Rattle.rc_handplan.specs.declared.refusal.HandRule.TheVariants.{S8}
use Rattle.rc_handplan.specs.declared.starts.Closing.{Closing}
use Rattle.rc_handplan.specs.declared.starts.Closing.TheVariants as closings
use Rattle.rc_handplan.specs.declared.starts.LineStart.{LineStart}
use Rattle.rc_handplan.specs.declared.starts.LineStart.TheVariants as starts
use Rattle.rc_handplan.specs.HandGrammar.{hand_language, hands_from, after_head, after_statement, after_start, after_line, going_on}
use Rattle.rc_handplan.specs.Starts.{line_start, BeginsPlan, BeginsOtherwise, Closes, ends_plans}
use Rattle.std.proofs.lemmas.Bool.{ne_eqb}

module _ (closing : Closing) (spec : Spec) (past_end : ℕ) (hands : List Hand) (lines : List ContentLine) where
  -- the plans end before the first line
  pub ended : (line : ContentLine) (others : List ContentLine) → lines ≡ line ∷ others
      → ends_plans closing hands (line_start line.bytes) ≡ true
      → hands_from closing spec past_end hands lines ≡ Ok (record { hands = hands; others = lines })
  unfolding hands_from
  ended line others lines-are e =
      laws.ends (hand_language closing spec) past_end hands lines line others (record { ended = true; hands = hands }) lines-are
      (rw e refl) refl
      ∙ ap (λ (xs : List ContentLine). Ok (record { hands = hands; others = xs })) (sym lines-are)

  -- the first line is read
  pub goes_on : (line : ContentLine) (others : List ContentLine) (next : List Hand) → lines ≡ line ∷ others
      → ends_plans closing hands (line_start line.bytes) ≡ false → after_line spec hands line.bytes ≡ Ok next
      → hands_from closing spec past_end hands lines ≡ hands_from closing spec past_end next others
  unfolding hands_from
  goes_on line others next lines-are e gives =
      laws.goes_on (hand_language closing spec) past_end hands lines line others (record { ended = false; hands = next }) lines-are
      (rw e (ap going_on gives)) refl

  -- no line is left, and there is no plan
  pub none_left : lines ≡ [] → eqb (length hands) 0 ≡ true
      → hands_from closing spec past_end hands lines ≡ Ok (record { hands = hands; others = [] })
  unfolding hands_from
  none_left lines-are e = laws.runs_out (hand_language closing spec) past_end hands lines lines-are ∙ rw e refl

  -- no line is left, and there are plans
  pub runs_out : lines ≡ [] → eqb (length hands) 0 ≡ false
      → hands_from closing spec past_end hands lines ≡ Err (record { rule = S8; line = past_end })
  unfolding hands_from
  runs_out lines-are e = laws.runs_out (hand_language closing spec) past_end hands lines lines-are ∙ rw e refl

-- what a line gives is told by what the line is
pub by_start : (spec : Spec) (hands : List Hand) (bytes : List ℕ) (start : LineStart) → start ≡ line_start bytes
    → after_line spec hands bytes ≡ after_start spec hands start bytes
unfolding after_line
by_start spec hands bytes start is = ap (λ (s : LineStart). after_start spec hands s bytes) (sym is)

-- a line that begins no plan is a statement's
pub of_statement : (spec : Spec) (hands : List Hand) (bytes : List ℕ) (start : LineStart) → (start ≡ starts.Plan → ⊥)
    → after_start spec hands start bytes ≡ after_statement spec hands bytes
of_statement spec hands bytes starts.Plan other = absurd (other refl)
of_statement spec hands bytes starts.Work other = refl
of_statement spec hands bytes starts.End other = refl
of_statement spec hands bytes starts.Other other = refl

module _ (closing : Closing) (spec : Spec) (past_end : ℕ) (hands : List Hand) (line : ContentLine) (others : List ContentLine) where
  -- a head is read
  pub reads_head : (next : List Hand) → BeginsPlan line.bytes → after_head spec hands line.bytes ≡ Ok next
      → hands_from closing spec past_end hands (line ∷ others) ≡ hands_from closing spec past_end next others
  reads_head next begins gives =
      goes_on closing spec past_end hands (line ∷ others) line others next refl (ap (ends_plans closing hands) begins)
      (by_start spec hands line.bytes starts.Plan (sym begins) ∙ gives)

  -- the line of a statement is read
  pub reads_statement : (next : List Hand) → BeginsOtherwise line.bytes → 0 < length hands
      → after_statement spec hands line.bytes ≡ Ok next
      → hands_from closing spec past_end hands (line ∷ others) ≡ hands_from closing spec past_end next others
  reads_statement next begins some gives =
      goes_on closing spec past_end hands (line ∷ others) line others next refl
      (ap (ends_plans closing hands) begins ∙ ne_eqb (length hands) 0 (omega arith))
      (by_start spec hands line.bytes starts.Other (sym begins) ∙ gives)

-- the plans end before a line that closes them
closed_before : (closing : Closing) (hands : List Hand) (bytes : List ℕ) → Closes closing bytes
    → ends_plans closing hands (line_start bytes) ≡ true
closed_before closings.Work hands bytes closes = ap (ends_plans closings.Work hands) closes
closed_before closings.End hands bytes closes = ap (ends_plans closings.End hands) closes

module _ (closing : Closing) (spec : Spec) (past_end : ℕ) (hands : List Hand) (line : ContentLine) (others : List ContentLine) where
  pub ends_at : Closes closing line.bytes
      → hands_from closing spec past_end hands (line ∷ others) ≡ Ok (record { hands = hands; others = line ∷ others })
  ends_at closes =
      ended closing spec past_end hands (line ∷ others) line others refl (closed_before closing hands line.bytes closes)
