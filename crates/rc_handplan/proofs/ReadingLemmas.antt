-- The answers of the code that reads plans.
use Rattle.std.proofs.Common.{◌≡◌, ℕ, ◌+◌, Bool, false, List, ◌∷◌, sym, ap, ◌∙◌}
use Rattle.rc_text.specs.LanguageLaws as laws
use Rattle.rc_handplan.proofs.Imports.{ContentLine, TextPlace, Line, Spec, Hand, LineFault, Closing, LineStart, FailsLine, Refuses, refusal_at, hand_language, after_line, going_on, line_start, ends_plans}
use Rattle.rc_handplan.specs.declared.refusal.LineFault.TheVariants as faults
use Rattle.rc_handplan.specs.HandGrammar.{hands_from}

module _ (closing : Closing) (spec : Spec) (past_end : ℕ) (hands : List Hand) (lines : List ContentLine) where
  -- the first line is not read
  pub fails : (line : ContentLine) (others : List ContentLine) (fault : LineFault) → lines ≡ line ∷ others
      → ends_plans closing hands (line_start line.bytes) ≡ false → FailsLine fault (after_line spec hands line.bytes)
      → Refuses (refusal_at fault line.number) (hands_from closing spec past_end hands lines)
  unfolding hands_from
  fails line others faults.Memory lines-are e gives = tt
  fails line others (faults.Broken rule) lines-are e gives =
      laws.breaks (hand_language closing spec) past_end hands lines line others rule lines-are (rw e (ap going_on gives))

-- the place behind a line
pub place_behind : (old new : TextPlace) (line : Line) (text : List ℕ)
    → new ≡ record { text = old.text; at = line.next; line = line.number + 1 } → old.text ≡ text
    → new ≡ record { text = text; at = line.next; line = line.number + 1 }
place_behind old new line text behind text-is =
    behind ∙ ap (λ (t : List ℕ). record { text = t; at = line.next; line = line.number + 1 }) text-is

-- whether the plans end before a line, as it was found
pub ends_told : (closing : Closing) (hands seen : List Hand) (bytes : List ℕ) (start : LineStart) (answer told : Bool) → seen ≡ hands
    → start ≡ line_start bytes → answer ≡ ends_plans closing seen start → answer ≡ told
    → ends_plans closing hands (line_start bytes) ≡ told
ends_told closing hands seen bytes start answer told seen-is start-is answers is =
    ap (λ (h : List Hand). ends_plans closing h (line_start bytes)) (sym seen-is)
    ∙ ap (λ (s : LineStart). ends_plans closing seen s) (sym start-is)
    ∙ sym answers
    ∙ is
