-- What it is that a line is the first to break a rule of plans, over the whole list of lines.
use Rattle.std.specs.Prelude.{◌≡◌, ◌↔◌, List, [], ◌∷◌, Result, Ok}
use Rattle.rc_text.specs.Language as language
use Rattle.rc_handplan.specs.Imports.{ContentLine, TextPlace, content_from, past_end_of, Spec}
use Rattle.rc_handplan.specs.declared.starts.Closing.{Closing}
use Rattle.rc_handplan.specs.HandGrammar.{HandReading, Broken, hand_language, hands_reading_to}
use Rattle.rc_handplan.specs.Starts.{BeginsPlan}

-- what the content lines from a place on mean behind a specification: each line breaks no rule behind those before it up
-- to one at which the plans end, or some line is the first that breaks one, or they run out
abbrev pub HandsMean : Closing → Spec → TextPlace → Result HandReading Broken → Type 0
HandsMean closing spec place gives =
    language.LinesMean (hand_language closing spec) (past_end_of place.text) [] (content_from place) gives

-- and nothing else is what they give
abbrev pub FirstBrokenPlanLine : Type 0
FirstBrokenPlanLine = (closing : Closing) (spec : Spec) (place : TextPlace) (gives : Result HandReading Broken)
    → (hands_reading_to closing spec place ≡ gives) ↔ HandsMean closing spec place gives

-- the first of some lines begins no plan, if there is one
abbrev pub BeginNoPlan : List ContentLine → Type 0
BeginNoPlan [] = Unit {0}
BeginNoPlan (line ∷ others) = BeginsPlan line.bytes → ⊥

-- where the first line begins no plan, none is read, and all lines are left
abbrev pub NothingIsRead : Type 0
NothingIsRead = (closing : Closing) (spec : Spec) (place : TextPlace) → BeginNoPlan (content_from place)
    → hands_reading_to closing spec place ≡ Ok (record { hands = []; others = content_from place })
