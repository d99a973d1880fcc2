-- How the code's answers give what the definitions give, of a text of shapes.
use Rattle.std.specs.Prelude.{◌≡◌, ℕ, ◌≤◌, Bool, false, List, length, Result, Ok, Err}
use Rattle.rc_work.specs.Imports.{FailsLine, LineFault, LineRule, Version, IsInRange, Op, Spec}
use Rattle.rc_work.specs.ShapesGrammar.{after_shape_line}

-- a line was taken, and the shapes are then `new`
abbrev pub TakesShapeLine : {X : Type 0} → Result X LineFault → List Op → Result (List Op) LineRule → Type 0
TakesShapeLine (Ok done) new gives = gives ≡ Ok new
TakesShapeLine (Err fault) new gives = FailsLine fault gives

-- a line is read, and never ends the reading
pub record ReadsShapeLine (version : Version) (spec : Spec) (shapes : List Op) (bytes : List ℕ) (ended : Bool) (next : List Op) : Type 0 where
  pub goes_on : ended ≡ false
  pub gives : after_shape_line version spec shapes bytes ≡ Ok next

-- a line is refused
abbrev pub fails_shape_line : Version → Spec → List Op → List ℕ → LineFault → Type 0
fails_shape_line version spec shapes bytes fault = FailsLine fault (after_shape_line version spec shapes bytes)

-- lines may be read
pub record CanReadShapes (spec : Spec) (shapes : List Op) : Type 0 where
  pub range : IsInRange spec
  pub few : length shapes ≤ 32
