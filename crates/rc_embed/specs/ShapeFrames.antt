-- Frames by which operations are looked up by what they ask.
use Rattle.std.specs.Prelude.{◌≡◌, ℕ, ◌<◌, ◌≤◌, List, take}
use Rattle.rc_spec.specs.declared.spec.Spec.{Spec}
use Rattle.rc_embed.specs.Codes as codes
use Rattle.rc_embed.specs.OpenFrames.{IsToldOperation}
use Rattle.rc_embed.specs.Shaped.{shape_number}
use Rattle.rc_embed.specs.declared.shape_frame.ShapeFrame.{ShapeFrame}

-- the line that is asked for
abbrev pub line_asked : ShapeFrame → List ℕ
line_asked frame = take frame.operation.length frame.line

-- The frame tells of the first operation that asks as its line does, where one does, and keeps the line. Where memory is
-- wanted it stays as it is.
pub record AnswersShape (spec : Spec) (before after : ShapeFrame) (code : ℕ) : Type 0 where
  pub wide : 4096 < before.operation.length → (code ≡ codes.operation) × (after ≡ before)
  pub asked : before.operation.length ≤ 4096 → (code ≡ codes.memory → ⊥)
      → IsToldOperation spec (shape_number spec (line_asked before)) before.operation after.operation code
  pub line : after.line ≡ before.line
  pub wanted : code ≡ codes.memory → after ≡ before
