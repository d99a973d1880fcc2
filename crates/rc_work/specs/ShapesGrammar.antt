-- The operations that a text of shapes gives, or the first broken line rule with its line. A line has the form of an `op` line
-- behind its name.
use Rattle.std.specs.Prelude.{ℕ, false, not, if◌then◌else◌, List, [], Result, Ok, Err}
use Rattle.rc_text.specs.Language as language
use Rattle.rc_work.specs.Imports.{Language, ContentLine, content_from, past_end_of, start_of, Op, Spec, Broken, unnamed_operation, LineRule, S6, W4, Version}
use Rattle.rc_work.specs.Determined.{keeps_rules}
use Rattle.rc_work.specs.ShapeRules.{is_one_shape_more, shape_place, with_shape}

-- S6: the shape is one more than 32. W4: the operation breaks O1, O2 or O3. One that asks as an earlier one does is that one.
abbrev pub shapes_with : Spec → List Op → Op → Result (List Op) LineRule
shapes_with spec shapes op =
    if is_one_shape_more shapes (shape_place shapes op) then Err S6
    else if not (keeps_rules spec op) then Err W4
    else Ok (with_shape shapes op (shape_place shapes op))

abbrev pub shapes_by : Spec → List Op → Result Op LineRule → Result (List Op) LineRule
shapes_by spec shapes (Err rule) = Err rule
shapes_by spec shapes (Ok op) = shapes_with spec shapes op

-- S2, S3, S4, S6 and W4 for a line of a text of the version, behind those that gave these shapes
unfoldable pub after_shape_line : Version → Spec → List Op → List ℕ → Result (List Op) LineRule
after_shape_line version spec shapes bytes = shapes_by spec shapes (unnamed_operation version spec bytes)

-- the language of these lines, of which none is the last
abbrev pub shapes_language : Version → Spec → Language (List Op) (List Op) (List Op) LineRule
shapes_language version spec = record {
  next = after_shape_line version spec;
  ended = λ shapes. false;
  state = λ shapes. shapes;
  done = λ shapes last others. shapes;
  out = λ past_end shapes. Ok shapes;
}

-- the lines behind those that gave these shapes, tested in order
unfoldable pub shapes_from : Version → Spec → ℕ → List Op → List ContentLine → Result (List Op) Broken
shapes_from version spec past_end shapes lines = language.reading_from (shapes_language version spec) past_end shapes lines

-- The shapes that a text gives for a specification whose text is of this version, in the order of their first lines; or the
-- first broken line rule with its line.
abbrev pub shapes_of : Version → Spec → List ℕ → Result (List Op) Broken
shapes_of version spec text = shapes_from version spec (past_end_of text) [] (content_from (start_of text))

-- what it is that a line of a text of shapes is the first to break a rule, and that all are taken
abbrev pub ShapesMean : Version → Spec → List ℕ → Result (List Op) Broken → Type 0
ShapesMean version spec text gives =
    language.LinesMean (shapes_language version spec) (past_end_of text) [] (content_from (start_of text)) gives
