-- Operations by what they ask.
use Rattle.rc_embed.specs.Imports.{ℕ, List, Option, None, Result, Ok, Err, Op, Spec, unnamed_operation, LineRule, Two, shape_place}

-- the first operation of this kind with these lists of columns, in written order
abbrev pub number_of : Spec → Result Op LineRule → Option ℕ
number_of spec (Err rule) = None
number_of spec (Ok op) = shape_place spec.ops op

-- The number of the first operation, declared or not, that asks as the line does, which has the form of an `op` line behind its
-- name; none where none does, as where the line has no such form or names no column of the specification.
abbrev pub shape_number : Spec → List ℕ → Option ℕ
shape_number spec line = number_of spec (unnamed_operation Two spec line)
