-- The rules that a line may break which brings its own operation, and what it adds where it breaks none.
use Rattle.std.specs.Prelude.{ℕ, suc, Bool, true, false, not, ◌+◌, ◌&&◌, ◌||◌, ◌==◌, nat_le, if◌then◌else◌, List, [], ◌∷◌, ◌++◌, length, Option, Some, None, is_none, unwrap_or, Result, Ok, Err, codes, decimal}
use Rattle.rc_work.specs.Imports.{list_any, position_from, bytes_eq, Op, OpKind, Query, Insert, Remove, Update, Spec, columns_named, repeat_together, lacks, LineRule, S3, S4, S5, S6, S7, S8, W2, W3, W4, WordText}
use Rattle.rc_work.specs.declared.shapes.FoundShape.{FoundShape}
use Rattle.rc_work.specs.declared.shapes.OpenDraft.{OpenDraft}
use Rattle.rc_work.specs.declared.raw.RawCall.{RawCall}
use Rattle.rc_work.specs.CallColumns.{written_columns}
use Rattle.rc_work.specs.Determined.{keeps_rules}
use Rattle.rc_work.specs.LineRules.{thread_of, is_too_large, raw_values, has_wrong_kind, thread_in}
use Rattle.rc_work.specs.ShapeForms.{KindText, query_kind, insert_kind, remove_kind, update_kind, ShapeText, plain_words}
use Rattle.rc_work.specs.UnfilledGroups.{count_in, with_call}

-- the words of range columns, and those of outputs
abbrev pub range_words : KindText → List WordText
range_words (query_kind ranges outs) = ranges
range_words insert_kind = []
range_words remove_kind = []
range_words update_kind = []

abbrev pub out_words : KindText → List WordText
out_words (query_kind ranges outs) = outs
out_words insert_kind = []
out_words remove_kind = []
out_words update_kind = []

-- the columns that words name
abbrev pub named : Spec → List WordText → List ℕ
named spec words = columns_named spec (plain_words words)

-- what an operation of this kind does, with these outputs and range columns
abbrev pub kind_with : KindText → List ℕ → List ℕ → OpKind
kind_with (query_kind ranges outs) out_columns range_columns = Query out_columns range_columns
kind_with insert_kind out_columns range_columns = Insert
kind_with remove_kind out_columns range_columns = Remove
kind_with update_kind out_columns range_columns = Update

-- the operation of a line, which has no name of its own
abbrev pub shape_op : Spec → ShapeText → Op
shape_op spec shape = record {
  name = [];
  pattern = named spec shape.pattern;
  kind = kind_with shape.kind (named spec (out_words shape.kind)) (named spec (range_words shape.kind));
}

abbrev pub is_same_kind : OpKind → OpKind → Bool
is_same_kind (Query outs ranges) (Query others more) = bytes_eq outs others && bytes_eq ranges more
is_same_kind (Query outs ranges) Insert = false
is_same_kind (Query outs ranges) Remove = false
is_same_kind (Query outs ranges) Update = false
is_same_kind Insert (Query outs ranges) = false
is_same_kind Insert Insert = true
is_same_kind Insert Remove = false
is_same_kind Insert Update = false
is_same_kind Remove (Query outs ranges) = false
is_same_kind Remove Insert = false
is_same_kind Remove Remove = true
is_same_kind Remove Update = false
is_same_kind Update (Query outs ranges) = false
is_same_kind Update Insert = false
is_same_kind Update Remove = false
is_same_kind Update Update = true

-- two operations have the same shape: kind and lists, in written order
abbrev pub is_same_shape : Op → Op → Bool
is_same_shape op other = bytes_eq op.pattern other.pattern && is_same_kind op.kind other.kind

-- the place of the operation's shape among those that lines before it brought
abbrev pub shape_place : List Op → Op → Option ℕ
shape_place shapes op = position_from (is_same_shape op) 0 shapes

-- `?1` is the name of the first
abbrev pub shape_name : ℕ → List ℕ
shape_name place = codes "?" ++ decimal (suc place)

-- the shapes with this one behind them, under its name, where they have it not
abbrev pub with_shape : List Op → Op → Option ℕ → List Op
with_shape shapes op None = shapes ++ record op { name = shape_name (length shapes) } ∷ []
with_shape shapes op (Some place) = shapes

-- S3: a list names a column twice, save a query's output list; or a query's range column stands in its pattern
abbrev pub breaks_names : Spec → ShapeText → Bool
breaks_names spec shape = repeat_together spec (plain_words shape.pattern) (plain_words (range_words shape.kind))

-- S4: a word names no column
abbrev pub breaks_known : Spec → ShapeText → Bool
breaks_known spec shape =
    (lacks spec (plain_words shape.pattern) || lacks spec (plain_words (range_words shape.kind)))
    || lacks spec (plain_words (out_words shape.kind))

-- a line with its words looked up
abbrev pub found_shape : Spec → ShapeText → FoundShape
found_shape spec shape = record {
  op = shape_op spec shape;
  breaks_names = breaks_names spec shape;
  breaks_known = breaks_known spec shape;
}

-- S5: a thread that is not below the count, a value above 2^64 - 1, or a text of more than 64 bytes
abbrev pub breaks_range : OpenDraft → List ℕ → List WordText → Bool
breaks_range read thread values = is_none (thread_of read.draft.threads thread) || list_any is_too_large values

-- an operation with this place among the shapes is one more than the 32 that there may be
abbrev pub is_one_shape_more : List Op → Option ℕ → Bool
is_one_shape_more shapes place = is_none place && nat_le 32 (length shapes)

-- S6: the call is one more than 20,000, or the shape one more than 32
abbrev pub breaks_limit : OpenDraft → Op → Bool
breaks_limit read op = nat_le 20000 (count_in read.draft) || is_one_shape_more read.shapes (shape_place read.shapes op)

-- the call of a line: its operation's number stands behind those of the specification
abbrev pub shape_call : Spec → List Op → Op → List WordText → RawCall
shape_call spec shapes op values = record {
  op = length spec.ops + unwrap_or (shape_place shapes op) (length shapes);
  cols = written_columns spec op;
  values = raw_values values;
}

-- what was read, with a call of the operation
abbrev pub with_op : Spec → OpenDraft → Op → List ℕ → List WordText → OpenDraft
with_op spec read op thread values = record {
  shapes = with_shape read.shapes op (shape_place read.shapes op);
  draft = with_call read.draft (thread_in read.draft thread) (shape_call spec read.shapes op values);
}

-- The first rule from S5 on that a line with this operation, thread and values breaks, or what was read with it. S7: a call before
-- the first `round`. S8: a line after `end`. W2: the number of values is not the operation's. W3: a value is not of its column's
-- kind. W4: the operation breaks O1, O2 or O3.
abbrev pub after_op : Spec → OpenDraft → Op → List ℕ → List WordText → Result OpenDraft LineRule
after_op spec read op thread values =
    if breaks_range read thread values then Err S5
    else if breaks_limit read op then Err S6
    else if length read.draft.rounds == 0 then Err S7
    else if read.draft.ended then Err S8
    else if not (length values == length (written_columns spec op)) then Err W2
    else if has_wrong_kind spec (written_columns spec op) (raw_values values) then Err W3
    else if not (keeps_rules spec op) then Err W4
    else Ok (with_op spec read op thread values)

-- the same, from S3 on
abbrev pub after_shape : Spec → OpenDraft → ShapeText → Result OpenDraft LineRule
after_shape spec read shape =
    if breaks_names spec shape then Err S3
    else if breaks_known spec shape then Err S4
    else after_op spec read (shape_op spec shape) shape.thread shape.values
