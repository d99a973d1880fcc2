-- A line that breaks no rule keeps the limits of a text, and `end` stands behind a column and a node.
use Rattle.std.proofs.Common.{◌≡◌, ℕ, ◌<◌, ◌≤◌, Bool, true, false, eqb, List, [], ◌∷◌, ◌++◌, length, Ok, refl, ap, ◌∙◌, subst, arith, lit≤}
use Rattle.rc_reader.specs.Imports.{unwrap_or, Column, Class, Op, Spec, empty, OpKind, HasColumnAndNode}
use Rattle.std.proofs.lemmas.Bool.{leb-false, or_parts, eqb-false, false≢true}
use Rattle.std.proofs.lemmas.List.{length_push}
use Rattle.rc_spec.specs.declared.items.OpKind.TheVariants as kinds
use Rattle.rc_reader.specs.declared.version.Version.{Version}
use Rattle.rc_reader.specs.declared.version.Version.TheVariants.{One, Two}
use Rattle.rc_reader.specs.Versions.{most_columns}
use Rattle.rc_reader.specs.Forms.{FormText, column_line, lock_line, query_line, insert_line, remove_line, update_line, end_line}
use Rattle.rc_reader.specs.Rules.{columns_named, set_named, operation_of, with_line}
use Rattle.rc_reader.specs.Grammar.{is_end, after_bytes}
use Rattle.rc_reader.specs.TextLimits.{KeepsTextLimits, KeepsRanges, IsKindOf, KeepsVersion}
use Rattle.rc_reader.specs.InRangeLaws.{most_columns-le}
use Rattle.rc_reader.specs.MembersLaws.{each_push}
use Rattle.rc_reader.specs.RulesLaws.{IsSpecLineTaken, line_taken, KeepsIn, Keeps}

limits-operation : (spec : Spec) (more : Op) → KeepsTextLimits spec → length spec.ops < 32 → KeepsTextLimits (record spec { ops = spec.ops ++ more ∷ [] })
limits-operation spec more limits few = record { columns = limits.columns; ops = omega (arith, length_push spec.ops more); stripes = limits.stripes; rows = limits.rows }

limits-with_line : Keeps KeepsTextLimits
limits-with_line version spec (column_line name kind) next formed is_taken limits =
    let few = leb-false (most_columns version) (length spec.columns) is_taken.limit in
    let more : Column = record { name = name; kind = kind } in
    record { columns = omega (arith, length_push spec.columns more, most_columns-le version); ops = limits.ops; stripes = limits.stripes; rows = limits.rows }
limits-with_line version spec (lock_line name number columns) next formed is_taken limits =
    let more : Class = record { name = name; stripes = unwrap_or number 0; cols = set_named spec columns } in
    record {
      columns = limits.columns;
      ops = limits.ops;
      stripes = each_push (λ (x : Class). x.stripes ≤ 65535) spec.classes more limits.stripes formed;
      rows = limits.rows;
    }
limits-with_line version spec (query_line name pattern ranges outs) next formed is_taken limits =
    limits-operation spec (operation_of spec name pattern (kinds.Query (columns_named spec outs) (columns_named spec ranges))) limits
    (leb-false 32 (length spec.ops) is_taken.limit)
limits-with_line version spec (insert_line name pattern) next formed is_taken limits =
    limits-operation spec (operation_of spec name pattern kinds.Insert) limits (leb-false 32 (length spec.ops) is_taken.limit)
limits-with_line version spec (remove_line name pattern) next formed is_taken limits =
    limits-operation spec (operation_of spec name pattern kinds.Remove) limits (leb-false 32 (length spec.ops) is_taken.limit)
limits-with_line version spec (update_line name pattern) next formed is_taken limits =
    limits-operation spec (operation_of spec name pattern kinds.Update) limits (leb-false 32 (length spec.ops) is_taken.limit)
limits-with_line version spec form next formed is_taken limits =
    record { columns = limits.columns; ops = limits.ops; stripes = limits.stripes; rows = limits.rows }

pub limits-keeps : Keeps KeepsTextLimits
limits-keeps = limits-with_line

pub limits-empty : KeepsTextLimits empty
limits-empty = record { columns = lit≤ tt; ops = lit≤ tt; stripes = λ class none. absurd none; rows = refl }

-- ---- what is kept in a text of a version

no_ranges : (version : Version) (spec : Spec) (ranges : List (List ℕ)) → KeepsRanges version ranges → KeepsRanges version (columns_named spec ranges)
no_ranges One spec ranges none = ap (columns_named spec) none
no_ranges Two spec ranges none = tt

version-operation : (version : Version) (spec : Spec) (name : List ℕ) (pattern : List (List ℕ)) (kind : OpKind) → KeepsVersion version spec → IsKindOf version kind → KeepsVersion version (record spec { ops = spec.ops ++ operation_of spec name pattern kind ∷ [] })
version-operation version spec name pattern kind keeps is = record {
  columns = keeps.columns;
  kinds = each_push (λ (x : Op). IsKindOf version x.kind) spec.ops (operation_of spec name pattern kind) keeps.kinds is;
}

pub version-keeps : (version : Version) → KeepsIn version (KeepsVersion version)
version-keeps version spec (column_line name kind) next formed is_taken keeps =
    let few = leb-false (most_columns version) (length spec.columns) is_taken.limit in
    let more : Column = record { name = name; kind = kind } in
    record { columns = omega (arith, length_push spec.columns more); kinds = keeps.kinds }
version-keeps version spec (query_line name pattern ranges outs) next formed is_taken keeps =
    version-operation version spec name pattern (kinds.Query (columns_named spec outs) (columns_named spec ranges)) keeps
    (no_ranges version spec ranges formed)
version-keeps version spec (insert_line name pattern) next formed is_taken keeps =
    version-operation version spec name pattern kinds.Insert keeps tt
version-keeps version spec (remove_line name pattern) next formed is_taken keeps =
    version-operation version spec name pattern kinds.Remove keeps tt
version-keeps version spec (update_line name pattern) next formed is_taken keeps =
    version-operation version spec name pattern kinds.Update keeps formed
version-keeps version spec form next formed is_taken keeps = record { columns = keeps.columns; kinds = keeps.kinds }

pub version-empty : (version : Version) → KeepsVersion version empty
version-empty One = record { columns = lit≤ tt; kinds = λ op none. absurd none }
version-empty Two = record { columns = lit≤ tt; kinds = λ op none. absurd none }

second_kind : (kind : OpKind) → IsKindOf Two kind
second_kind (kinds.Query outs ranges) = tt
second_kind kinds.Insert = tt
second_kind kinds.Remove = tt
second_kind kinds.Update = tt

-- a text of the second version has all that a text may have
pub second_version : (spec : Spec) → KeepsTextLimits spec → KeepsVersion Two spec
second_version spec limits = record { columns = limits.columns; kinds = λ op m. second_kind op.kind }

more_than_none : (n : ℕ) → eqb n 0 ≡ false → 0 < n
more_than_none n e = let other = eqb-false n 0 e in omega arith

populated : (version : Version) (spec next : Spec) (form : FormText) → IsSpecLineTaken version spec form next → is_end form ≡ true → HasColumnAndNode (with_line spec form)
populated version spec next end_line is_taken e =
    let parts = or_parts (eqb (length spec.columns) 0) (eqb (length spec.nodes) 0) is_taken.order in
    record { column = more_than_none (length spec.columns) parts.0; node = more_than_none (length spec.nodes) parts.1 }
populated version spec next form is_taken e = absurd (false≢true e)

-- the line `end`
pub populated-end : (version : Version) (spec : Spec) (bytes : List ℕ) (ended : Bool) (next : Spec) → after_bytes version spec bytes ≡ Ok (record { ended = ended; spec = next }) → ended ≡ true → HasColumnAndNode next
populated-end version spec bytes ended next e is-end =
    let line = line_taken version spec bytes (record { ended = ended; spec = next }) e in
    subst HasColumnAndNode line.taken.value (populated version spec next line.form line.taken (line.ended ∙ is-end))
