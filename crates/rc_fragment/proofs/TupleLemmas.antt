-- What is noted of a tuple is noted of its row.
use Rattle.std.specs.Prelude.{◌≡◌, ℕ, pred, ◌-◌, List, Some, [], length, map}
use Rattle.rc_fragment.proofs.Imports.{slice_get, option_map_or, Within, union, in_minus, Pairs, project, project-project, Values, edge_row, shapes, IsWithin, noted_extra, place_of, IsParted, extra_columns, values_at, EdgeRows, NotedRow, EdgeShape}
use Rattle.std.proofs.Common.{sym, ap, ◌∙◌, arith}
use Rattle.rc_fragment.proofs.NotedLemmas.{IsNoteOf}
use Rattle.rc_fragment.proofs.RowLemmas.{shape_there}

pub less_one : (n : ℕ) → n - 1 ≡ pred n
less_one n = omega arith

module _ (edges : List EdgeRows) (e : ℕ) (x : EdgeRows) (number : slice_get edges e ≡ Some x) (parted : IsParted x.shape) (t : Pairs) where
  pub row_is : edge_row (shapes edges) e t ≡ project x.shape.target t
  row_is = ap (λ o. project (option_map_or (λ (s : EdgeShape). s.target) o []) t) (shape_there edges e x number)

  values_are : (cols : List ℕ) → Within cols x.shape.target → values_at cols t ≡ values_at cols (edge_row (shapes edges) e t)
  values_are cols w = ap (map (λ p. p.1)) (sym (project-project cols x.shape.target t w)) ∙ ap (values_at cols) (sym row_is)

  source_is : values_at x.shape.source t ≡ values_at x.shape.source (edge_row (shapes edges) e t)
  source_is = values_are x.shape.source parted.source_within

  key_is : values_at x.shape.key t ≡ values_at x.shape.key (edge_row (shapes edges) e t)
  key_is = values_are x.shape.key parted.key_within

  extra_is : values_at (extra_columns x.shape) t ≡ values_at (extra_columns x.shape) (edge_row (shapes edges) e t)
  extra_is = values_are (extra_columns x.shape) (λ c m. (in_minus x.shape.target (union x.shape.source x.shape.key) c m).0)

  pub note_of_tuple : (values : Values) (n : NotedRow) → place_of values n ≡ (e, values_at x.shape.source t, values_at x.shape.key t) → noted_extra values n ≡ values_at (extra_columns x.shape) t → IsWithin (length values) n
      → IsNoteOf e x (edge_row (shapes edges) e t) values n
  note_of_tuple values n place extra within = record { place = place ∙ (λ i. (e, source_is i, key_is i)); extra = extra ∙ extra_is; within = within }
