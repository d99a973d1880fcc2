-- Notes of changes, by which they are undone, and for how many there is room.
use Rattle.std.specs.Prelude.{◌≡◌, ℕ, ◌-◌, ◌/◌, ◌≤◌, ◌==◌, ◌&&◌, Bool, true, false, cond, List, [], ◌∷◌, Option, None, Some, IsSome, map, min, take, drop}
use Rattle.rc_fragment.specs.Imports.{slice_get, option_and_then, vec_len, vec_capacity, Pairs, Values, values_eq, Counted, HasExtra, present, with_count, EdgeRow}
use Rattle.std.proofs.Common.{Vec, Global}
use Rattle.rc_fragment.specs.Container.{kept_in, now_in}
use Rattle.rc_fragment.specs.Listing.{found_by, listing, shapes, AreStored}
use Rattle.rc_fragment.specs.RowValues.{HasValues, row_from}
use Rattle.rc_fragment.specs.Sources.{IsEmptied, sources_of}
use Rattle.rc_fragment.specs.declared.edge_rows.EdgeRows.{EdgeRows}
use Rattle.rc_fragment.specs.declared.note.Note.{Note}
use Rattle.rc_fragment.specs.declared.note.NotedRow.{NotedRow}
use Rattle.rc_fragment.specs.declared.note.Sweep.{Sweep}
use Rattle.rc_fragment.specs.declared.note.Sweep.TheVariants.{Committed, RolledBack}
use Rattle.rc_fragment.specs.declared.shape.EdgeShape.{EdgeShape}

-- ---- notes

-- the values of the noted row's source, of its key and its extra ones
abbrev pub source_of : Values → NotedRow → Values
source_of values n = take (n.key_start - n.start) (drop n.start values)

abbrev pub key_of : Values → NotedRow → Values
key_of values n = take (n.extra_start - n.key_start) (drop n.key_start values)

abbrev pub noted_extra : Values → NotedRow → Values
noted_extra values n = take (n.end - n.extra_start) (drop n.extra_start values)

-- a place: the number of the edge, the source and the key
abbrev pub Place : Type 0
Place = ℕ × Values × Values

-- the place of a noted row
abbrev pub place_of : Values → NotedRow → Place
place_of values n = (n.edge, source_of values n, key_of values n)

-- the row's values are among the first of the list
pub record IsWithin (len : ℕ) (n : NotedRow) : Type 0 where
  pub source : n.start ≤ n.key_start
  pub key : n.key_start ≤ n.extra_start
  pub extra : n.extra_start ≤ n.end
  pub within : n.end ≤ len

-- for how many further notes there is room
abbrev pub room_in : Vec Note Global → Vec ℕ Global → ℕ
room_in notes values = min (vec_capacity notes - vec_len notes) ((vec_capacity values - vec_len values) / 32)

-- ---- changes undone

-- the noted row, where the edge is one of these shapes
abbrev pub row_noted : Option EdgeShape → Values → NotedRow → Pairs
row_noted None values n = []
row_noted (Some shape) values n = row_from shape (source_of values n) (key_of values n) (noted_extra values n)

-- the changed row with the count that it had before
abbrev pub change_of : List EdgeShape → Values → Note → EdgeRow
change_of table values n = (n.row.edge, row_noted (slice_get table n.row.edge) values n.row, n.count)

abbrev pub changes_of : List EdgeShape → Values → List Note → List EdgeRow
changes_of table values notes = map (change_of table values) notes

-- the rows with this count for the row
abbrev pub set_back : EdgeRow → List EdgeRow → List EdgeRow
set_back w rows = with_count w.0 w.1 w.2 rows

-- the rows once these changes are undone, from the last on: each changed row has the count that it had before
abbrev pub undone : List EdgeRow → List EdgeRow → List EdgeRow
undone [] rows = rows
undone (w ∷ changes) rows = set_back w (undone changes rows)

-- the rows as they were taken
abbrev pub taken_rows : List EdgeRows → List Note → Values → List EdgeRow
taken_rows edges notes values = undone (changes_of (shapes edges) values notes) (listing now_in edges)

-- whether a tombstone may be left of the noted row: after a commit where the change took the row out, and after a rollback where there was no row before
abbrev pub is_swept : Sweep → Note → Bool
is_swept Committed n = n.took_out
is_swept RolledBack n = n.count == 0

-- ---- what is found at a place

abbrev pub now_at_place : List EdgeRows → Place → Option Counted
now_at_place edges place = found_by now_in edges place.0 place.1 place.2

abbrev pub kept_at_place : List EdgeRows → Place → Option Counted
kept_at_place edges place = found_by kept_in edges place.0 place.1 place.2

-- what is found at each place is what was, except at this one
abbrev pub IsSetPlace : (ℕ → Values → Values → Option Counted) → (ℕ → Values → Values → Option Counted) → Place → Option Counted → Type 0
IsSetPlace old new place w = (e : ℕ) (s k : Values) → new e s k ≡ cond (e == place.0 && (values_eq s place.1 && values_eq k place.2)) w (old e s k)

-- the source of an edge has a container that keeps no row
abbrev pub IsEmptiedAt : List EdgeRows → ℕ → Values → Type 0
IsEmptiedAt edges e s = (x : EdgeRows) × (slice_get edges e ≡ Some x) × IsEmptied (sources_of x) s

-- the edges with this kept at the place, where no more containers keep no row
pub record PlaceBecomes (old new : List EdgeRows) (place : Place) (w : Option Counted) : Type 0 where
  pub kept : IsSetPlace (found_by kept_in old) (found_by kept_in new) place w
  pub now : IsSetPlace (found_by now_in old) (found_by now_in new) place (option_and_then present w)
  pub emptied : (e : ℕ) (s : Values) → IsEmptiedAt new e s → IsEmptiedAt old e s
  pub stored : AreStored new
  pub shapes : shapes new ≡ shapes old

-- the values are those of a row of the edge with this number
abbrev pub HasRowValues : List EdgeShape → ℕ → Values → Values → Values → Type 0
HasRowValues table e source key extra = (shape : EdgeShape) → slice_get table e ≡ Some shape → HasValues shape (row_from shape source key extra) source key extra

-- and what is found at source and key, if anything, is the row
pub record IsRowAt (edges : List EdgeRows) (e : ℕ) (source key extra : Values) : Type 0 where
  pub values : HasRowValues (shapes edges) e source key extra
  pub same : HasExtra (found_by now_in edges e source key) extra

-- the noted row was added at its place with the count 1, as no row was there; or one was there, and nothing changed
abbrev pub IsNewPlace : List EdgeRows → List EdgeRows → Place → Values → Bool → Type 0
IsNewPlace old new place extra true = (now_at_place old place ≡ None) × PlaceBecomes old new place (Some (extra, 1))
IsNewPlace old new place extra false = IsSome (now_at_place old place) × PlaceBecomes old new place (kept_at_place old place)
