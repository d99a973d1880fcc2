-- What a fragment's calls promise.
use Rattle.std.specs.Prelude.{◌≡◌, ℕ, ◌<◌, ◌≤◌, ◌==◌, ◌&&◌, ◌++◌, Bool, true, false, cond, not, List, [], ◌∷◌, Option, None, Some, IsSome, length, map}
use Rattle.rc_fragment.specs.Imports.{find, flat_map, slice_get, option_map_or, In, IsRising, Pairs, cols_of, project, Values, values_cmp, values_eq, Counted, AreCountedRows, bound, edge_at, EdgeRow, edge_numbers, class_of, Edge, EdgeKind, Hash, Ordered, Singleton, Spec}
use Rattle.rc_spec.specs.declared.items.EdgeKind.TheVariants.{List as ListKind}
use Rattle.rc_fragment.specs.Container.{now_in}
use Rattle.rc_fragment.specs.FragmentRows.{FragmentRows}
use Rattle.rc_fragment.specs.Listing.{AreStored, listing, shapes}
use Rattle.rc_fragment.specs.Notes.{HasRowValues, IsEmptiedAt, IsWithin, Place, changes_of, is_swept, kept_at_place, key_of, noted_extra, place_of, room_in, source_of, taken_rows, undone}
use Rattle.rc_fragment.specs.RowValues.{extra_columns, values_at}
use Rattle.rc_fragment.specs.declared.edge_rows.EdgeRows.{EdgeRows}
use Rattle.rc_fragment.specs.declared.stored.Stored.TheInside.{Inside}
use Rattle.rc_fragment.specs.declared.stored.Parts.{Parts}
use Rattle.rc_fragment.specs.declared.note.Note.{Note}
use Rattle.rc_fragment.specs.declared.note.NotedRow.{NotedRow}
use Rattle.rc_fragment.specs.declared.note.Sweep.{Sweep}
use Rattle.rc_fragment.specs.declared.note.Sweep.TheVariants.{Committed}
use Rattle.rc_fragment.specs.declared.shape.EdgeShape.{EdgeShape}

abbrev pub is_hash : EdgeKind → Bool
is_hash Hash = true
is_hash Ordered = false
is_hash ListKind = false
is_hash Singleton = false

-- the edge, of kind hash, leads from a node without columns, and its key has all columns of its target, of which there are some
abbrev pub may_be_implied : Spec → Edge → Bool
may_be_implied spec e = values_eq (bound spec e.from) [] && (values_eq e.key (bound spec e.to) && (not (values_eq e.key []) && is_hash e.kind))

-- of an edge and one below it: they are of one class, and the columns of the lower one's source are those of the upper one's target
abbrev pub is_below : Spec → ℕ → ℕ → Bool
is_below spec upper lower = class_of spec lower == class_of spec upper && values_eq (bound spec (edge_at spec lower).from) (bound spec (edge_at spec upper).to)

-- The edge whose rows tell those of this one, if there is one: the first below it. Each row of this one is the source of some of its rows, and no other is; so it is with any other edge below it, which would do as well.
abbrev pub lower_of : Spec → ℕ → Option ℕ
lower_of spec n = cond (may_be_implied spec (edge_at spec n)) (find (is_below spec n) (edge_numbers spec)) None

-- the shape of the edge with this number
abbrev pub shape_of : Spec → ℕ → EdgeShape
shape_of spec n = record {
  source = bound spec (edge_at spec n).from;
  key = (edge_at spec n).key;
  target = bound spec (edge_at spec n).to;
  kind = (edge_at spec n).kind;
  class = class_of spec n;
  lower = lower_of spec n;
}

-- the edge table of a specification
abbrev pub edge_table : Spec → List EdgeShape
edge_table spec = map (shape_of spec) (edge_numbers spec)

-- the table has the shape at the number of the edge
abbrev pub HasShape : List EdgeShape → ℕ → EdgeShape → Type 0
HasShape table e shape = slice_get table e ≡ Some shape

-- the columns of the target of the edge with this number
abbrev pub target_at : List EdgeShape → ℕ → List ℕ
target_at table e = option_map_or (λ (shape : EdgeShape). shape.target) (slice_get table e) []

-- a tuple's row of the edge: its projection on the columns of the edge's target
abbrev pub edge_row : List EdgeShape → ℕ → Pairs → Pairs
edge_row table e t = project (target_at table e) t

-- the row has the columns of its edge's target
abbrev pub HasColumns : List EdgeShape → ℕ → Pairs → Type 0
HasColumns table e t = (shape : EdgeShape) → HasShape table e shape → cols_of t ≡ shape.target

-- the rows are counted, each is of an edge of the table, and each has its edge's columns
pub record AreRowsOf (table : List EdgeShape) (rows : List EdgeRow) : Type 0 where
  pub counted : AreCountedRows rows
  pub known : (w : EdgeRow) → In w rows → w.0 < length table
  pub columns : (w : EdgeRow) → In w rows → HasColumns table w.0 w.1

-- the edge has the row, with some count
abbrev pub IsThere : List EdgeRow → ℕ → Pairs → Type 0
IsThere rows e t = (n : ℕ) × In {A = EdgeRow} (e, t, n) rows

-- no other row of the edge has the row's source and key
abbrev pub HasAlone : List EdgeShape → List EdgeRow → ℕ → Pairs → Type 0
HasAlone table rows e t = (shape : EdgeShape) → HasShape table e shape → (u : Pairs) → IsThere rows e u
    → project shape.source u ≡ project shape.source t → project shape.key u ≡ project shape.key t → u ≡ t

-- in a singleton no row with the row's source has another key
abbrev pub HasSingle : List EdgeShape → List EdgeRow → ℕ → Pairs → Type 0
HasSingle table rows e t = (shape : EdgeShape) → HasShape table e shape → shape.kind ≡ Singleton → (u : Pairs) → IsThere rows e u
    → project shape.source u ≡ project shape.source t → project shape.key u ≡ project shape.key t

-- ---- changes that can be undone

-- each changed row, when its change is undone, is the only one with its source and key
abbrev pub AreAlone : List EdgeShape → List EdgeRow → List EdgeRow → Type 0
AreAlone table [] rows = Unit {0}
AreAlone table (w ∷ changes) rows = HasAlone table (undone changes rows) w.0 w.1 × AreAlone table changes rows

-- ---- a fragment's parts

-- the noted row is of one of the edges, its values are among those of the list and are those of a row, and a row or a tombstone is kept at its place
pub record IsNoted (edges : List EdgeRows) (values : Values) (n : NotedRow) : Type 0 where
  pub edge : n.edge < length edges
  pub within : IsWithin (length values) n
  pub row : HasRowValues (shapes edges) n.edge (source_of values n) (key_of values n) (noted_extra values n)
  pub kept : IsSome (kept_at_place edges (place_of values n))

abbrev pub AreNoted : List EdgeRows → Values → List Note → Type 0
AreNoted edges values notes = (n : Note) → In n notes → IsNoted edges values n.row

-- one of the notes is of the place, and one of those of which a tombstone may be left
abbrev pub IsSweptBy : Sweep → Values → List Note → Place → Type 0
IsSweptBy after values notes place = (n : Note) × In n notes × (is_swept after n ≡ true) × (place_of values n.row ≡ place)

-- each tombstone is noted so
abbrev pub AreTombstonesNoted : Sweep → List EdgeRows → Values → List Note → Type 0
AreTombstonesNoted after edges values notes = (place : Place) (c : Counted) → kept_at_place edges place ≡ Some c → c.1 ≡ 0 → IsSweptBy after values notes place

-- no container is without an entry
abbrev pub NoneIsEmptied : List EdgeRows → Type 0
NoneIsEmptied edges = (e : ℕ) (s : Values) → IsEmptiedAt edges e s → ⊥

-- what a fragment's parts keep: each row in its own place, changes noted that can be undone, each tombstone noted, and no container without an entry
pub record IsFragment (edges : List EdgeRows) (notes : List Note) (values : Values) : Type 0 where
  pub stored : AreStored edges
  pub noted : AreNoted edges values notes
  pub alone : AreAlone (shapes edges) (changes_of (shapes edges) values notes) (listing now_in edges)
  pub tombstones : AreTombstonesNoted Committed edges values notes
  pub emptied : NoneIsEmptied edges

-- what is seen of a fragment with these parts
abbrev pub seen_parts : Parts → FragmentRows
seen_parts p = record {
  table = shapes p.edges.items;
  now = listing now_in p.edges.items;
  taken = taken_rows p.edges.items p.notes.items p.noted.items;
  room = p.room;
  changes = length p.notes.items;
}

-- what is seen of a fragment
abbrev pub seen : Inside → FragmentRows
seen a = seen_parts a.parts.value

-- what a fragment keeps: its parts, no value where there is no note, and room for what is promised
pub record AreWhole (p : Parts) : Type 0 where
  pub fragment : IsFragment p.edges.items p.notes.items p.noted.items
  pub unnoted : p.notes.items ≡ [] → p.noted.items ≡ []
  pub room : p.room ≤ room_in p.notes p.noted

abbrev pub IsWhole : Inside → Type 0
IsWhole a = AreWhole a.parts.value

-- ---- what is asked of a fragment

-- these are the rows of the edge, each at least once
pub record AreAllRows (rows : List EdgeRow) (e : ℕ) (ts : List Pairs) : Type 0 where
  pub only : (t : Pairs) → In t ts → IsThere rows e t
  pub each : (t : Pairs) → IsThere rows e t → In t ts

-- the row is there, with these values at the columns of source and key
pub record IsThereWith (shape : EdgeShape) (rows : List EdgeRow) (e : ℕ) (source key : Values) (t : Pairs) : Type 0 where
  pub there : IsThere rows e t
  pub source_is : values_at shape.source t ≡ source
  pub key_is : values_at shape.key t ≡ key

-- what a look-up by the values of source and key answers: the extra values of the one row of the edge that has them, and none only where the edge has none
abbrev pub IsLookedUp : EdgeShape → List EdgeRow → ℕ → Values → Values → Option Values → Type 0
IsLookedUp shape rows e source key None = (u : Pairs) → IsThereWith shape rows e source key u → ⊥
IsLookedUp shape rows e source key (Some extra) =
    (t : Pairs) × IsThereWith shape rows e source key t × (values_at (extra_columns shape) t ≡ extra) × ((u : Pairs) → IsThereWith shape rows e source key u → u ≡ t)

-- the same, by those of a tuple
abbrev pub IsLookedUpBy : List EdgeShape → List EdgeRow → ℕ → Pairs → Option Values → Type 0
IsLookedUpBy table rows e t found = (shape : EdgeShape) → HasShape table e shape → IsLookedUp shape rows e (values_at shape.source t) (values_at shape.key t) found

-- no row of the edge has the tuple's values of source and key
abbrev pub HasNoRowOf : List EdgeShape → List EdgeRow → ℕ → Pairs → Type 0
HasNoRowOf table rows e t = IsLookedUpBy table rows e t None

-- one has them
abbrev pub HasRowOf : List EdgeShape → List EdgeRow → ℕ → Pairs → Type 0
HasRowOf table rows e t = (extra : Values) × IsLookedUpBy table rows e t (Some extra)

-- the one row of the edge with the values of source and key, and none only where the edge has none
abbrev pub IsFoundAt : EdgeShape → List EdgeRow → ℕ → Values → Values → Option Pairs → Type 0
IsFoundAt shape rows e source key None = (u : Pairs) → IsThereWith shape rows e source key u → ⊥
IsFoundAt shape rows e source key (Some t) = IsThereWith shape rows e source key t × ((u : Pairs) → IsThereWith shape rows e source key u → u ≡ t)

-- the edge's rows that have the source, rising by their keys
pub record IsScan (shape : EdgeShape) (rows : List EdgeRow) (e : ℕ) (source : Values) (ts : List Pairs) : Type 0 where
  pub rising : IsRising (λ t u. values_cmp (values_at shape.key t) (values_at shape.key u)) ts
  pub only : (t : Pairs) → In t ts → IsThere rows e t × (values_at shape.source t ≡ source)
  pub each : (t : Pairs) → IsThere rows e t → values_at shape.source t ≡ source → In t ts

-- a row's values at the key's columns, and then those at the extra ones
abbrev pub key_and_extra : EdgeShape → Pairs → Values
key_and_extra shape t = values_at shape.key t ++ values_at (extra_columns shape) t

-- the list has the keys and extra values of what a scan answers at its end
abbrev pub HasScanned : EdgeShape → List EdgeRow → ℕ → Values → Values → Values → Type 0
HasScanned shape rows e source old new = (ts : List Pairs) × (new ≡ old ++ flat_map (key_and_extra shape) ts) × IsScan shape rows e source ts
