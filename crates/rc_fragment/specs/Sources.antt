-- The rows of one edge, kept by the values of their source and then by those of their key.
use Rattle.std.specs.Prelude.{◌≡◌, ◌<◌, ◌++◌, Bool, true, false, List, cond, ◌&&◌, ◌==◌, [], Option, None, Some, IsSome, filter, length, map, nat_lt}
use Rattle.rc_fragment.specs.Imports.{flat_map, option_map, FinMap, In, IsRising, Pairs, Values, values_cmp, values_eq, Counted, Rows, listed, Keyed, Singleton}
use Rattle.std.specs.FinMap as fin
use Rattle.rc_fragment.specs.Container.{Form, kept_in, now_in, form_in, takes_one}
use Rattle.rc_fragment.specs.RowValues.{row_from}
use Rattle.rc_fragment.specs.SourceTable.{containers_of, width_for, width_of}
use Rattle.rc_fragment.specs.declared.container.Container.{Container}
use Rattle.rc_fragment.specs.declared.edge_rows.EdgeRows.{EdgeRows}
use Rattle.rc_fragment.specs.declared.shape.EdgeShape.{EdgeShape}

-- the containers by the values of their sources
abbrev pub Sources : Type 0
Sources = FinMap values_cmp Container

abbrev pub sources_of : EdgeRows → Sources
sources_of rows = containers_of rows.sources

-- what is found at a key of a source's container, if the source has one
abbrev pub found_in : (Container → Rows) → Option Container → Values → Option Counted
found_in part None key = None
found_in part (Some c) key = fin.get (part c) key

-- the extra values and the count at a source and a key, of the rows that are kept or of those that are there
abbrev pub found_at : (Container → Rows) → Sources → Values → Values → Option Counted
found_at part sources source key = found_in part (fin.get sources source) key

abbrev pub now_at : EdgeRows → Values → Values → Option Counted
now_at rows source key = found_at now_in (sources_of rows) source key

abbrev pub kept_at : EdgeRows → Values → Values → Option Counted
kept_at rows source key = found_at kept_in (sources_of rows) source key

-- the form of an edge's containers
abbrev pub form_of : EdgeShape → Form
form_of shape = (shape.kind, takes_one shape.kind (length shape.key == 1))

-- each container is of this form
abbrev pub HaveForm : Form → Sources → Type 0
HaveForm form sources = (source : Values) (c : Container) → fin.get sources source ≡ Some c → form_in c ≡ form

-- the containers are of the edge's form, and their table of its source's width
pub record AreOfShape (rows : EdgeRows) : Type 0 where
  pub forms : HaveForm (form_of rows.shape) (sources_of rows)
  pub width : width_of rows.sources ≡ width_for (length rows.shape.source)

-- the source has a container that keeps no row
abbrev pub IsEmptied : Sources → Values → Type 0
IsEmptied sources source = (c : Container) × (fin.get sources source ≡ Some c) × (kept_in c ≡ fin.empty)

-- what is found at each source and key is what was, except at this one
abbrev pub IsSetAt : (Values → Values → Option Counted) → (Values → Values → Option Counted) → Values → Values → Option Counted → Type 0
IsSetAt old new source key w = (s k : Values) → new s k ≡ cond (values_eq s source && values_eq k key) w (old s k)

-- the edge's rows with this kept at the source and the key, where no more containers keep no row
pub record Becomes (old new : EdgeRows) (source key : Values) (w : Option Counted) : Type 0 where
  pub kept : IsSetAt (kept_at old) (kept_at new) source key w
  pub emptied : (s : Values) → IsEmptied (sources_of new) s → IsEmptied (sources_of old) s
  pub forms : AreOfShape new
  pub shape : new.shape ≡ old.shape

-- in a singleton no other key of the source has a row
abbrev pub IsSingle : EdgeRows → Values → Values → Type 0
IsSingle rows source key = rows.shape.kind ≡ Singleton → (k : Values) → IsSome (now_at rows source k) → k ≡ key

-- the keys and extra values of a source's rows, rising by the keys
abbrev pub listed_in : Option Container → Values
listed_in None = []
listed_in (Some c) = listed (kept_in c)

-- the row is kept, by its values, at some source and key
abbrev pub IsStoredRow : EdgeRows → Pairs → Type 0
IsStoredRow rows t = (source : Values) × (key : Values) × (c : Counted) × (now_at rows source key ≡ Some c) × (t ≡ row_from rows.shape source key c.0)

-- source and key have as many values as the edge's have columns
pub record AreOfWidth (shape : EdgeShape) (source key : Values) : Type 0 where
  pub source_width : length source ≡ length shape.source
  pub key_width : length key ≡ length shape.key

-- two edges' rows that are the same, where no more containers keep no row
pub record AreSame (old new : EdgeRows) : Type 0 where
  pub kept : (s k : Values) → kept_at new s k ≡ kept_at old s k
  pub emptied : (s : Values) → IsEmptied (sources_of new) s → IsEmptied (sources_of old) s
  pub forms : AreOfShape new
  pub shape : new.shape ≡ old.shape

-- the row with these extra values was added at the source and the key with the count 1, as no row was there; or one was there, and nothing changed
abbrev pub IsNewAt : EdgeRows → EdgeRows → Values → Values → Values → Bool → Type 0
IsNewAt old new source key extra true = (now_at old source key ≡ None) × Becomes old new source key (Some (extra, 1))
IsNewAt old new source key extra false = IsSome (now_at old source key) × AreSame old new

-- all that is seen of a container
abbrev pub SeenContainer : Type 0
SeenContainer = Rows × Form

abbrev pub seen_container : Container → SeenContainer
seen_container c = (kept_in c, form_in c)

-- two maps of containers that answer alike, by what is seen of them
abbrev pub AreSeenAlike : Sources → Sources → Type 0
AreSeenAlike old new = (s : Values) → option_map seen_container (fin.get new s) ≡ option_map seen_container (fin.get old s)

-- no tombstone is kept, and no container without an entry
pub record IsClean (rows : EdgeRows) : Type 0 where
  pub counts : (source key : Values) (c : Counted) → kept_at rows source key ≡ Some c → 0 < c.1
  pub emptied : (source : Values) → IsEmptied (sources_of rows) source → ⊥

-- the source has a row
abbrev pub HasRowAt : EdgeRows → Values → Type 0
HasRowAt rows source = (key : Values) × IsSome (now_at rows source key)

-- whether a source's container is taken to have a row: it has one, or no tombstone is kept
abbrev pub is_shown : Bool → Keyed Container → Bool
is_shown tombstones k = cond tombstones (nat_lt 0 (fin.len (now_in k.value.now))) true

-- the sources of the containers that are taken to have a row
abbrev pub shown_sources : Bool → List (Keyed Container) → List Values
shown_sources tombstones all = map (λ k. k.key.now) (filter (is_shown tombstones) all)

-- the list has the values of each source that has a row, rising, at its end
pub record HasPushed (rows : EdgeRows) (old new : Values) : Type 0 where
  pub sources : List Values
  pub pushed : new ≡ old ++ flat_map (λ s. s) sources
  pub rising : IsRising values_cmp sources
  pub only : (s : Values) → In s sources → HasRowAt rows s
  pub each : (s : Values) → HasRowAt rows s → In s sources
