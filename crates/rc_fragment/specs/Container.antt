-- What a container of one of the four kinds keeps.
use Rattle.rc_fragment.specs.Imports.{Bool, false, Values, Rows, HasNoOther, HasWidth, current, has_one_column, rows_of, EdgeKind}
use Rattle.rc_spec.specs.declared.items.EdgeKind.TheVariants as kind
use Rattle.rc_fragment.specs.declared.container.Container.{Container}
use Rattle.rc_fragment.specs.declared.container.Container.TheVariants as container

-- the rows that are kept, by their keys, with the tombstones
abbrev pub kept_in : Container → Rows
kept_in (container.Hash map) = map.value.rows
kept_in (container.Ordered map) = rows_of map
kept_in (container.List map) = map
kept_in (container.Singleton map) = map

-- the rows that are there
abbrev pub now_in : Container → Rows
now_in c = current (kept_in c)

-- the kind of a container, and whether it takes only keys of one column
abbrev pub Form : Type 0
Form = EdgeKind × Bool

abbrev pub form_in : Container → Form
form_in (container.Hash map) = (kind.Hash, map.value.one_column)
form_in (container.Ordered map) = (kind.Ordered, has_one_column map)
form_in (container.List map) = (kind.List, false)
form_in (container.Singleton map) = (kind.Singleton, false)

-- whether a container of the kind takes only keys of one column, where those of its edge are
abbrev pub takes_one : EdgeKind → Bool → Bool
takes_one kind.Hash one = one
takes_one kind.Ordered one = one
takes_one kind.List one = false
takes_one kind.Singleton one = false

-- whether it takes a row at the key: one of its width, and a singleton only where no other key is there
abbrev pub takes : Container → Values → Type 0
takes (container.Hash map) key = HasWidth map.value.one_column key
takes (container.Ordered map) key = HasWidth (has_one_column map) key
takes (container.List map) key = Unit {0}
takes (container.Singleton map) key = HasNoOther map key
