-- Edges that are placed on one class where several have the same columns: any class whose columns choose the stripe of an
-- edge's rows can guard it. (PLDI 2012, lock placement.)
use Rattle.std.specs.Prelude.{ℕ, ◌==◌, ◌&&◌, ◌||◌, Bool, List, if◌then◌else◌, get_or, length, map, nat_le, not}
use Rattle.rc_inline.specs.Imports.{list_all, position, range_with_len, option_map_or, is_within, Class, Place, Spec, edge_at, class_of, no_class}
use Rattle.rc_inline.specs.Inlining.{inlined}

-- the class has these columns
abbrev pub is_over : List ℕ → Class → Bool
is_over cols class = is_within class.cols cols && is_within cols class.cols

-- the other class, if it has these columns, has no more stripes
abbrev pub is_no_wider : List ℕ → Class → Class → Bool
is_no_wider cols class other = not (is_over cols other) || nat_le other.stripes class.stripes

-- the class has these columns, and as many stripes as any that has them
abbrev pub is_widest : List Class → List ℕ → Class → Bool
is_widest classes cols class = is_over cols class && list_all (is_no_wider cols class) classes

-- of the classes with the columns of this one, that with the most stripes, of several the first
abbrev pub widest : List Class → ℕ → ℕ
widest classes c = option_map_or (λ k. k) (position (is_widest classes (get_or classes c no_class).cols) classes) c

abbrev pub moved : List Class → Place → Place
moved classes place = record place { class = widest classes place.class }

-- the specification with each edge on the widest class over its class's columns
abbrev pub co_placed : Spec → Spec
co_placed spec = record spec { places = map (moved spec.classes) spec.places }

-- where the edge e ends at the source of f, its class isn't after that of f
abbrev pub is_in_order : Spec → ℕ → ℕ → Bool
is_in_order spec f e = not ((edge_at spec e).to == (edge_at spec f).from) || nat_le (class_of spec e) (class_of spec f)

-- the classes of all edges follow one another as their edges do: the test of P3 at all of them
abbrev pub is_ordered : Spec → Bool
is_ordered spec =
    let edges = range_with_len 0 (length spec.edges) in
    list_all (λ f. list_all (is_in_order spec f) edges) edges

-- the specification with its edges moved, where they then follow one another; else as it is
unfoldable pub placed_together : Spec → Spec
placed_together spec = if is_ordered (co_placed spec) then co_placed spec else spec

-- what an embedded store makes of a specification: its singletons are inlined, and its edges are placed together
unfoldable pub embedded : Spec → Spec
embedded spec = placed_together (inlined spec)
