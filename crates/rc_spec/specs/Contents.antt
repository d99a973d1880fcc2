-- The contents of a decomposition's edges, and the relation that contents represent: the join of their rows. (PLDI 2011, decompositions and adequacy.)
use Rattle.std.specs.Prelude.{ℕ, List, [], ◌∷◌, map, length}
use Rattle.rc_spec.specs.Imports.{filter, flat_map, gather, Pairs, project, agrees, merge, tuple_cmp, tuple_eq}
use Rattle.rc_spec.specs.declared.items.Edge.{Edge}
use Rattle.rc_spec.specs.declared.spec.Spec.{Spec}
use Rattle.rc_spec.specs.Decomposition.{bound}

-- ---- contents

-- the distinct projections of the tuples on the columns, rising
abbrev pub projections : List ℕ → List Pairs → List Pairs
projections xs r = gather tuple_cmp (map (project xs) r)

-- how many of the tuples project onto the row
abbrev pub how_many : List ℕ → List Pairs → Pairs → ℕ
how_many xs r row = length (filter (λ t. tuple_eq (project xs t) row) r)

-- a row of a content: a tuple, and its count
abbrev pub CountedTuple : Type 0
CountedTuple = Pairs × ℕ

-- the content of an edge: the distinct projections on the columns of its target, rising, each with the number of tuples that project onto it
abbrev pub content : Spec → List Pairs → Edge → List CountedTuple
content spec r e = map (λ row. (row, how_many (bound spec e.to) r row)) (projections (bound spec e.to) r)

-- the content of each edge, in written order
abbrev pub contents : Spec → List Pairs → List (List CountedTuple)
contents spec r = map (content spec r) spec.edges

-- ---- what they represent

-- the natural join: the merges of each pair that agrees, rising, without repeats
abbrev pub join : List Pairs → List Pairs → List Pairs
join ts us = gather tuple_cmp (flat_map (λ t. map (merge t) (filter (agrees t) us)) ts)

-- the join with each of the lists, one after the other
abbrev pub join_all : List Pairs → List (List Pairs) → List Pairs
join_all ts [] = ts
join_all ts (us ∷ rest) = join_all (join ts us) rest

-- the tuples of a content
abbrev pub tuples_in : List CountedTuple → List Pairs
tuples_in rows = map (λ row. row.0) rows

-- the join of the tuples of all contents, begun with the one empty tuple
abbrev pub represented : List (List CountedTuple) → List Pairs
represented cs = join_all ([] ∷ []) (map tuples_in cs)
