-- What the definitions compute at a worked row: a graph's edges src -> dst, each with one weight.
use Rattle.std.specs.Prelude.{◌≡◌, ℕ, List, [], ◌∷◌}
use Rattle.rc_spec.proofs.Imports.{refl, Pairs, Num, Hash, Ordered, Singleton, Spec, content, contents, represented, edge_at, all_rows, fragment_of, represented_by}
use Rattle.rc_spec.specs.Stripes.{mix}

-- The columns src, dst and weight; the nodes root, u, w and z; the edges e1 from root to u, e2 from u to w and e3 from w to z; and one class of 8 stripes, chosen by src, with all edges. Names play no part here.
abbrev graph : Spec
graph = record {
  columns = record { name = []; kind = Num } ∷ record { name = []; kind = Num } ∷ record { name = []; kind = Num } ∷ [];
  deps = record { left = 0 ∷ 1 ∷ []; right = 2 ∷ [] } ∷ [];
  nodes = record { name = []; cols = [] } ∷ record { name = []; cols = 0 ∷ [] } ∷ record { name = []; cols = 0 ∷ 1 ∷ [] } ∷ record { name = []; cols = 0 ∷ 1 ∷ 2 ∷ [] } ∷ [];
  edges =
      record { name = []; from = 0; to = 1; kind = Hash; key = 0 ∷ [] }
      ∷ record { name = []; from = 1; to = 2; kind = Ordered; key = 1 ∷ [] }
      ∷ record { name = []; from = 2; to = 3; kind = Singleton; key = 2 ∷ [] } ∷ [];
  classes = record { name = []; stripes = 8; cols = 0 ∷ [] } ∷ [];
  places = record { edge = 0; class = 0 } ∷ record { edge = 1; class = 0 } ∷ record { edge = 2; class = 0 } ∷ [];
  ops = [];
  most_rows = 256;
}

abbrev src_dst : ℕ → ℕ → Pairs
src_dst x y = (0, x) ∷ (1, y) ∷ []

abbrev src_dst_weight : ℕ → ℕ → ℕ → Pairs
src_dst_weight x y z = (0, x) ∷ (1, y) ∷ (2, z) ∷ []

abbrev two_edges : List Pairs
two_edges = src_dst_weight 1 2 10 ∷ src_dst_weight 1 3 7 ∷ []

content_of_e1 : content graph two_edges (edge_at graph 0) ≡ ((0, 1) ∷ [], 2) ∷ []
content_of_e1 = refl

content_of_e2 : content graph two_edges (edge_at graph 1) ≡ (src_dst 1 2, 1) ∷ (src_dst 1 3, 1) ∷ []
content_of_e2 = refl

content_of_e3 : content graph two_edges (edge_at graph 2) ≡ (src_dst_weight 1 2 10, 1) ∷ (src_dst_weight 1 3 7, 1) ∷ []
content_of_e3 = refl

contents_represent : represented (contents graph two_edges) ≡ two_edges
contents_represent = refl

-- src 1 falls on stripe 2
rows_on_stripe_2 : fragment_of graph two_edges 2
    ≡ (0, (0, 1) ∷ [], 2)
    ∷ (1, src_dst 1 2, 1) ∷ (1, src_dst 1 3, 1)
    ∷ (2, src_dst_weight 1 2 10, 1) ∷ (2, src_dst_weight 1 3 7, 1) ∷ []
unfolding mix
rows_on_stripe_2 = refl

rows_on_stripe_3 : fragment_of graph two_edges 3 ≡ []
unfolding mix
rows_on_stripe_3 = refl

rows_represent : represented_by graph (all_rows graph two_edges) ≡ two_edges
rows_represent = refl

-- a relation with no tuple is represented by contents with no row
none_represent : represented (contents graph []) ≡ []
none_represent = refl
