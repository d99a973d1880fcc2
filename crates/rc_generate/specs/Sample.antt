-- The sample: a directed graph with weights, decomposed by the source of an edge and then by its target.
use Rattle.std.specs.Prelude.{[], ◌∷◌, codes}
use Rattle.rc_generate.specs.Imports.{Num, Hash, Ordered, Singleton, Query, Insert, Remove, Spec}

abbrev pub sample_graph : Spec
sample_graph = record {
  columns = record { name = codes "src"; kind = Num } ∷ record { name = codes "dst"; kind = Num } ∷ record { name = codes "weight"; kind = Num } ∷ [];
  deps = record { left = 0 ∷ 1 ∷ []; right = 2 ∷ [] } ∷ [];
  nodes =
      record { name = codes "root"; cols = [] } ∷ record { name = codes "u"; cols = 0 ∷ [] } ∷ record { name = codes "w"; cols = 0 ∷ 1 ∷ [] }
      ∷ record { name = codes "z"; cols = 0 ∷ 1 ∷ 2 ∷ [] } ∷ [];
  edges =
      record { name = codes "e1"; from = 0; to = 1; kind = Hash; key = 0 ∷ [] }
      ∷ record { name = codes "e2"; from = 1; to = 2; kind = Ordered; key = 1 ∷ [] }
      ∷ record { name = codes "e3"; from = 2; to = 3; kind = Singleton; key = 2 ∷ [] } ∷ [];
  classes = record { name = codes "k1"; stripes = 8; cols = 0 ∷ [] } ∷ record { name = codes "k2"; stripes = 4; cols = 0 ∷ [] } ∷ [];
  places = record { edge = 0; class = 0 } ∷ record { edge = 1; class = 1 } ∷ record { edge = 2; class = 1 } ∷ [];
  ops =
      record { name = codes "ins"; pattern = 0 ∷ 1 ∷ []; kind = Insert }
      ∷ record { name = codes "del"; pattern = 0 ∷ 1 ∷ []; kind = Remove }
      ∷ record { name = codes "succ"; pattern = 0 ∷ []; kind = Query (1 ∷ 2 ∷ []) [] }
      ∷ record { name = codes "find"; pattern = 0 ∷ 1 ∷ []; kind = Query (2 ∷ []) [] } ∷ [];
  most_rows = 256;
}
