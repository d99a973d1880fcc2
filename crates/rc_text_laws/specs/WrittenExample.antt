-- The lines of one specification, as they are written.
use Rattle.std.specs.Prelude.{◌≡◌, ℕ, [], ◌∷◌, List, drop, decimal, codes}
use Rattle.std.proofs.Common.{refl}
use Rattle.rc_text_laws.specs.Imports.{Num, Text, Hash, Singleton, Query, Insert, Remove, Update, Spec, One, Two}
use Rattle.rc_text_laws.specs.Written.{line_of, spec_lines}

abbrev pub people : Spec
people = record {
  columns = record { name = codes "id"; kind = Num } ∷ record { name = codes "name"; kind = Text } ∷ [];
  deps = record { left = 0 ∷ []; right = 1 ∷ [] } ∷ [];
  nodes =
      record { name = codes "root"; cols = [] } ∷ record { name = codes "one"; cols = 0 ∷ [] }
      ∷ record { name = codes "all"; cols = 0 ∷ 1 ∷ [] } ∷ [];
  edges =
      record { name = codes "find"; from = 0; to = 1; kind = Hash; key = 0 ∷ [] }
      ∷ record { name = codes "rest"; from = 1; to = 2; kind = Singleton; key = 1 ∷ [] } ∷ [];
  classes = record { name = codes "locks"; stripes = 16; cols = 0 ∷ [] } ∷ [];
  places = record { edge = 0; class = 0 } ∷ record { edge = 1; class = 0 } ∷ [];
  ops =
      record { name = codes "add"; pattern = 0 ∷ []; kind = Insert }
      ∷ record { name = codes "drop"; pattern = 0 ∷ []; kind = Remove }
      ∷ record { name = codes "who"; pattern = 1 ∷ []; kind = Query (0 ∷ []) [] } ∷ [];
  most_rows = 256;
}

pub people_lines : spec_lines One people
    ≡ codes "relc 1" ∷ codes "col id num" ∷ codes "col name text" ∷ codes "fd id -> name"
    ∷ codes "node root" ∷ codes "node one id"
    ∷ codes "node all id name" ∷ codes "edge find root one hash id" ∷ codes "edge rest one all singleton name"
    ∷ line_of (codes "lock" ∷ codes "locks" ∷ decimal 16 ∷ codes "id" ∷ []) ∷ codes "place find locks"
    ∷ codes "place rest locks" ∷ codes "op add insert id"
    ∷ codes "op drop remove id" ∷ codes "op who query name -> id" ∷ codes "end" ∷ []
people_lines = refl

-- with an update, and with a range in a query
abbrev pub renamed : Spec
renamed = record people {
  ops =
      record { name = codes "name"; pattern = 0 ∷ []; kind = Update }
      ∷ record { name = codes "from"; pattern = []; kind = Query (1 ∷ []) (0 ∷ []) } ∷ [];
}

-- their lines stand behind the other twelve
abbrev operation_lines : List (List ℕ) → List (List ℕ)
operation_lines lines = drop 12 lines

pub renamed_lines : operation_lines (spec_lines Two renamed)
    ≡ codes "op name update id" ∷ codes "op from query : id -> name" ∷ codes "end" ∷ []
renamed_lines = refl
