-- The text of a summary: a line for each count, and `end`.
use Rattle.std.specs.Prelude.{ℕ, List, [], ◌∷◌, codes}
use Rattle.rc_generate.specs.Imports.{printed_lines, count_line}
use Rattle.rc_generate.specs.declared.summary.Summary.{Summary}

abbrev pub summary_lines : Summary → List (List ℕ)
summary_lines s =
    count_line (codes "calls") s.calls ∷ count_line (codes "inserted") s.inserted ∷ count_line (codes "present") s.present ∷ count_line (codes "conflict") s.conflict
    ∷ count_line (codes "removed") s.removed ∷ count_line (codes "absent") s.absent ∷ count_line (codes "queries") s.queries ∷ count_line (codes "rows") s.rows
    ∷ count_line (codes "many") s.many ∷ count_line (codes "final") s.tuples ∷ codes "end" ∷ []

abbrev pub summary_text : Summary → List ℕ
summary_text s = printed_lines (summary_lines s)
