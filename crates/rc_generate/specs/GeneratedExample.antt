-- What the definitions compute from the seed 7, at four calls and at a hundred.
use Rattle.std.specs.Prelude.{◌≡◌, [], ◌∷◌, codes}
use Rattle.std.proofs.Common.{refl}
use Rattle.rc_work.specs.Report.{count_line}
use Rattle.rc_generate.specs.Summary.{one_thread_summary}
use Rattle.rc_generate.specs.Sample.{sample_graph}
use Rattle.rc_generate.specs.Generated.{insert_call, query_call, generated_turns, generated_calls}
use Rattle.rc_generate.specs.SummaryText.{summary_lines}

four_turns : generated_turns 7 4
    ≡ record { thread = 0; calls = query_call 48 ∷ [] } ∷ record { thread = 1; calls = insert_call 25 9 807 ∷ [] }
    ∷ record { thread = 2; calls = insert_call 42 14 552 ∷ [] } ∷ record { thread = 3; calls = query_call 35 ∷ [] } ∷ []
four_turns = refl

four_counts : one_thread_summary sample_graph (generated_calls 7 4)
    ≡ record { calls = 4; inserted = 2; present = 0; conflict = 0; removed = 0; absent = 0; queries = 2; rows = 0; many = 0; tuples = 2 }
four_counts = refl

-- calls of every kind, and of which some find what others added; the counts are of a program in another language
hundred_counts : one_thread_summary sample_graph (generated_calls 7 100)
    ≡ record { calls = 100; inserted = 48; present = 1; conflict = 0; removed = 1; absent = 25; queries = 25; rows = 9; many = 0; tuples = 47 }
hundred_counts = refl

four_lines : summary_lines (one_thread_summary sample_graph (generated_calls 7 4))
    ≡ count_line (codes "calls") 4 ∷ count_line (codes "inserted") 2 ∷ count_line (codes "present") 0 ∷ count_line (codes "conflict") 0 ∷ count_line (codes "removed") 0
    ∷ count_line (codes "absent") 0 ∷ count_line (codes "queries") 2 ∷ count_line (codes "rows") 0 ∷ count_line (codes "many") 0 ∷ count_line (codes "final") 2
    ∷ codes "end" ∷ []
four_lines = refl
