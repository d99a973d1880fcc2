-- The report of a run: its lines, and the text that they make.
use Rattle.std.specs.Prelude.{ℕ, nat_le, if◌then◌else◌, List, [], ◌∷◌, ◌++◌, length, map, decimal, codes}
use Rattle.rc_work.specs.Imports.{flat_map, enumerate_from, Pairs, Spec, Step, Entry}
use Rattle.rc_work.specs.Printed.{words_text, row_text, step_words}

-- PLACE THREAD OP VALUES -> REPLY
abbrev pub step_line : Spec → List (List ℕ) → ℕ → ℕ → Step → List ℕ
step_line spec texts place thread step = words_text (decimal place ∷ decimal thread ∷ step_words spec texts step)

-- PLACE THREAD & M
abbrev pub group_head : ℕ → ℕ → ℕ → List ℕ
group_head place thread count = words_text (decimal place ∷ decimal thread ∷ codes "&" ∷ decimal count ∷ [])

-- an entry of two steps or more says first how many they are
abbrev pub head_lines : ℕ → Entry → List (List ℕ)
head_lines place entry =
    if nat_le 2 (length entry.steps) then group_head place entry.pass (length entry.steps) ∷ [] else []

-- the lines of an entry: one for each of its steps, with its place and thread
abbrev pub entry_lines : Spec → List (List ℕ) → ℕ → Entry → List (List ℕ)
entry_lines spec texts place entry = head_lines place entry ++ map (step_line spec texts place entry.pass) entry.steps

-- a word with a count
abbrev pub count_line : List ℕ → ℕ → List ℕ
count_line word count = words_text (word ∷ decimal count ∷ [])

-- the entries with their places, counted from 0
abbrev pub journal_lines : Spec → List (List ℕ) → List Entry → List (List ℕ)
journal_lines spec texts history = flat_map (λ e. entry_lines spec texts e.0 e.1) (enumerate_from 0 history)

-- the final relation
abbrev pub final_lines : Spec → List (List ℕ) → List Pairs → List (List ℕ)
final_lines spec texts rows = count_line (codes "final") (length rows) ∷ (map (row_text spec texts) rows ++ codes "end" ∷ [])

-- the journal, and then the final relation
unfoldable pub report : Spec → List (List ℕ) → List Entry → List Pairs → List (List ℕ)
report spec texts history rows =
    count_line (codes "journal") (length history) ∷ (journal_lines spec texts history ++ final_lines spec texts rows)

-- ---- part by part

abbrev pub entry_parts : Spec → List (List ℕ) → List Entry → List (List (List ℕ))
entry_parts spec texts history = map (λ e. entry_lines spec texts e.0 e.1) (enumerate_from 0 history)

abbrev pub final_parts : Spec → List (List ℕ) → List Pairs → List (List (List ℕ))
final_parts spec texts rows =
    (count_line (codes "final") (length rows) ∷ []) ∷ (map (λ t. row_text spec texts t ∷ []) rows ++ (codes "end" ∷ []) ∷ [])

-- the lines of each entry together, and each other line by itself
unfoldable pub parts : Spec → List (List ℕ) → List Entry → List Pairs → List (List (List ℕ))
parts spec texts history rows =
    (count_line (codes "journal") (length history) ∷ []) ∷ (entry_parts spec texts history ++ final_parts spec texts rows)
