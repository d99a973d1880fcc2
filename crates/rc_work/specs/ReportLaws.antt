-- Where the lines of a report stand.
use Rattle.std.proofs.Common.{◌≡◌, ℕ, zero, suc, ◌+◌, ◌-◌, ◌<◌, ◌≤◌, List, [], ◌∷◌, ◌++◌, length, map, Some, refl, sym, ap, ◌∙◌, arith}
use Rattle.rc_work.specs.Imports.{codes, flat_map, slice_get, enumerate_from, option_map, Pairs, printed_lines, Spec, Entry}
use Rattle.std.proofs.lemmas.Option.{slice_get-map}
use Rattle.std.proofs.lemmas.List.{length-map, length-append}
use Rattle.std.proofs.lemmas.List.Concat.{flat_map-append}
use Rattle.rc_work.specs.Printed.{row_text}
use Rattle.rc_work.specs.Report.{entry_lines, journal_lines, count_line, final_lines, report, entry_parts, final_parts, parts}

-- ---- places in two lists, one after the other

pub slice_get_left : {A : Type 0} (xs ys : List A) (i : ℕ) → i < length xs → slice_get (xs ++ ys) i ≡ slice_get xs i
slice_get_left [] ys i h = absurd (omega arith)
slice_get_left (x ∷ xs) ys zero h = refl
slice_get_left (x ∷ xs) ys (suc i) h = slice_get_left xs ys i (omega arith)

pub slice_get_right : {A : Type 0} (xs ys : List A) (i : ℕ) → length xs ≤ i → slice_get (xs ++ ys) i ≡ slice_get ys (i - length xs)
slice_get_right [] ys i h = let e : i ≡ i - 0 = omega arith in ap (slice_get ys) e
slice_get_right (x ∷ xs) ys zero h = absurd (omega arith)
slice_get_right (x ∷ xs) ys (suc i) h = let e : i - length xs ≡ suc i - suc (length xs) = omega arith in slice_get_right xs ys i (omega arith) ∙ ap (slice_get ys) e

pub slice_get_later : {A : Type 0} (x : A) (xs : List A) (i : ℕ) → (i ≡ 0 → ⊥) → slice_get (x ∷ xs) i ≡ slice_get xs (i - 1)
slice_get_later x xs zero h = absurd (h refl)
slice_get_later x xs (suc i) h = let e : i ≡ suc i - 1 = omega arith in ap (slice_get xs) e

-- ---- the entries

numbered_at : (f : ℕ × Entry → List (List ℕ)) (n : ℕ) (history : List Entry) (i : ℕ) (e : Entry) → slice_get history i ≡ Some e
    → slice_get (map f (enumerate_from n history)) i ≡ Some (f (n + i, e))
numbered_at f n [] i e h = cc
numbered_at f n (x ∷ history) zero e h =
    let y : x ≡ e = some_same x e h in
    let z : n ≡ n + 0 = omega arith in
    ap (λ k. Some (f (k, x))) z ∙ ap (λ w. Some (f (n + 0, w))) y
  where
    some_same : (x e : Entry) → Some x ≡ Some e → x ≡ e
    some_same x e h = cc
numbered_at f n (x ∷ history) (suc i) e h =
    let z : n + 1 + i ≡ n + suc i = omega arith in
    numbered_at f (n + 1) history i e h ∙ ap (λ k. Some (f (k, e))) z

numbered_length : (f : ℕ × Entry → List (List ℕ)) (n : ℕ) (history : List Entry) → length (map f (enumerate_from n history)) ≡ length history
numbered_length f n [] = refl
numbered_length f n (x ∷ history) = ap suc (numbered_length f (n + 1) history)

length-entry_parts : (spec : Spec) (texts : List (List ℕ)) (history : List Entry) → length (entry_parts spec texts history) ≡ length history
length-entry_parts spec texts history = numbered_length (λ e. entry_lines spec texts e.0 e.1) 0 history

pub entry_at : (spec : Spec) (texts : List (List ℕ)) (history : List Entry) (i : ℕ) (e : Entry) → slice_get history i ≡ Some e
    → slice_get (entry_parts spec texts history) i ≡ Some (entry_lines spec texts i e)
entry_at spec texts history i e h =
    let z : 0 + i ≡ i = omega arith in
    numbered_at (λ x. entry_lines spec texts x.0 x.1) 0 history i e h ∙ ap (λ k. Some (entry_lines spec texts k e)) z

-- ---- the parts

pub part_entry : (spec : Spec) (texts : List (List ℕ)) (history : List Entry) (rows : List Pairs) (number : ℕ) → (number ≡ 0 → ⊥)
    → number - 1 < length history
    → slice_get (parts spec texts history rows) number ≡ slice_get (entry_parts spec texts history) (number - 1)
unfolding parts
part_entry spec texts history rows number h lt =
    slice_get_later (count_line (codes "journal") (length history) ∷ []) (entry_parts spec texts history ++ final_parts spec texts rows) number h
    ∙ slice_get_left (entry_parts spec texts history) (final_parts spec texts rows) (number - 1) (omega (arith, length-entry_parts spec texts history))

pub part_after : (spec : Spec) (texts : List (List ℕ)) (history : List Entry) (rows : List Pairs) (number : ℕ) → (number ≡ 0 → ⊥)
    → length history ≤ number - 1
    → slice_get (parts spec texts history rows) number ≡ slice_get (final_parts spec texts rows) (number - 1 - length history)
unfolding parts
part_after spec texts history rows number h le =
    slice_get_later (count_line (codes "journal") (length history) ∷ []) (entry_parts spec texts history ++ final_parts spec texts rows) number h
    ∙ slice_get_right (entry_parts spec texts history) (final_parts spec texts rows) (number - 1) (omega (arith, length-entry_parts spec texts history))
    ∙ ap (λ n. slice_get (final_parts spec texts rows) (number - 1 - n)) (length-entry_parts spec texts history)

mapped_at : (f : Pairs → List ℕ) (rows : List Pairs) (i : ℕ) (t : Pairs) → slice_get rows i ≡ Some t → slice_get (map f rows) i ≡ Some (f t)
mapped_at f rows i t h = slice_get-map f rows i ∙ ap (option_map f) h

pub final_row : (spec : Spec) (texts : List (List ℕ)) (rows : List Pairs) (number : ℕ) (t : Pairs) → (number ≡ 0 → ⊥) → number - 1 < length rows
    → slice_get rows (number - 1) ≡ Some t → slice_get (final_lines spec texts rows) number ≡ Some (row_text spec texts t)
final_row spec texts rows number t h lt e =
    slice_get_later (count_line (codes "final") (length rows)) (map (row_text spec texts) rows ++ codes "end" ∷ []) number h
    ∙ slice_get_left (map (row_text spec texts) rows) (codes "end" ∷ []) (number - 1) (omega (arith, lt, length-map rows (row_text spec texts)))
    ∙ mapped_at (row_text spec texts) rows (number - 1) t e

pub final_after : (spec : Spec) (texts : List (List ℕ)) (rows : List Pairs) (number : ℕ) → (number ≡ 0 → ⊥) → length rows ≤ number - 1
    → slice_get (final_lines spec texts rows) number ≡ slice_get (codes "end" ∷ []) (number - 1 - length rows)
final_after spec texts rows number h le =
    slice_get_later (count_line (codes "final") (length rows)) (map (row_text spec texts) rows ++ codes "end" ∷ []) number h
    ∙ slice_get_right (map (row_text spec texts) rows) (codes "end" ∷ []) (number - 1) (omega (arith, le, length-map rows (row_text spec texts)))
    ∙ ap (λ n. slice_get (codes "end" ∷ []) (number - 1 - n)) (length-map rows (row_text spec texts))

-- each line of the final relation is a part by itself
abbrev alone : List ℕ → List (List ℕ)
alone line = line ∷ []

rows_alone : (spec : Spec) (texts : List (List ℕ)) (rows : List Pairs)
    → map (λ t. row_text spec texts t ∷ []) rows ++ (codes "end" ∷ []) ∷ [] ≡ map alone (map (row_text spec texts) rows ++ codes "end" ∷ [])
rows_alone spec texts [] = refl
rows_alone spec texts (t ∷ rows) = ap (λ l. alone (row_text spec texts t) ∷ l) (rows_alone spec texts rows)

pub final_part : (spec : Spec) (texts : List (List ℕ)) (rows : List Pairs) (number : ℕ)
    → slice_get (final_parts spec texts rows) number ≡ option_map alone (slice_get (final_lines spec texts rows) number)
final_part spec texts rows number =
    ap (λ l. slice_get (alone (count_line (codes "final") (length rows)) ∷ l) number) (rows_alone spec texts rows)
    ∙ slice_get-map alone (final_lines spec texts rows) number

abbrev row_part : Spec → List (List ℕ) → Pairs → List (List ℕ)
row_part spec texts t = row_text spec texts t ∷ []

abbrev end_part : List (List ℕ)
end_part = codes "end" ∷ []

pub length-parts : (spec : Spec) (texts : List (List ℕ)) (history : List Entry) (rows : List Pairs)
    → length (parts spec texts history rows) ≡ length history + length rows + 3
unfolding parts
length-parts spec texts history rows =
    let a : length (entry_parts spec texts history ++ final_parts spec texts rows) ≡ length (entry_parts spec texts history) + length (final_parts spec texts rows) =
    length-append (entry_parts spec texts history) (final_parts spec texts rows) in
    let b : length (map (row_part spec texts) rows ++ end_part ∷ []) ≡ length (map (row_part spec texts) rows) + 1 = length-append (map (row_part spec texts) rows) (end_part ∷ []) in
    omega (arith, a, b, length-entry_parts spec texts history, length-map rows (row_part spec texts))

-- ---- the report is its parts, one after another

flat_mapped : {A B : Type 0} (f : A → List B) (xs : List A) → flat_map (λ (part : List B). part) (map f xs) ≡ flat_map f xs
flat_mapped f [] = refl
flat_mapped f (x ∷ xs) = ap (λ l. f x ++ l) (flat_mapped f xs)

rows_mapped : (spec : Spec) (texts : List (List ℕ)) (rows : List Pairs)
    → flat_map (λ (part : List (List ℕ)). part) (map (row_part spec texts) rows ++ end_part ∷ []) ≡ map (row_text spec texts) rows ++ codes "end" ∷ []
rows_mapped spec texts [] = refl
rows_mapped spec texts (t ∷ rows) = ap (λ l. row_text spec texts t ∷ l) (rows_mapped spec texts rows)

pub report_parts : (spec : Spec) (texts : List (List ℕ)) (history : List Entry) (rows : List Pairs)
    → flat_map (λ part. part) (parts spec texts history rows) ≡ report spec texts history rows
unfolding parts report
report_parts spec texts history rows =
    ap (λ l. count_line (codes "journal") (length history) ∷ l)
    (flat_map-append (λ (part : List (List ℕ)). part) (entry_parts spec texts history) (final_parts spec texts rows)
    ∙ ap (λ l. l ++ flat_map (λ part. part) (final_parts spec texts rows)) (flat_mapped (λ e. entry_lines spec texts e.0 e.1) (enumerate_from 0 history))
    ∙ ap (λ l. journal_lines spec texts history ++ count_line (codes "final") (length rows) ∷ l) (rows_mapped spec texts rows))

-- and so is its text
pub printed_parts : (many : List (List (List ℕ))) → flat_map printed_lines many ≡ printed_lines (flat_map (λ part. part) many)
printed_parts [] = refl
printed_parts (part ∷ many) =
    ap (λ l. printed_lines part ++ l) (printed_parts many)
    ∙ sym (flat_map-append (λ (line : List ℕ). line ++ 10 ∷ []) part (flat_map (λ lines. lines) many))

pub report_text : (spec : Spec) (texts : List (List ℕ)) (history : List Entry) (rows : List Pairs)
    → flat_map printed_lines (parts spec texts history rows) ≡ printed_lines (report spec texts history rows)
report_text spec texts history rows = printed_parts (parts spec texts history rows) ∙ ap printed_lines (report_parts spec texts history rows)
