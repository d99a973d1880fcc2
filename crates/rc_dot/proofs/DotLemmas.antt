-- Texts with one part more.
use Rattle.std.proofs.Common.{◌≡◌, ℕ, zero, suc, ◌+◌, ◌≤◌, Bool, true, false, cond, List, [], ◌∷◌, ◌++◌, Some, filter, get_or, take, sym, ap, ◌∙◌, arith}
use Rattle.rc_dot.proofs.Imports.{slice_get, flat_map, range_with_len, take_more, append_assoc, append-nil, flat_map-append, get_or_from_slice_get, slice_get_within, range_with_len_more, filter-append, Spec, no_column, Statement, is_read_of, Commit, column_text, columns_text}

-- the text of one item more
pub flat_more : {A : Type 0} (f : A → List ℕ) (xs : List A) (i : ℕ) (x : A) → slice_get xs i ≡ Some x → flat_map f (take i xs) ++ f x ≡ flat_map f (take (i + 1) xs)
flat_more f xs i x e =
    sym (
    ap (flat_map f) (take_more xs i x (slice_get_within xs i x e) ∙ ap (λ y. take i xs ++ y ∷ []) (get_or_from_slice_get xs i x x e))
    ∙ flat_map-append f (take i xs) (x ∷ []) ∙ ap (λ l. flat_map f (take i xs) ++ l) (append-nil (f x))
    )

-- the text of one number more
pub range_more : (f : ℕ → List ℕ) (text : List ℕ) (a n k : ℕ) → a + n ≡ k
    → (text ++ flat_map f (range_with_len a n)) ++ f k ≡ text ++ flat_map f (range_with_len a (n + 1))
range_more f text a n k e = append_assoc text (flat_map f (range_with_len a n)) (f k) ∙ ap (λ l. text ++ l) (sym more)
  where
    more : flat_map f (range_with_len a (n + 1)) ≡ flat_map f (range_with_len a n) ++ f k
    more =
        ap (flat_map f) (range_with_len_more a n ∙ ap (λ j. range_with_len a n ++ j ∷ []) e)
        ∙ flat_map-append f (range_with_len a n) (k ∷ []) ∙ ap (λ l. flat_map f (range_with_len a n) ++ l) (append-nil (f k))

-- the name of one column more, which isn't the first
pub columns_more : (spec : Spec) (text cols : List ℕ) (i c : ℕ) → 1 ≤ i → slice_get cols i ≡ Some c
    → (text ++ columns_text spec (take i cols)) ++ column_text spec c ≡ text ++ columns_text spec (take (i + 1) cols)
columns_more spec text cols i c some e = append_assoc text (columns_text spec (take i cols)) (column_text spec c) ∙ ap (λ l. text ++ l) (more cols i some e)
  where
    more : (cols : List ℕ) (i : ℕ) → 1 ≤ i → slice_get cols i ≡ Some c
        → columns_text spec (take i cols) ++ column_text spec c ≡ columns_text spec (take (i + 1) cols)
    more [] i some e = cc
    more (d ∷ cols) zero some e = absurd (omega arith)
    more (d ∷ cols) (suc i) some e =
        let there : slice_get cols i ≡ Some c = e in
        let last : suc (i + 1) ≡ suc i + 1 = omega arith in
        append_assoc (get_or spec.columns d no_column).name (flat_map (column_text spec) (take i cols)) (column_text spec c) ∙ ap (λ l. (get_or spec.columns d no_column).name ++ l) (flat_more (column_text spec) cols i c there)
        ∙ ap (λ n. columns_text spec (take n (d ∷ cols))) last

-- the first column's name
pub first_column : (spec : Spec) (cols : List ℕ) (c : ℕ) → slice_get cols 0 ≡ Some c → columns_text spec (take 1 cols) ≡ (get_or spec.columns c no_column).name
first_column spec [] c e = cc
first_column spec (d ∷ cols) c e = let same : d ≡ c = cc in append-nil (get_or spec.columns d no_column).name ∙ ap (λ k. (get_or spec.columns k no_column).name) same

-- a word, and then what stands behind it
pub behind : (text word rest one all : List ℕ) → one ≡ text ++ word → all ≡ one ++ rest → all ≡ text ++ (word ++ rest)
behind text word rest one all first more = more ∙ ap (λ l. l ++ rest) first ∙ append_assoc text word rest

-- whether the statement at a place reads an edge
abbrev reads_at : List Statement → ℕ → ℕ → Bool
reads_at plan e place = is_read_of e (get_or plan place Commit)

-- the numbers of the statements before a place that read an edge
abbrev numbers_before : List Statement → ℕ → ℕ → List ℕ
numbers_before plan e place = filter (reads_at plan e) (range_with_len 0 place)

numbers_more : (plan : List Statement) (e place : ℕ) (x : Statement) → get_or plan place Commit ≡ x
    → numbers_before plan e (place + 1) ≡ numbers_before plan e place ++ cond (is_read_of e x) (place ∷ []) []
numbers_more plan e place x there =
    ap (filter (reads_at plan e)) (range_with_len_more 0 place ∙ ap (λ k. range_with_len 0 place ++ k ∷ []) last)
    ∙ filter-append (reads_at plan e) (range_with_len 0 place) (place ∷ [])
    ∙ ap (λ l. numbers_before plan e place ++ l) (ap (λ b. cond b (place ∷ []) []) (ap (is_read_of e) there))
  where
    last : 0 + place ≡ place
    last = omega arith

-- with a statement that reads the edge there is its number more
pub numbers_with : (plan : List Statement) (e place : ℕ) (x : Statement) (old new : List ℕ) → get_or plan place Commit ≡ x → is_read_of e x ≡ true → old ≡ numbers_before plan e place
    → new ≡ old ++ place ∷ [] → new ≡ numbers_before plan e (place + 1)
numbers_with plan e place x old new there is before pushed =
    pushed ∙ ap (λ l. l ++ place ∷ []) before ∙ sym (numbers_more plan e place x there ∙ ap (λ b. numbers_before plan e place ++ cond b (place ∷ []) []) is)

-- and with another none
pub numbers_without : (plan : List Statement) (e place : ℕ) (x : Statement) (old : List ℕ) → get_or plan place Commit ≡ x → is_read_of e x ≡ false → old ≡ numbers_before plan e place
    → old ≡ numbers_before plan e (place + 1)
numbers_without plan e place x old there is before =
    before ∙ sym (numbers_more plan e place x there ∙ ap (λ b. numbers_before plan e place ++ cond b (place ∷ []) []) is ∙ append-nil (numbers_before plan e place))
