-- The values, tuples and replies of a line determine its words.
use Rattle.std.proofs.Common.{◌≡◌, ℕ, ◌<◌, ◌^◌, List, [], ◌∷◌, ◌++◌, length, map, inl, inr, refl, sym, ap, ◌∙◌, subst, arith}
use Rattle.rc_text_laws.specs.Imports.{zip, AllByRecursion, Pairs, cols_of, cols_of-zip, all_columns, ColKind, Num, Text, OpKind, Query, Insert, Remove, Update, Reply, Rows, Many, Inserted, Present, Conflict, Removed, Updated, Absent, Spec, spaced, words_text, kind_at, value_text, pair_text, pair_words, row_text, Ends, AreTexts, decimal_one, rank_one}
use Rattle.std.proofs.lemmas.List.{append_assoc}

-- ---- one value

-- a number of 64 bits, or the rank of one of the texts
abbrev pub IsShown : ColKind → List (List ℕ) → ℕ → Type 0
IsShown Num texts n = n < 2 ^ 64
IsShown Text texts n = n < length texts

pub value_one : (kind : ColKind) (texts : List (List ℕ)) (n m : ℕ) (a b : List ℕ) → AreTexts texts
    → IsShown kind texts n → IsShown kind texts m → Ends a → Ends b
    → value_text kind texts n ++ a ≡ value_text kind texts m ++ b → (n ≡ m) × (a ≡ b)
value_one Num texts n m a b good hn hm ha hb e = decimal_one n m a b hn hm ha hb e
value_one Text texts n m a b good hn hm ha hb e = rank_one texts n m a b good hn hm e

-- ---- the values of a tuple

-- each value is a number of 64 bits or a known rank
abbrev pub AreShown : Spec → List (List ℕ) → Pairs → Type 0
AreShown spec texts pairs = AllByRecursion (λ p. IsShown (kind_at spec p.0) texts p.1) pairs

pub tail_of : (x y : ℕ) (xs ys : List ℕ) → x ∷ xs ≡ y ∷ ys → xs ≡ ys
tail_of x y xs ys e = cc

pub ends_spaced : (words : List (List ℕ)) (a : List ℕ) → Ends a → Ends (spaced words ++ a)
ends_spaced [] a e = e
ends_spaced (w ∷ words) a e = inl refl

-- a word, the others, and what comes after them
next_word : (w : List ℕ) (words : List (List ℕ)) (a : List ℕ)
    → spaced (w ∷ words) ++ a ≡ 32 ∷ (w ++ (spaced words ++ a))
next_word w words a = ap (λ l. 32 ∷ l) (append_assoc w (spaced words) a)

pub values_one : (spec : Spec) (texts : List (List ℕ)) (p q : Pairs) (a b : List ℕ)
    → AreTexts texts → cols_of p ≡ cols_of q → AreShown spec texts p → AreShown spec texts q
    → Ends a → Ends b
    → spaced (pair_words spec texts p) ++ a ≡ spaced (pair_words spec texts q) ++ b
    → (p ≡ q) × (a ≡ b)
values_one spec texts [] [] a b good cols hp hq ha hb e = (refl, e)
values_one spec texts [] (y ∷ q) a b good cols hp hq ha hb e = cc
values_one spec texts (x ∷ p) [] a b good cols hp hq ha hb e = cc
values_one spec texts (x ∷ p) (y ∷ q) a b good cols hp hq ha hb e =
    let col : x.0 ≡ y.0 = head_of x.0 y.0 (cols_of p) (cols_of q) cols in
    let rest : cols_of p ≡ cols_of q = tail_of x.0 y.0 (cols_of p) (cols_of q) cols in
    let words : 32 ∷ (pair_text spec texts x ++ (spaced (pair_words spec texts p) ++ a))
    ≡ 32 ∷ (pair_text spec texts y ++ (spaced (pair_words spec texts q) ++ b)) =
    sym (next_word (pair_text spec texts x) (pair_words spec texts p) a) ∙ e
    ∙ next_word (pair_text spec texts y) (pair_words spec texts q) b in
    let line = tail_of 32 32 (pair_text spec texts x ++ (spaced (pair_words spec texts p) ++ a))
    (pair_text spec texts y ++ (spaced (pair_words spec texts q) ++ b)) words in
    let kinds : kind_at spec y.0 ≡ kind_at spec x.0 = ap (kind_at spec) (sym col) in
    let line' : value_text (kind_at spec x.0) texts x.1 ++ (spaced (pair_words spec texts p) ++ a)
    ≡ value_text (kind_at spec x.0) texts y.1 ++ (spaced (pair_words spec texts q) ++ b) =
    line ∙ ap (λ k. value_text k texts y.1 ++ (spaced (pair_words spec texts q) ++ b)) kinds in
    let here = value_one (kind_at spec x.0) texts x.1 y.1 (spaced (pair_words spec texts p) ++ a)
    (spaced (pair_words spec texts q) ++ b) good hp.0
    (subst (λ k. IsShown k texts y.1) kinds hq.0)
    (ends_spaced (pair_words spec texts p) a ha)
    (ends_spaced (pair_words spec texts q) b hb) line' in
    let later = values_one spec texts p q a b good rest hp.1 hq.1 ha hb here.1 in
    (pairs_both x y p q col here.0 later.0, later.1)
  where
    head_of : (x y : ℕ) (xs ys : List ℕ) → x ∷ xs ≡ y ∷ ys → x ≡ y
    head_of x y xs ys e = cc

    pairs_both : (x y : ℕ × ℕ) (p q : Pairs) → x.0 ≡ y.0 → x.1 ≡ y.1 → p ≡ q → x ∷ p ≡ y ∷ q
    pairs_both x y p q e f g = let s : x ≡ y = λ i. (e i, f i) in cc

-- ---- a tuple in parentheses

opened : (words : List (List ℕ)) (a : List ℕ)
    → (40 ∷ (words_text words ++ 41 ∷ [])) ++ a ≡ 40 ∷ (words_text words ++ 41 ∷ a)
opened words a = ap (λ l. 40 ∷ l) (append_assoc (words_text words) (41 ∷ []) a)

pub row_one : (spec : Spec) (texts : List (List ℕ)) (p q : Pairs) (a b : List ℕ) → AreTexts texts
    → cols_of p ≡ cols_of q → AreShown spec texts p → AreShown spec texts q
    → row_text spec texts p ++ a ≡ row_text spec texts q ++ b → (p ≡ q) × (a ≡ b)
row_one spec texts p q a b good cols hp hq e =
    let whole = sym (opened (pair_words spec texts p) a) ∙ e ∙ opened (pair_words spec texts q) b in
    go p q cols hp hq
    (tail_of 40 40 (words_text (pair_words spec texts p) ++ 41 ∷ a) (words_text (pair_words spec texts q) ++ 41 ∷ b) whole)
  where
    go : (p q : Pairs) → cols_of p ≡ cols_of q → AreShown spec texts p → AreShown spec texts q
        → words_text (pair_words spec texts p) ++ 41 ∷ a
        ≡ words_text (pair_words spec texts q) ++ 41 ∷ b
        → (p ≡ q) × (a ≡ b)
    go [] [] cols hp hq e = (refl, tail_of 41 41 a b e)
    go [] (y ∷ q) cols hp hq e = cc
    go (x ∷ p) [] cols hp hq e = cc
    go (x ∷ p) (y ∷ q) cols hp hq e =
        let both = values_one spec texts (x ∷ p) (y ∷ q) (41 ∷ a) (41 ∷ b) good cols hp hq
        (inr refl) (inr refl) (ap (λ l. 32 ∷ l) e) in
        (both.0, tail_of 41 41 a b both.1)

-- ---- the rows of a query

abbrev pub RowIsShown : Spec → List (List ℕ) → List ℕ → List ℕ → Type 0
RowIsShown spec texts outs row = (length row ≡ length outs) × AreShown spec texts (zip outs row)

zip_one : (outs row other : List ℕ) → length row ≡ length outs → length other ≡ length outs
    → zip outs row ≡ zip outs other → row ≡ other
zip_one [] [] [] h k e = refl
zip_one [] [] (y ∷ other) h k e = absurd (omega arith)
zip_one [] (x ∷ row) other h k e = absurd (omega arith)
zip_one (c ∷ outs) [] other h k e = absurd (omega arith)
zip_one (c ∷ outs) (x ∷ row) [] h k e = absurd (omega arith)
zip_one (c ∷ outs) (x ∷ row) (y ∷ other) h k e =
    let parts = both (c, x) (c, y) (zip outs row) (zip outs other) e in
    joined x y row other (ap (λ (p : ℕ × ℕ). p.1) parts.0)
    (zip_one outs row other (omega arith) (omega arith) parts.1)
  where
    both : (p q : ℕ × ℕ) (t u : Pairs) → p ∷ t ≡ q ∷ u → (p ≡ q) × (t ≡ u)
    both p q t u e = (cc, cc)

    joined : (x y : ℕ) (r s : List ℕ) → x ≡ y → r ≡ s → x ∷ r ≡ y ∷ s
    joined x y r s e f = cc

pub rows_one : (spec : Spec) (texts : List (List ℕ)) (outs : List ℕ) (rows others : List (List ℕ))
    → AreTexts texts
    → AllByRecursion (RowIsShown spec texts outs) rows
    → AllByRecursion (RowIsShown spec texts outs) others
    → spaced (map (λ row. row_text spec texts (zip outs row)) rows)
    ≡ spaced (map (λ row. row_text spec texts (zip outs row)) others)
    → rows ≡ others
rows_one spec texts outs [] [] good h k e = refl
rows_one spec texts outs [] (y ∷ others) good h k e = cc
rows_one spec texts outs (x ∷ rows) [] good h k e = cc
rows_one spec texts outs (x ∷ rows) (y ∷ others) good h k e =
    let cols : cols_of (zip outs x) ≡ cols_of (zip outs y) =
    cols_of-zip outs x h.0.0 ∙ sym (cols_of-zip outs y k.0.0) in
    let here = row_one spec texts (zip outs x) (zip outs y)
    (spaced (map (λ row. row_text spec texts (zip outs row)) rows))
    (spaced (map (λ row. row_text spec texts (zip outs row)) others)) good cols h.0.1 k.0.1
    (tail_of 32 32 _ _ e) in
    joined x y rows others (zip_one outs x y h.0.0 k.0.0 here.0)
    (rows_one spec texts outs rows others good h.1 k.1 here.1)
  where
    joined : (x y : List ℕ) (r s : List (List ℕ)) → x ≡ y → r ≡ s → x ∷ r ≡ y ∷ s
    joined x y r s e f = cc

-- ---- replies

-- a reply of the kind of its operation, with known values
abbrev pub IsReplyOf : Spec → List (List ℕ) → OpKind → Reply → Type 0
IsReplyOf spec texts (Query outs ranges) (Rows rows) =
    (length rows < 2 ^ 64) × AllByRecursion (RowIsShown spec texts outs) rows
IsReplyOf spec texts (Query outs ranges) (Many n) = n < 2 ^ 64
IsReplyOf spec texts (Query outs ranges) Inserted = ⊥
IsReplyOf spec texts (Query outs ranges) Present = ⊥
IsReplyOf spec texts (Query outs ranges) (Conflict j) = ⊥
IsReplyOf spec texts (Query outs ranges) (Removed t) = ⊥
IsReplyOf spec texts (Query outs ranges) (Updated t) = ⊥
IsReplyOf spec texts (Query outs ranges) Absent = ⊥
IsReplyOf spec texts Insert (Rows rows) = ⊥
IsReplyOf spec texts Insert (Many n) = ⊥
IsReplyOf spec texts Insert Inserted = Unit {0}
IsReplyOf spec texts Insert Present = Unit {0}
IsReplyOf spec texts Insert (Conflict j) = j < 2 ^ 64
IsReplyOf spec texts Insert (Removed t) = ⊥
IsReplyOf spec texts Insert (Updated t) = ⊥
IsReplyOf spec texts Insert Absent = ⊥
IsReplyOf spec texts Remove (Rows rows) = ⊥
IsReplyOf spec texts Remove (Many n) = ⊥
IsReplyOf spec texts Remove Inserted = ⊥
IsReplyOf spec texts Remove Present = ⊥
IsReplyOf spec texts Remove (Conflict j) = ⊥
IsReplyOf spec texts Remove (Removed t) = (cols_of t ≡ all_columns spec) × AreShown spec texts t
IsReplyOf spec texts Remove (Updated t) = ⊥
IsReplyOf spec texts Remove Absent = Unit {0}
IsReplyOf spec texts Update (Rows rows) = ⊥
IsReplyOf spec texts Update (Many n) = ⊥
IsReplyOf spec texts Update Inserted = ⊥
IsReplyOf spec texts Update Present = ⊥
IsReplyOf spec texts Update (Conflict j) = j < 2 ^ 64
IsReplyOf spec texts Update (Removed t) = ⊥
IsReplyOf spec texts Update (Updated t) = (cols_of t ≡ all_columns spec) × AreShown spec texts t
IsReplyOf spec texts Update Absent = Unit {0}
