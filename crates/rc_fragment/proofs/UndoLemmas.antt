-- Changes undone, from the last on.
use Rattle.std.specs.Prelude.{◌≡◌, ℕ, ◌<◌, Bool, true, false, cond, List, [], ◌∷◌, ◌++◌, ◌⊎◌, ◌==◌, length}
use Rattle.std.proofs.Common.{refl, sym, ap, subst, ◌∙◌, inl, inr}
use Rattle.rc_fragment.proofs.Imports.{In, and_parts, eqb-true, Pairs, tuple_eq, same_from_test, count_at, is_row_at, with_count, AreCountedRows, AreCountedRows-with_count, count-with_count, in_with_count, same_counts, EdgeRow, AreAlone, AreRowsOf, HasAlone, HasColumns, IsThere, set_back, undone, EdgeShape}

pub undone-last : (changes : List EdgeRow) (w : EdgeRow) (rows : List EdgeRow) → undone (changes ++ w ∷ []) rows ≡ undone changes (set_back w rows)
undone-last [] w rows = refl
undone-last (v ∷ changes) w rows = ap (set_back v) (undone-last changes w rows)

pub alone-last : (table : List EdgeShape) (changes : List EdgeRow) (w : EdgeRow) (rows : List EdgeRow) → HasAlone table rows w.0 w.1 → AreAlone table changes (set_back w rows) → AreAlone table (changes ++ w ∷ []) rows
alone-last table [] w rows own h = (own, tt)
alone-last table (v ∷ changes) w rows own h = (subst (λ z. HasAlone table z v.0 v.1) (sym (undone-last changes w rows)) h.0, alone-last table changes w rows own h.1)

pub last-alone : (table : List EdgeShape) (changes : List EdgeRow) (w : EdgeRow) (rows : List EdgeRow) → AreAlone table (changes ++ w ∷ []) rows → HasAlone table rows w.0 w.1 × AreAlone table changes (set_back w rows)
last-alone table [] w rows h = (h.0, tt)
last-alone table (v ∷ changes) w rows h =
    let q : HasAlone table rows w.0 w.1 × AreAlone table changes (set_back w rows) = last-alone table changes w rows h.1 in
    (q.0, (subst (λ z. HasAlone table z v.0 v.1) (undone-last changes w rows) h.0, q.1))

-- ---- one count

-- the row that it is
pub same_place : (d : ℕ) (other : Pairs) (w : EdgeRow) → is_row_at d other w ≡ true → (w.0 ≡ d) × (w.1 ≡ other)
same_place d other w h =
    let q : ((w.0 == d) ≡ true) × (tuple_eq w.1 other ≡ true) = and_parts (w.0 == d) (tuple_eq w.1 other) h in
    (eqb-true w.0 d q.0, same_from_test w.1 other q.1)

-- a count set, and then set to what it was
pub with_count_back : (e : ℕ) (row : Pairs) (n : ℕ) (rows : List EdgeRow) → AreCountedRows rows → with_count e row (count_at e row rows) (with_count e row n rows) ≡ rows
with_count_back e row n rows counted = same_counts (with_count e row was (with_count e row n rows)) rows
    (AreCountedRows-with_count e row was (with_count e row n rows) mid) counted
    (λ d other. count-with_count e row was (with_count e row n rows) mid d other ∙ ap (cond (is_row_at d other (e, row, was)) was) (count-with_count e row n rows counted d other)
    ∙ by_row d other (is_row_at d other (e, row, n)) refl)
  where
    was : ℕ
    was = count_at e row rows

    mid : AreCountedRows (with_count e row n rows)
    mid = AreCountedRows-with_count e row n rows counted

    by_row : (d : ℕ) (other : Pairs) (b : Bool) → is_row_at d other (e, row, n) ≡ b → cond b was (cond b n (count_at d other rows)) ≡ count_at d other rows
    by_row d other true t = let q : (e ≡ d) × (row ≡ other) = same_place d other (e, row, n) t in λ i. count_at (q.0 i) (q.1 i) rows
    by_row d other false t = refl

-- ---- which rows are there

-- a row of those with one count set is the one that was set, or was there
pub there_before : (e : ℕ) (row : Pairs) (n : ℕ) (rows : List EdgeRow) (d : ℕ) (u : Pairs) → IsThere (with_count e row n rows) d u → ((d ≡ e) × (u ≡ row)) ⊎ IsThere rows d u
there_before e row n rows d u h = elim (in_with_count e row n rows (d, u, h.0) h.1) [
  | inl q ↦ inl (ap (λ (z : EdgeRow). z.0) q.0, ap (λ (z : EdgeRow). z.1) q.0)
  | inr q ↦ inr (h.0, q.0)
]

-- a row that is the only one with its source and key is so with another count
pub alone_with_count : (table : List EdgeShape) (e : ℕ) (row : Pairs) (n : ℕ) (rows : List EdgeRow) → HasAlone table rows e row → HasAlone table (with_count e row n rows) e row
alone_with_count table e row n rows h shape at u there source key = elim (there_before e row n rows e u there) [
  | inl q ↦ q.1
  | inr old ↦ h shape at u old source key
]

-- the changed rows are of edges of the table, and have their columns
abbrev pub AreOfTable : List EdgeShape → List EdgeRow → Type 0
AreOfTable table changes = (w : EdgeRow) → In w changes → (w.0 < length table) × HasColumns table w.0 w.1

pub rows_undone : (table : List EdgeShape) (changes rows : List EdgeRow) → AreOfTable table changes → AreRowsOf table rows → AreRowsOf table (undone changes rows)
rows_undone table [] rows of_table h = h
rows_undone table (v ∷ changes) rows of_table h =
    let before : AreRowsOf table (undone changes rows) = rows_undone table changes rows (λ w m. of_table w (inr m)) h in
    record {
      counted = AreCountedRows-with_count v.0 v.1 v.2 (undone changes rows) before.counted;
      known = λ w m. elim (in_with_count v.0 v.1 v.2 (undone changes rows) w m) [
        | inl q ↦ subst (λ (z : EdgeRow). z.0 < length table) (sym q.0) (of_table v (inl refl)).0
        | inr q ↦ before.known w q.0
      ];
      columns = λ w m. elim (in_with_count v.0 v.1 v.2 (undone changes rows) w m) [
        | inl q ↦ subst (λ (z : EdgeRow). HasColumns table z.0 z.1) (sym q.0) (of_table v (inl refl)).1
        | inr q ↦ before.columns w q.0
      ];
    }
