-- Laws of counted rows: rows are determined by their counts, and what an insert and a remove do to the fragments of stripes.
use Rattle.std.specs.Prelude.{◌≡◌, ℕ, zero, suc, pred, ◌+◌, ◌-◌, ◌<◌, ◌≤◌, Bool, true, false, List, [], ◌∷◌, ◌⊎◌, ◌==◌, filter, cond, not, length}
use Rattle.rc_spec.specs.Imports.{range_with_len, Ordering, Less, Equal, Greater, match_ordering, In, IsRising, put, same_rising, rising_put, rising_filter, in_put, put_new, put_old, in_filter, filter_in, not_below_itself, in_has, has_in, has, Pairs, project, tuple_cmp, tuple_eq, tuple_order, same_from_test, test_from_same}
use Rattle.std.proofs.Common.{inl, inr, refl, sym, ap, subst, ◌∙◌, arith, zero-add}
use Rattle.std.proofs.lemmas.Bool.{false≢true, cases_Bool, cases_eq, cases_lt, eqb-true, eq-eqb, and_parts, and_from, not_from_false, not-true}
use Rattle.rc_spec.specs.declared.spec.Spec.{Spec}
use Rattle.rc_spec.specs.Contents.{how_many}
use Rattle.rc_spec.specs.Decomposition.{bound, edge_at}
use Rattle.rc_spec.specs.Fragments.{EdgeRow, edge_row_cmp, edge_numbers, all_rows, row_stripe, rows_on, fragment_of}
use Rattle.rc_spec.specs.FragmentsLaws.{edge_row_order, IsEdgeRow, in_all_rows, all_rows_in, rising_fragments, in_fragments, fragments_in}
use Rattle.rc_spec.specs.Placement.{class_of}
use Rattle.rc_spec.specs.Plain.{without}
use Rattle.rc_spec.specs.Stripes.{physical_stripe}
use Rattle.rc_spec.specs.CountedRows.{is_row_at, count_at, with_count, raised, lowered, row_in, all_raised, all_lowered, with_rows, without_rows}

-- how many tuples have this row in the edge
abbrev pub counted : Spec → List Pairs → ℕ → Pairs → ℕ
counted spec r e row = how_many (bound spec (edge_at spec e).to) r row

-- a rising list of rows, each tuple once in an edge, with counts above 0
pub record AreCountedRows (ws : List EdgeRow) : Type 0 where
  pub rising : IsRising edge_row_cmp ws
  pub once : (v w : EdgeRow) → In v ws → In w ws → v.0 ≡ w.0 → v.1 ≡ w.1 → v ≡ w
  pub positive : (w : EdgeRow) → In w ws → 0 < w.2

at_true : (e : ℕ) (row : Pairs) (w : EdgeRow) → is_row_at e row w ≡ true → (w.0 ≡ e) × (w.1 ≡ row)
at_true e row w h = let q : ((w.0 == e) ≡ true) × (tuple_eq w.1 row ≡ true) = and_parts (w.0 == e) (tuple_eq w.1 row) h in (eqb-true w.0 e q.0, same_from_test w.1 row q.1)

true_at : (e : ℕ) (row : Pairs) (w : EdgeRow) → w.0 ≡ e → w.1 ≡ row → is_row_at e row w ≡ true
true_at e row w a b = and_from (w.0 == e) (tuple_eq w.1 row) (eq-eqb w.0 e a) (test_from_same w.1 row b)

same_row : (e : ℕ) (row : Pairs) (n : ℕ) (w : EdgeRow) → w.0 ≡ e → w.1 ≡ row → w.2 ≡ n → w ≡ (e, row, n)
same_row e row n w a b c = λ i. (a i, b i, c i)

count_in : (e : ℕ) (row : Pairs) (ws : List EdgeRow) → 0 < count_at e row ws → In (e, row, count_at e row ws) ws
count_in e row [] h = absurd (omega arith)
count_in e row (w ∷ ws) h = go (is_row_at e row w) refl h (count_in e row ws)
  where
    go : (b : Bool) → is_row_at e row w ≡ b → 0 < cond b w.2 (count_at e row ws) → (0 < count_at e row ws → In (e, row, count_at e row ws) ws) → In (e, row, cond b w.2 (count_at e row ws)) (w ∷ ws)
    go true q l ih = let k : (w.0 ≡ e) × (w.1 ≡ row) = at_true e row w q in inl (sym (same_row e row w.2 w k.0 k.1 refl))
    go false q l ih = inr (ih l)

some_count : (e : ℕ) (row : Pairs) (ws : List EdgeRow) (v : EdgeRow) → In v ws → v.0 ≡ e → v.1 ≡ row → (w : EdgeRow) × In w ws × (w.0 ≡ e) × (w.1 ≡ row) × (count_at e row ws ≡ w.2)
some_count e row [] v h a b = absurd h
some_count e row (x ∷ ws) v h a b = go (is_row_at e row x) refl h (λ q. some_count e row ws v q a b)
  where
    go : (c : Bool) → is_row_at e row x ≡ c → In v (x ∷ ws) → (In v ws → (w : EdgeRow) × In w ws × (w.0 ≡ e) × (w.1 ≡ row) × (count_at e row ws ≡ w.2))
        → (w : EdgeRow) × In w (x ∷ ws) × (w.0 ≡ e) × (w.1 ≡ row) × (cond c x.2 (count_at e row ws) ≡ w.2)
    go true q m ih = let k : (x.0 ≡ e) × (x.1 ≡ row) = at_true e row x q in (x, inl refl, k.0, k.1, refl)
    go false q (inl m) ih = absurd (false≢true (sym q ∙ true_at e row x (ap (λ (z : EdgeRow). z.0) (sym m) ∙ a) (ap (λ (z : EdgeRow). z.1) (sym m) ∙ b)))
    go false q (inr m) ih = let y : (w : EdgeRow) × In w ws × (w.0 ≡ e) × (w.1 ≡ row) × (count_at e row ws ≡ w.2) = ih m in (y.0, inr y.1, y.2, y.3, y.4)

pub in_count : (ws : List EdgeRow) → AreCountedRows ws → (v : EdgeRow) → In v ws → count_at v.0 v.1 ws ≡ v.2
in_count ws a v h =
    let y : (w : EdgeRow) × In w ws × (w.0 ≡ v.0) × (w.1 ≡ v.1) × (count_at v.0 v.1 ws ≡ w.2) = some_count v.0 v.1 ws v h refl refl in
    y.4 ∙ ap (λ (z : EdgeRow). z.2) (a.once y.0 v y.1 h y.2 y.3)

zero_or_more : (n : ℕ) → (n ≡ 0) ⊎ (0 < n)
zero_or_more zero = inl refl
zero_or_more (suc n) = inr (omega arith)

pub count_none : (e : ℕ) (row : Pairs) (ws : List EdgeRow) → ((w : EdgeRow) → In w ws → w.0 ≡ e → w.1 ≡ row → ⊥) → count_at e row ws ≡ 0
count_none e row ws f = elim (zero_or_more (count_at e row ws)) [ inl z ↦ z | inr l ↦ absurd (f (e, row, count_at e row ws) (count_in e row ws l) refl refl) ]

-- two lists of rows with the same counts
pub same_counts : (xs ys : List EdgeRow) → AreCountedRows xs → AreCountedRows ys → ((e : ℕ) (row : Pairs) → count_at e row xs ≡ count_at e row ys) → xs ≡ ys
same_counts xs ys a b f = same_rising edge_row_cmp edge_row_order xs ys a.rising b.rising (half xs ys a f) (half ys xs b (λ e row. sym (f e row)))
  where
    half : (xs ys : List EdgeRow) → AreCountedRows xs → ((e : ℕ) (row : Pairs) → count_at e row xs ≡ count_at e row ys) → (w : EdgeRow) → In w xs → In w ys
    half xs ys a f w h =
        let c : count_at w.0 w.1 ys ≡ w.2 = sym (f w.0 w.1) ∙ in_count xs a w h in
        let p : 0 < w.2 = a.positive w h in
        subst (λ n. In (w.0, w.1, n) ys) c (count_in w.0 w.1 ys (omega arith))

-- one count changed

pub in_with_count : (e : ℕ) (row : Pairs) (n : ℕ) (ws : List EdgeRow) (v : EdgeRow) → In v (with_count e row n ws) → ((v ≡ (e, row, n)) × (0 < n)) ⊎ (In v ws × (is_row_at e row v ≡ false))
in_with_count e row zero ws v h = let q : In v ws × (not (is_row_at e row v) ≡ true) = in_filter (λ w. not (is_row_at e row w)) v ws h in inr (q.0, not-true (is_row_at e row v) q.1)
in_with_count e row (suc n) ws v h =
    elim (in_put edge_row_cmp edge_row_order v (e, row, suc n) (filter (λ w. not (is_row_at e row w)) ws) h) [
      | inl q ↦ inl (q, omega arith)
      | inr m ↦ (let q : In v ws × (not (is_row_at e row v) ≡ true) = in_filter (λ w. not (is_row_at e row w)) v ws m in inr (q.0, not-true (is_row_at e row v) q.1))
    ]

pub with_count_new : (e : ℕ) (row : Pairs) (n : ℕ) (ws : List EdgeRow) → 0 < n → In (e, row, n) (with_count e row n ws)
with_count_new e row zero ws l = absurd (omega arith)
with_count_new e row (suc n) ws l = put_new edge_row_cmp edge_row_order (e, row, suc n) (filter (λ w. not (is_row_at e row w)) ws)

pub with_count_old : (e : ℕ) (row : Pairs) (n : ℕ) (ws : List EdgeRow) (v : EdgeRow) → In v ws → is_row_at e row v ≡ false → In v (with_count e row n ws)
with_count_old e row zero ws v h q = filter_in (λ w. not (is_row_at e row w)) v ws h (not_from_false (is_row_at e row v) q)
with_count_old e row (suc n) ws v h q = put_old edge_row_cmp edge_row_order v (e, row, suc n) (filter (λ w. not (is_row_at e row w)) ws) (filter_in (λ w. not (is_row_at e row w)) v ws h (not_from_false (is_row_at e row v) q))

pub rising_with_count : (e : ℕ) (row : Pairs) (n : ℕ) (ws : List EdgeRow) → IsRising edge_row_cmp ws → IsRising edge_row_cmp (with_count e row n ws)
rising_with_count e row zero ws a = rising_filter edge_row_cmp (λ w. not (is_row_at e row w)) ws a
rising_with_count e row (suc n) ws a = rising_put edge_row_cmp edge_row_order (e, row, suc n) (filter (λ w. not (is_row_at e row w)) ws) (rising_filter edge_row_cmp (λ w. not (is_row_at e row w)) ws a)

pub AreCountedRows-with_count : (e : ℕ) (row : Pairs) (n : ℕ) (ws : List EdgeRow) → AreCountedRows ws → AreCountedRows (with_count e row n ws)
AreCountedRows-with_count e row n ws a = record {
  rising = rising_with_count e row n ws a.rising;
  once = λ v w h k c d. once_go v w c d (in_with_count e row n ws v h) (in_with_count e row n ws w k);
  positive = λ w h. elim (in_with_count e row n ws w h) [ inl q ↦ subst (λ (z : EdgeRow). 0 < z.2) (sym q.0) q.1 | inr q ↦ a.positive w q.0 ];
}
  where
    apart : (v w : EdgeRow) → v.0 ≡ w.0 → v.1 ≡ w.1 → v ≡ (e, row, n) → is_row_at e row w ≡ false → ⊥
    apart v w c d q f = false≢true (sym f ∙ true_at e row w (sym c ∙ ap (λ (z : EdgeRow). z.0) q) (sym d ∙ ap (λ (z : EdgeRow). z.1) q))

    once_go : (v w : EdgeRow) → v.0 ≡ w.0 → v.1 ≡ w.1 → ((v ≡ (e, row, n)) × (0 < n)) ⊎ (In v ws × (is_row_at e row v ≡ false)) → ((w ≡ (e, row, n)) × (0 < n)) ⊎ (In w ws × (is_row_at e row w ≡ false)) → v ≡ w
    once_go v w c d (inl p) (inl q) = p.0 ∙ sym q.0
    once_go v w c d (inl p) (inr q) = absurd (apart v w c d p.0 q.1)
    once_go v w c d (inr p) (inl q) = absurd (apart w v (sym c) (sym d) q.0 p.1)
    once_go v w c d (inr p) (inr q) = a.once v w p.0 q.0 c d

pub count-with_count : (e : ℕ) (row : Pairs) (n : ℕ) (ws : List EdgeRow) → AreCountedRows ws → (f : ℕ) (other : Pairs) → count_at f other (with_count e row n ws) ≡ cond (is_row_at f other (e, row, n)) n (count_at f other ws)
count-with_count e row n ws a f other = go (is_row_at f other (e, row, n)) refl
  where
    all : AreCountedRows (with_count e row n ws)
    all = AreCountedRows-with_count e row n ws a

    here : (e ≡ f) → (row ≡ other) → (n ≡ 0) ⊎ (0 < n) → count_at f other (with_count e row n ws) ≡ n
    here p q (inl z) = count_none f other (with_count e row n ws) (λ w h c d. elim (in_with_count e row n ws w h)
        [ inl k ↦ (let l : 0 < n = k.1 in omega arith) | inr k ↦ false≢true (sym k.1 ∙ true_at e row w (c ∙ sym p) (d ∙ sym q)) ]) ∙ sym z
    here p q (inr l) = ap (λ z. count_at z other (with_count e row n ws)) (sym p) ∙ ap (λ z. count_at e z (with_count e row n ws)) (sym q) ∙ in_count (with_count e row n ws) all (e, row, n) (with_count_new e row n ws l)

    there : is_row_at f other (e, row, n) ≡ false → (count_at f other ws ≡ 0) ⊎ (0 < count_at f other ws) → count_at f other (with_count e row n ws) ≡ count_at f other ws
    there g (inl z) = count_none f other (with_count e row n ws) (λ w h c d. elim (in_with_count e row n ws w h) [
      | inl k ↦ false≢true (sym g ∙ true_at f other (e, row, n) (ap (λ (y : EdgeRow). y.0) (sym k.0) ∙ c) (ap (λ (y : EdgeRow). y.1) (sym k.0) ∙ d))
      | inr k ↦ (let p : 0 < w.2 = a.positive w k.0 in let m : count_at f other ws ≡ w.2 = ap (λ y. count_at y other ws) (sym c) ∙ ap (λ y. count_at w.0 y ws) (sym d) ∙ in_count ws a w k.0 in omega arith)
    ]) ∙ sym z
    there g (inr l) = in_count (with_count e row n ws) all (f, other, count_at f other ws)
        (with_count_old e row n ws (f, other, count_at f other ws) (count_in f other ws l) (not_true_false (is_row_at e row (f, other, count_at f other ws))
        (λ t. let k : (f ≡ e) × (other ≡ row) = at_true e row (f, other, count_at f other ws) t in false≢true (sym g ∙ true_at f other (e, row, n) (sym k.0) (sym k.1)))))
      where
        not_true_false : (b : Bool) → (b ≡ true → ⊥) → b ≡ false
        not_true_false true h = absurd (h refl)
        not_true_false false h = refl

    go : (b : Bool) → is_row_at f other (e, row, n) ≡ b → count_at f other (with_count e row n ws) ≡ cond b n (count_at f other ws)
    go true g = let k : (e ≡ f) × (row ≡ other) = at_true f other (e, row, n) g in here k.0 k.1 (zero_or_more n)
    go false g = there g (zero_or_more (count_at f other ws))

-- two counts that are set, of rows of two edges

-- a row of another edge
other_edge : (d e : ℕ) (u row : Pairs) (n : ℕ) → (d ≡ e → ⊥) → is_row_at d u (e, row, n) ≡ false
other_edge d e u row n apart = go (is_row_at d u (e, row, n)) refl
  where
    go : (b : Bool) → is_row_at d u (e, row, n) ≡ b → b ≡ false
    go true g = absurd (apart (sym (at_true d u (e, row, n) g).0))
    go false g = refl

count-apart : (d e : ℕ) (u row : Pairs) (n : ℕ) (ws : List EdgeRow) → AreCountedRows ws → (d ≡ e → ⊥) → count_at d u (with_count e row n ws) ≡ count_at d u ws
count-apart d e u row n ws a apart = count-with_count e row n ws a d u ∙ ap (λ b. cond b n (count_at d u ws)) (other_edge d e u row n apart)

with_count-apart : (d e : ℕ) (u row : Pairs) (m n : ℕ) (ws : List EdgeRow) → AreCountedRows ws → (d ≡ e → ⊥) → with_count d u m (with_count e row n ws) ≡ with_count e row n (with_count d u m ws)
with_count-apart d e u row m n ws a apart =
    let first : AreCountedRows (with_count d u m ws) = AreCountedRows-with_count d u m ws a in
    let second : AreCountedRows (with_count e row n ws) = AreCountedRows-with_count e row n ws a in
    same_counts (with_count d u m (with_count e row n ws)) (with_count e row n (with_count d u m ws))
    (AreCountedRows-with_count d u m (with_count e row n ws) second) (AreCountedRows-with_count e row n (with_count d u m ws) first)
    (λ x v. count-with_count d u m (with_count e row n ws) second x v
    ∙ ap (λ k. cond (is_row_at x v (d, u, m)) m k) (count-with_count e row n ws a x v)
    ∙ go x v (is_row_at x v (d, u, m)) (is_row_at x v (e, row, n)) refl refl
    ∙ sym (ap (λ k. cond (is_row_at x v (e, row, n)) n k) (count-with_count d u m ws a x v))
    ∙ sym (count-with_count e row n (with_count d u m ws) first x v))
  where
    go : (x : ℕ) (v : Pairs) (b c : Bool) → is_row_at x v (d, u, m) ≡ b → is_row_at x v (e, row, n) ≡ c → cond b m (cond c n (count_at x v ws)) ≡ cond c n (cond b m (count_at x v ws))
    go x v true true p q = absurd (apart ((at_true x v (d, u, m) p).0 ∙ sym (at_true x v (e, row, n) q).0))
    go x v true false p q = refl
    go x v false true p q = refl
    go x v false false p q = refl

-- changes of the counts of rows of two edges may be made in either order
pub recounts-apart : (f g : ℕ → ℕ) (d e : ℕ) (u row : Pairs) (ws : List EdgeRow) → AreCountedRows ws → (d ≡ e → ⊥)
    → with_count d u (f (count_at d u (with_count e row (g (count_at e row ws)) ws))) (with_count e row (g (count_at e row ws)) ws)
    ≡ with_count e row (g (count_at e row (with_count d u (f (count_at d u ws)) ws))) (with_count d u (f (count_at d u ws)) ws)
recounts-apart f g d e u row ws a apart =
    let m : ℕ = f (count_at d u ws) in
    let n : ℕ = g (count_at e row ws) in
    ap (λ k. with_count d u (f k) (with_count e row n ws)) (count-apart d e u row n ws a apart) ∙ with_count-apart d e u row m n ws a apart
    ∙ sym (ap (λ k. with_count e row (g k) (with_count d u m ws)) (count-apart e d row u m ws a (λ q. apart (sym q))))

-- a tuple's rows in some edges

pub hits : Spec → Pairs → ℕ → Pairs → List ℕ → ℕ
hits spec t e row [] = 0
hits spec t e row (x ∷ es) = cond (is_row_at e row (x, row_in spec t x, 0)) 1 0 + hits spec t e row es

pub AreCountedRows-all_raised : (spec : Spec) (t : Pairs) (es : List ℕ) (ws : List EdgeRow) → AreCountedRows ws → AreCountedRows (all_raised spec t es ws)
AreCountedRows-all_raised spec t [] ws a = a
AreCountedRows-all_raised spec t (x ∷ es) ws a = AreCountedRows-all_raised spec t es (raised x (row_in spec t x) ws) (AreCountedRows-with_count x (row_in spec t x) (suc (count_at x (row_in spec t x) ws)) ws a)

pub AreCountedRows-all_lowered : (spec : Spec) (t : Pairs) (es : List ℕ) (ws : List EdgeRow) → AreCountedRows ws → AreCountedRows (all_lowered spec t es ws)
AreCountedRows-all_lowered spec t [] ws a = a
AreCountedRows-all_lowered spec t (x ∷ es) ws a = AreCountedRows-all_lowered spec t es (lowered x (row_in spec t x) ws) (AreCountedRows-with_count x (row_in spec t x) (pred (count_at x (row_in spec t x) ws)) ws a)

count-raised : (x : ℕ) (u : Pairs) (ws : List EdgeRow) → AreCountedRows ws → (e : ℕ) (row : Pairs) → count_at e row (raised x u ws) ≡ count_at e row ws + cond (is_row_at e row (x, u, 0)) 1 0
count-raised x u ws a e row = count-with_count x u (suc (count_at x u ws)) ws a e row ∙ go (is_row_at e row (x, u, 0)) refl
  where
    go : (b : Bool) → is_row_at e row (x, u, 0) ≡ b → cond b (suc (count_at x u ws)) (count_at e row ws) ≡ count_at e row ws + cond b 1 0
    go true g =
        let k : (x ≡ e) × (u ≡ row) = at_true e row (x, u, 0) g in
        let c : count_at x u ws ≡ count_at e row ws = ap (λ z. count_at z u ws) k.0 ∙ ap (λ z. count_at e z ws) k.1 in omega arith
    go false g = omega arith

less_one : (m n : ℕ) → m ≡ n → pred m ≡ n - 1
less_one m n e = omega arith

count-lowered : (x : ℕ) (u : Pairs) (ws : List EdgeRow) → AreCountedRows ws → (e : ℕ) (row : Pairs) → count_at e row (lowered x u ws) ≡ count_at e row ws - cond (is_row_at e row (x, u, 0)) 1 0
count-lowered x u ws a e row = count-with_count x u (pred (count_at x u ws)) ws a e row ∙ go (is_row_at e row (x, u, 0)) refl
  where
    go : (b : Bool) → is_row_at e row (x, u, 0) ≡ b → cond b (pred (count_at x u ws)) (count_at e row ws) ≡ count_at e row ws - cond b 1 0
    go true g =
        let k : (x ≡ e) × (u ≡ row) = at_true e row (x, u, 0) g in
        let c : count_at x u ws ≡ count_at e row ws = ap (λ z. count_at z u ws) k.0 ∙ ap (λ z. count_at e z ws) k.1 in
        let d : pred (count_at x u ws) ≡ count_at e row ws - 1 = less_one (count_at x u ws) (count_at e row ws) c in d
    go false g = omega arith

-- a row that is there, taken out once and put back
pub raised-lowered : (e : ℕ) (row : Pairs) (n : ℕ) (ws : List EdgeRow) → AreCountedRows ws → In (e, row, n) ws → raised e row (lowered e row ws) ≡ ws
raised-lowered e row n ws a there =
    let low : AreCountedRows (lowered e row ws) = AreCountedRows-with_count e row (pred (count_at e row ws)) ws a in
    same_counts (raised e row (lowered e row ws)) ws (AreCountedRows-with_count e row (suc (count_at e row (lowered e row ws))) (lowered e row ws) low) a
    (λ x u. count-raised e row (lowered e row ws) low x u ∙ ap (λ k. k + cond (is_row_at x u (e, row, 0)) 1 0) (count-lowered e row ws a x u) ∙ go x u (is_row_at x u (e, row, 0)) refl)
  where
    some : 0 < count_at e row ws
    some = subst (λ k. 0 < k) (sym (in_count ws a (e, row, n) there)) (a.positive (e, row, n) there)

    go : (x : ℕ) (u : Pairs) (b : Bool) → is_row_at x u (e, row, 0) ≡ b → (count_at x u ws - cond b 1 0) + cond b 1 0 ≡ count_at x u ws
    go x u true g =
        let k : (e ≡ x) × (row ≡ u) = at_true x u (e, row, 0) g in
        let c : count_at e row ws ≡ count_at x u ws = ap (λ z. count_at z row ws) k.0 ∙ ap (λ z. count_at x z ws) k.1 in
        let l : 0 < count_at e row ws = some in omega arith
    go x u false g = omega arith

pub count-all_raised : (spec : Spec) (t : Pairs) (es : List ℕ) (ws : List EdgeRow) → AreCountedRows ws → (e : ℕ) (row : Pairs) → count_at e row (all_raised spec t es ws) ≡ count_at e row ws + hits spec t e row es
unfolding hits
count-all_raised spec t [] ws a e row = omega arith
count-all_raised spec t (x ∷ es) ws a e row =
    let ih : count_at e row (all_raised spec t es (raised x (row_in spec t x) ws)) ≡ count_at e row (raised x (row_in spec t x) ws) + hits spec t e row es =
    count-all_raised spec t es (raised x (row_in spec t x) ws) (AreCountedRows-with_count x (row_in spec t x) (suc (count_at x (row_in spec t x) ws)) ws a) e row in
    let one : count_at e row (raised x (row_in spec t x) ws) ≡ count_at e row ws + cond (is_row_at e row (x, row_in spec t x, 0)) 1 0 = count-raised x (row_in spec t x) ws a e row in
    omega arith

pub count-all_lowered : (spec : Spec) (t : Pairs) (es : List ℕ) (ws : List EdgeRow) → AreCountedRows ws → (e : ℕ) (row : Pairs) → count_at e row (all_lowered spec t es ws) ≡ count_at e row ws - hits spec t e row es
unfolding hits
count-all_lowered spec t [] ws a e row = omega arith
count-all_lowered spec t (x ∷ es) ws a e row =
    let ih : count_at e row (all_lowered spec t es (lowered x (row_in spec t x) ws)) ≡ count_at e row (lowered x (row_in spec t x) ws) - hits spec t e row es =
    count-all_lowered spec t es (lowered x (row_in spec t x) ws) (AreCountedRows-with_count x (row_in spec t x) (pred (count_at x (row_in spec t x) ws)) ws a) e row in
    let one : count_at e row (lowered x (row_in spec t x) ws) ≡ count_at e row ws - cond (is_row_at e row (x, row_in spec t x, 0)) 1 0 = count-lowered x (row_in spec t x) ws a e row in
    omega arith

hits_out : (spec : Spec) (t : Pairs) (e : ℕ) (row : Pairs) (k n : ℕ) → (k ≤ e → e < k + n → row_in spec t e ≡ row → ⊥) → hits spec t e row (range_with_len k n) ≡ 0
unfolding hits
hits_out spec t e row k zero f = refl
hits_out spec t e row k (suc n) f = go (is_row_at e row (k, row_in spec t k, 0)) refl (hits_out spec t e row (k + 1) n (λ a b c. f (omega arith) (omega arith) c))
  where
    go : (b : Bool) → is_row_at e row (k, row_in spec t k, 0) ≡ b → hits spec t e row (range_with_len (k + 1) n) ≡ 0 → cond b 1 0 + hits spec t e row (range_with_len (k + 1) n) ≡ 0
    go true g ih = let q : (k ≡ e) × (row_in spec t k ≡ row) = at_true e row (k, row_in spec t k, 0) g in absurd (f (omega arith) (omega arith) (ap (row_in spec t) (sym q.0) ∙ q.1))
    go false g ih = omega arith

hits_in : (spec : Spec) (t : Pairs) (e : ℕ) (row : Pairs) (k n : ℕ) → k ≤ e → e < k + n → row_in spec t e ≡ row → hits spec t e row (range_with_len k n) ≡ 1
unfolding hits
hits_in spec t e row k zero a b c = absurd (omega arith)
hits_in spec t e row k (suc n) a b c = elim (cases_eq k e) [
  | inl q ↦ (let g : is_row_at e row (k, row_in spec t k, 0) ≡ true = true_at e row (k, row_in spec t k, 0) q (ap (row_in spec t) q ∙ c) in
      let z : hits spec t e row (range_with_len (k + 1) n) ≡ 0 = hits_out spec t e row (k + 1) n (λ x y w. absurd (omega arith)) in
      ap (λ d. cond d 1 0 + hits spec t e row (range_with_len (k + 1) n)) g ∙ (omega arith))
  | inr q ↦ (let g : is_row_at e row (k, row_in spec t k, 0) ≡ false = not_at q in
      let z : hits spec t e row (range_with_len (k + 1) n) ≡ 1 = hits_in spec t e row (k + 1) n (omega arith) (omega arith) c in
      ap (λ d. cond d 1 0 + hits spec t e row (range_with_len (k + 1) n)) g ∙ (omega arith))
]
  where
    not_at : (k ≡ e → ⊥) → is_row_at e row (k, row_in spec t k, 0) ≡ false
    not_at q = go (is_row_at e row (k, row_in spec t k, 0)) refl
      where
        go : (b : Bool) → is_row_at e row (k, row_in spec t k, 0) ≡ b → b ≡ false
        go true g = absurd (q (at_true e row (k, row_in spec t k, 0) g).0)
        go false g = refl

-- fragments

some_filter : {A : Type 0} (p : A → Bool) (xs : List A) (x : A) → In x xs → p x ≡ true → 0 < length (filter p xs)
some_filter p xs x h e = go (filter p xs) (filter_in p x xs h e)
  where
    go : (ys : List _) → In x ys → 0 < length ys
    go [] h = absurd h
    go (y ∷ ys) h = omega arith

pub AreCountedRows-rows_on : (spec : Spec) (r : List Pairs) (stripes : List ℕ) → AreCountedRows (rows_on spec r stripes)
AreCountedRows-rows_on spec r stripes = record {
  rising = rising_fragments spec r stripes;
  once = λ v w h k c d.
      let p : IsEdgeRow spec r v = in_all_rows spec r v (in_fragments spec r stripes v h).0 in
      let q : IsEdgeRow spec r w = in_all_rows spec r w (in_fragments spec r stripes w k).0 in
      let n : v.2 ≡ w.2 = p.count ∙ ap (λ z. counted spec r z v.1) c ∙ ap (counted spec r w.0) d ∙ sym q.count in same_rows v w c d n;
  positive = λ w h.
      let q : IsEdgeRow spec r w = in_all_rows spec r w (in_fragments spec r stripes w h).0 in
      let l : 0 < counted spec r w.0 w.1 = some_filter (λ t. tuple_eq (project (bound spec (edge_at spec w.0).to) t) w.1) r q.projected.0 q.projected.1 (test_from_same (project (bound spec (edge_at spec w.0).to) q.projected.0) w.1 (sym q.projected.2)) in
      omega (arith, l, q.count);
}
  where
    same_rows : (v w : EdgeRow) → v.0 ≡ w.0 → v.1 ≡ w.1 → v.2 ≡ w.2 → v ≡ w
    same_rows v w c d n = λ i. (c i, d i, n i)

count-fragments_in : (spec : Spec) (r : List Pairs) (stripes : List ℕ) (e : ℕ) (row : Pairs) → e < length spec.edges → In (physical_stripe spec (class_of spec e) row) stripes → count_at e row (rows_on spec r stripes) ≡ counted spec r e row
count-fragments_in spec r stripes e row l h = elim (zero_or_more (counted spec r e row)) [ inl z ↦ none z | inr m ↦ some m ]
  where
    none : counted spec r e row ≡ 0 → count_at e row (rows_on spec r stripes) ≡ counted spec r e row
    none z = count_none e row (rows_on spec r stripes) (λ w k c d.
        let p : 0 < w.2 = (AreCountedRows-rows_on spec r stripes).positive w k in
        let q : IsEdgeRow spec r w = in_all_rows spec r w (in_fragments spec r stripes w k).0 in
        let m : w.2 ≡ 0 = q.count ∙ ap (λ y. counted spec r y w.1) c ∙ ap (counted spec r e) d ∙ z in omega arith) ∙ sym z

    pick_one : (ts : List Pairs) → 0 < length ts → (t : Pairs) × In t ts
    pick_one [] m = absurd (omega arith)
    pick_one (t ∷ ts) m = (t, inl refl)

    some : 0 < counted spec r e row → count_at e row (rows_on spec r stripes) ≡ counted spec r e row
    some m =
        let t : (t : Pairs) × In t (filter (λ t. tuple_eq (project (bound spec (edge_at spec e).to) t) row) r) = pick_one (filter (λ t. tuple_eq (project (bound spec (edge_at spec e).to) t) row) r) m in
        let f : In t.0 r × (tuple_eq (project (bound spec (edge_at spec e).to) t.0) row ≡ true) = in_filter (λ t. tuple_eq (project (bound spec (edge_at spec e).to) t) row) t.0 r t.1 in
        let is : project (bound spec (edge_at spec e).to) t.0 ≡ row = same_from_test (project (bound spec (edge_at spec e).to) t.0) row f.1 in
        let a : In (e, row, counted spec r e row) (all_rows spec r) = subst (λ z. In (e, z, counted spec r e z) (all_rows spec r)) is (all_rows_in spec r e t.0 l f.0) in
        in_count (rows_on spec r stripes) (AreCountedRows-rows_on spec r stripes) (e, row, counted spec r e row)
        (fragments_in spec r stripes (e, row, counted spec r e row) a h)

count-fragments_out : (spec : Spec) (r : List Pairs) (stripes : List ℕ) (e : ℕ) (row : Pairs) → (e < length spec.edges → In (physical_stripe spec (class_of spec e) row) stripes → ⊥) → count_at e row (rows_on spec r stripes) ≡ 0
count-fragments_out spec r stripes e row f = count_none e row (rows_on spec r stripes) (λ w k c d.
    let g : In w (all_rows spec r) × In (row_stripe spec w) stripes = in_fragments spec r stripes w k in
    let l : w.0 < length spec.edges = (in_all_rows spec r w g.0).edge in
    let p : In (physical_stripe spec (class_of spec e) row) stripes = subst (λ y. In (physical_stripe spec (class_of spec e) y) stripes) d (subst (λ y. In (physical_stripe spec (class_of spec y) w.1) stripes) c g.1) in
    f (omega arith) p)

-- one tuple more, one tuple less

put_count : (q : Pairs → Bool) (t : Pairs) (r : List Pairs) → (In t r → ⊥) → length (filter q (put tuple_cmp t r)) ≡ cond (q t) 1 0 + length (filter q r)
put_count q t [] out = one (q t)
  where
    one : (b : Bool) → length (cond b (t ∷ []) []) ≡ cond b 1 0 + 0
    one true = omega arith
    one false = omega arith
put_count q t (x ∷ r) out = go (tuple_cmp t x) refl (put_count q t r (λ h. out (inr h)))
  where
    more : (b : Bool) (y : Pairs) (ys : List Pairs) → length (cond b (y ∷ ys) ys) ≡ cond b 1 0 + length ys
    more true y ys = omega arith
    more false y ys = omega arith

    go : (o : Ordering) → tuple_cmp t x ≡ o → length (filter q (put tuple_cmp t r)) ≡ cond (q t) 1 0 + length (filter q r)
        → length (filter q (match_ordering o (t ∷ (x ∷ r)) (x ∷ r) (x ∷ put tuple_cmp t r))) ≡ cond (q t) 1 0 + length (filter q (x ∷ r))
    go Less e ih = more (q t) t (filter q (x ∷ r))
    go Equal e ih = absurd (out (inl (tuple_order.ties t x e)))
    go Greater e ih =
        let a : length (filter q (x ∷ put tuple_cmp t r)) ≡ cond (q x) 1 0 + length (filter q (put tuple_cmp t r)) = more (q x) x (filter q (put tuple_cmp t r)) in
        let b : length (filter q (x ∷ r)) ≡ cond (q x) 1 0 + length (filter q r) = more (q x) x (filter q r) in omega arith

-- the relation without a tuple

pub without_none : (t : Pairs) (r : List Pairs) → (In t r → ⊥) → without t r ≡ r
without_none t [] out = refl
without_none t (x ∷ r) out = go (tuple_eq x t) refl (without_none t r (λ h. out (inr h)))
  where
    go : (b : Bool) → tuple_eq x t ≡ b → without t r ≡ r → cond (not b) (x ∷ without t r) (without t r) ≡ x ∷ r
    go true e ih = absurd (out (inl (sym (same_from_test x t e))))
    go false e ih = ap (λ z. x ∷ z) ih

without_count : (q : Pairs → Bool) (t : Pairs) (r : List Pairs) → IsRising tuple_cmp r → In t r → length (filter q r) ≡ cond (q t) 1 0 + length (filter q (without t r))
without_count q t [] a h = absurd h
without_count q t (x ∷ r) a h = go (tuple_eq x t) refl h (λ k. without_count q t r a.1 k)
  where
    more : (b : Bool) (y : Pairs) (ys : List Pairs) → length (cond b (y ∷ ys) ys) ≡ cond b 1 0 + length ys
    more true y ys = omega arith
    more false y ys = omega arith

    go : (b : Bool) → tuple_eq x t ≡ b → In t (x ∷ r) → (In t r → length (filter q r) ≡ cond (q t) 1 0 + length (filter q (without t r)))
        → length (filter q (x ∷ r)) ≡ cond (q t) 1 0 + length (filter q (cond (not b) (x ∷ without t r) (without t r)))
    go true e m ih =
        let s : x ≡ t = same_from_test x t e in
        let n : without t r ≡ r = without_none t r (λ k. not_below_itself tuple_cmp tuple_order x x (subst (λ z. tuple_cmp x z ≡ Less) (sym s) (a.0 t k)) (subst (λ z. tuple_cmp x z ≡ Less) (sym s) (a.0 t k))) in
        more (q x) x (filter q r) ∙ ap (λ z. cond (q z) 1 0 + length (filter q r)) s ∙ ap (λ z. cond (q t) 1 0 + length (filter q z)) (sym n)
    go false e (inl m) ih = absurd (false≢true (sym e ∙ test_from_same x t (sym m)))
    go false e (inr m) ih =
        let c : length (filter q r) ≡ cond (q t) 1 0 + length (filter q (without t r)) = ih m in
        let d : length (filter q (x ∷ r)) ≡ cond (q x) 1 0 + length (filter q r) = more (q x) x (filter q r) in
        let f : length (filter q (x ∷ without t r)) ≡ cond (q x) 1 0 + length (filter q (without t r)) = more (q x) x (filter q (without t r)) in omega arith

-- all rows of a tuple fall on stripes stripes
abbrev pub AllHeld : Spec → List ℕ → Pairs → Type 0
AllHeld spec stripes t = (e : ℕ) → e < length spec.edges → In (physical_stripe spec (class_of spec e) (row_in spec t e)) stripes

held_cases : (spec : Spec) (stripes : List ℕ) (e : ℕ) (row : Pairs) → ((e < length spec.edges) × In (physical_stripe spec (class_of spec e) row) stripes) ⊎ (e < length spec.edges → In (physical_stripe spec (class_of spec e) row) stripes → ⊥)
held_cases spec stripes e row = elim (cases_lt e (length spec.edges)) [
  | inl l ↦ elim (cases_Bool (has stripes (physical_stripe spec (class_of spec e) row))) [
    | inl h ↦ inl (l, in_has stripes (physical_stripe spec (class_of spec e) row) h)
    | inr g ↦ inr (λ m k. false≢true (sym g ∙ has_in stripes (physical_stripe spec (class_of spec e) row) k))
  ]
  | inr l ↦ inr (λ m k. absurd (omega arith))
]

hits_cond : (spec : Spec) (t : Pairs) (e : ℕ) (row : Pairs) → e < length spec.edges → hits spec t e row (edge_numbers spec) ≡ cond (tuple_eq (row_in spec t e) row) 1 0
hits_cond spec t e row l = go (tuple_eq (row_in spec t e) row) refl
  where
    go : (b : Bool) → tuple_eq (row_in spec t e) row ≡ b → hits spec t e row (edge_numbers spec) ≡ cond b 1 0
    go true g = hits_in spec t e row 0 (length spec.edges) (omega arith) (omega arith) (same_from_test (row_in spec t e) row g)
    go false g = hits_out spec t e row 0 (length spec.edges) (λ a b c. false≢true (sym g ∙ test_from_same (row_in spec t e) row c))

no_hits : (spec : Spec) (stripes : List ℕ) (t : Pairs) (e : ℕ) (row : Pairs) → AllHeld spec stripes t → (e < length spec.edges → In (physical_stripe spec (class_of spec e) row) stripes → ⊥) → hits spec t e row (edge_numbers spec) ≡ 0
no_hits spec stripes t e row a f = hits_out spec t e row 0 (length spec.edges)
    (λ x y c. let l : e < length spec.edges = omega arith in f l (subst (λ z. In (physical_stripe spec (class_of spec e) z) stripes) c (a e l)))

-- what an insert leaves on the stripes stripes
pub with_rows-fragments : (spec : Spec) (r : List Pairs) (stripes : List ℕ) (t : Pairs) → (In t r → ⊥) → AllHeld spec stripes t
    → with_rows spec t (rows_on spec r stripes) ≡ rows_on spec (put tuple_cmp t r) stripes
with_rows-fragments spec r stripes t out a =
    same_counts (with_rows spec t (rows_on spec r stripes)) (rows_on spec (put tuple_cmp t r) stripes)
    (AreCountedRows-all_raised spec t (edge_numbers spec) (rows_on spec r stripes) (AreCountedRows-rows_on spec r stripes)) (AreCountedRows-rows_on spec (put tuple_cmp t r) stripes)
    (λ e row. go e row (held_cases spec stripes e row))
  where
    go : (e : ℕ) (row : Pairs) → ((e < length spec.edges) × In (physical_stripe spec (class_of spec e) row) stripes) ⊎ (e < length spec.edges → In (physical_stripe spec (class_of spec e) row) stripes → ⊥)
        → count_at e row (with_rows spec t (rows_on spec r stripes)) ≡ count_at e row (rows_on spec (put tuple_cmp t r) stripes)
    go e row (inl h) =
        let x : count_at e row (with_rows spec t (rows_on spec r stripes)) ≡ count_at e row (rows_on spec r stripes) + hits spec t e row (edge_numbers spec) =
        count-all_raised spec t (edge_numbers spec) (rows_on spec r stripes) (AreCountedRows-rows_on spec r stripes) e row in
        let c : count_at e row (rows_on spec r stripes) ≡ counted spec r e row = count-fragments_in spec r stripes e row h.0 h.1 in
        let d : count_at e row (rows_on spec (put tuple_cmp t r) stripes) ≡ counted spec (put tuple_cmp t r) e row = count-fragments_in spec (put tuple_cmp t r) stripes e row h.0 h.1 in
        let n : hits spec t e row (edge_numbers spec) ≡ cond (tuple_eq (row_in spec t e) row) 1 0 = hits_cond spec t e row h.0 in
        let m : counted spec (put tuple_cmp t r) e row ≡ cond (tuple_eq (row_in spec t e) row) 1 0 + counted spec r e row = put_count (λ u. tuple_eq (row_in spec u e) row) t r out in
        omega arith
    go e row (inr f) =
        let x : count_at e row (with_rows spec t (rows_on spec r stripes)) ≡ count_at e row (rows_on spec r stripes) + hits spec t e row (edge_numbers spec) =
        count-all_raised spec t (edge_numbers spec) (rows_on spec r stripes) (AreCountedRows-rows_on spec r stripes) e row in
        let c : count_at e row (rows_on spec r stripes) ≡ 0 = count-fragments_out spec r stripes e row f in
        let d : count_at e row (rows_on spec (put tuple_cmp t r) stripes) ≡ 0 = count-fragments_out spec (put tuple_cmp t r) stripes e row f in
        let n : hits spec t e row (edge_numbers spec) ≡ 0 = no_hits spec stripes t e row a f in
        omega arith

-- what a remove leaves on the stripes stripes
pub without_rows-fragments : (spec : Spec) (r : List Pairs) (stripes : List ℕ) (t : Pairs) → IsRising tuple_cmp r → In t r → AllHeld spec stripes t
    → without_rows spec t (rows_on spec r stripes) ≡ rows_on spec (without t r) stripes
without_rows-fragments spec r stripes t up inside a =
    same_counts (without_rows spec t (rows_on spec r stripes)) (rows_on spec (without t r) stripes)
    (AreCountedRows-all_lowered spec t (edge_numbers spec) (rows_on spec r stripes) (AreCountedRows-rows_on spec r stripes)) (AreCountedRows-rows_on spec (without t r) stripes)
    (λ e row. go e row (held_cases spec stripes e row))
  where
    go : (e : ℕ) (row : Pairs) → ((e < length spec.edges) × In (physical_stripe spec (class_of spec e) row) stripes) ⊎ (e < length spec.edges → In (physical_stripe spec (class_of spec e) row) stripes → ⊥)
        → count_at e row (without_rows spec t (rows_on spec r stripes)) ≡ count_at e row (rows_on spec (without t r) stripes)
    go e row (inl h) =
        let x : count_at e row (without_rows spec t (rows_on spec r stripes)) ≡ count_at e row (rows_on spec r stripes) - hits spec t e row (edge_numbers spec) =
        count-all_lowered spec t (edge_numbers spec) (rows_on spec r stripes) (AreCountedRows-rows_on spec r stripes) e row in
        let c : count_at e row (rows_on spec r stripes) ≡ counted spec r e row = count-fragments_in spec r stripes e row h.0 h.1 in
        let d : count_at e row (rows_on spec (without t r) stripes) ≡ counted spec (without t r) e row = count-fragments_in spec (without t r) stripes e row h.0 h.1 in
        let n : hits spec t e row (edge_numbers spec) ≡ cond (tuple_eq (row_in spec t e) row) 1 0 = hits_cond spec t e row h.0 in
        let m : counted spec r e row ≡ cond (tuple_eq (row_in spec t e) row) 1 0 + counted spec (without t r) e row = without_count (λ u. tuple_eq (row_in spec u e) row) t r up inside in
        omega arith
    go e row (inr f) =
        let x : count_at e row (without_rows spec t (rows_on spec r stripes)) ≡ count_at e row (rows_on spec r stripes) - hits spec t e row (edge_numbers spec) =
        count-all_lowered spec t (edge_numbers spec) (rows_on spec r stripes) (AreCountedRows-rows_on spec r stripes) e row in
        let c : count_at e row (rows_on spec r stripes) ≡ 0 = count-fragments_out spec r stripes e row f in
        let d : count_at e row (rows_on spec (without t r) stripes) ≡ 0 = count-fragments_out spec (without t r) stripes e row f in
        omega arith

-- a stripe on which no row of the tuple falls keeps its rows

apart_here : (spec : Spec) (ns : List ℕ) (p : ℕ) (t : Pairs) (e : ℕ) (row : Pairs) → AllHeld spec ns t → (In p ns → ⊥) → e < length spec.edges → In (physical_stripe spec (class_of spec e) row) (p ∷ []) → tuple_eq (row_in spec t e) row ≡ false
apart_here spec ns p t e row a out l h = go (tuple_eq (row_in spec t e) row) refl
  where
    go : (b : Bool) → tuple_eq (row_in spec t e) row ≡ b → b ≡ false
    go true g = absurd (elim h [
      | inl q ↦ out (subst (λ z. In z ns) q (subst (λ z. In (physical_stripe spec (class_of spec e) z) ns) (same_from_test (row_in spec t e) row g) (a e l)))
      | inr z ↦ z
    ])
    go false g = refl

fragment_same : (spec : Spec) (r r' : List Pairs) (p : ℕ) → ((e : ℕ) (row : Pairs) → e < length spec.edges → In (physical_stripe spec (class_of spec e) row) (p ∷ []) → counted spec r' e row ≡ counted spec r e row)
    → fragment_of spec r' p ≡ fragment_of spec r p
fragment_same spec r r' p f =
    same_counts (rows_on spec r' (p ∷ [])) (rows_on spec r (p ∷ [])) (AreCountedRows-rows_on spec r' (p ∷ [])) (AreCountedRows-rows_on spec r (p ∷ []))
    (λ e row. elim (held_cases spec (p ∷ []) e row) [
      | inl h ↦ count-fragments_in spec r' (p ∷ []) e row h.0 h.1 ∙ f e row h.0 h.1 ∙ sym (count-fragments_in spec r (p ∷ []) e row h.0 h.1)
      | inr g ↦ count-fragments_out spec r' (p ∷ []) e row g ∙ sym (count-fragments_out spec r (p ∷ []) e row g)
    ])

pub fragment_of-insert : (spec : Spec) (r : List Pairs) (ns : List ℕ) (t : Pairs) → (In t r → ⊥) → AllHeld spec ns t → (p : ℕ) → (In p ns → ⊥) → fragment_of spec (put tuple_cmp t r) p ≡ fragment_of spec r p
fragment_of-insert spec r ns t out a p gone = fragment_same spec r (put tuple_cmp t r) p (λ e row l h.
    put_count (λ u. tuple_eq (row_in spec u e) row) t r out ∙ ap (λ b. cond b 1 0 + counted spec r e row) (apart_here spec ns p t e row a gone l h) ∙ zero-add (counted spec r e row))

pub fragment_of-remove : (spec : Spec) (r : List Pairs) (ns : List ℕ) (t : Pairs) → IsRising tuple_cmp r → In t r → AllHeld spec ns t → (p : ℕ) → (In p ns → ⊥) → fragment_of spec (without t r) p ≡ fragment_of spec r p
fragment_of-remove spec r ns t up inside a p gone = fragment_same spec r (without t r) p (λ e row l h.
    sym (without_count (λ u. tuple_eq (row_in spec u e) row) t r up inside ∙ ap (λ b. cond b 1 0 + counted spec (without t r) e row) (apart_here spec ns p t e row a gone l h) ∙ zero-add (counted spec (without t r) e row)))

-- ---- what was done, taken back

pub without_put : (t : Pairs) (r : List Pairs) → IsRising tuple_cmp r → (In t r → ⊥) → without t (put tuple_cmp t r) ≡ r
without_put t r up out =
    same_rising tuple_cmp tuple_order (without t (put tuple_cmp t r)) r (rising_filter tuple_cmp (λ u. not (tuple_eq u t)) (put tuple_cmp t r) (rising_put tuple_cmp tuple_order t r up)) up
    (λ u m.
    let q : In u (put tuple_cmp t r) × (not (tuple_eq u t) ≡ true) = in_filter (λ u. not (tuple_eq u t)) u (put tuple_cmp t r) m in
    elim (in_put tuple_cmp tuple_order u t r q.0) [ inl e ↦ absurd (false≢true (sym (not-true (tuple_eq u t) q.1) ∙ test_from_same u t e)) | inr n ↦ n ])
    (λ u m. filter_in (λ u. not (tuple_eq u t)) u (put tuple_cmp t r) (put_old tuple_cmp tuple_order u t r m) (not_from_false (tuple_eq u t) (other u m)))
  where
    other : (u : Pairs) → In u r → tuple_eq u t ≡ false
    other u m = go (tuple_eq u t) refl
      where
        go : (b : Bool) → tuple_eq u t ≡ b → b ≡ false
        go true e = absurd (out (subst (λ z. In z r) (same_from_test u t e) m))
        go false e = refl

pub put_without : (t : Pairs) (r : List Pairs) → IsRising tuple_cmp r → In t r → put tuple_cmp t (without t r) ≡ r
put_without t r up inside =
    same_rising tuple_cmp tuple_order (put tuple_cmp t (without t r)) r (rising_put tuple_cmp tuple_order t (without t r) (rising_filter tuple_cmp (λ u. not (tuple_eq u t)) r up)) up
    (λ u m. elim (in_put tuple_cmp tuple_order u t (without t r) m) [
      | inl e ↦ subst (λ z. In z r) (sym e) inside
      | inr n ↦ (in_filter (λ u. not (tuple_eq u t)) u r n).0
    ])
    (λ u m. elim (cases_Bool (tuple_eq u t)) [
      | inl e ↦ subst (λ z. In z (put tuple_cmp t (without t r))) (sym (same_from_test u t e)) (put_new tuple_cmp tuple_order t (without t r))
      | inr e ↦ put_old tuple_cmp tuple_order u t (without t r) (filter_in (λ u. not (tuple_eq u t)) u r m (not_from_false (tuple_eq u t) e))
    ])

pub not_without : (t : Pairs) (r : List Pairs) → In t (without t r) → ⊥
not_without t r m =
    let q : In t r × (not (tuple_eq t t) ≡ true) = in_filter (λ u. not (tuple_eq u t)) t r m in
    false≢true (sym (not-true (tuple_eq t t) q.1) ∙ test_from_same t t refl)

-- the rows of an inserted tuple taken out
pub without_rows-with : (spec : Spec) (r : List Pairs) (stripes : List ℕ) (t : Pairs) → IsRising tuple_cmp r → (In t r → ⊥) → AllHeld spec stripes t
    → without_rows spec t (rows_on spec (put tuple_cmp t r) stripes) ≡ rows_on spec r stripes
without_rows-with spec r stripes t up out a =
    without_rows-fragments spec (put tuple_cmp t r) stripes t (rising_put tuple_cmp tuple_order t r up) (put_new tuple_cmp tuple_order t r) a
    ∙ ap (λ z. rows_on spec z stripes) (without_put t r up out)

-- those of a removed tuple put back
pub with_rows-without : (spec : Spec) (r : List Pairs) (stripes : List ℕ) (t : Pairs) → IsRising tuple_cmp r → In t r → AllHeld spec stripes t
    → with_rows spec t (rows_on spec (without t r) stripes) ≡ rows_on spec r stripes
with_rows-without spec r stripes t up inside a =
    with_rows-fragments spec (without t r) stripes t (not_without t r) a ∙ ap (λ z. rows_on spec z stripes) (put_without t r up inside)
