-- Laws of implied rows: they are counted, and what a change of a row does to them.
use Rattle.std.specs.Prelude.{◌≡◌, ℕ, zero, suc, pred, ◌+◌, ◌-◌, ◌<◌, ◌==◌, ◌&&◌, Bool, true, false, List, [], ◌∷◌, ◌++◌, ◌⊎◌, cond, filter, map, not}
use Rattle.rc_fragment.specs.Imports.{Ordering, Less, Equal, Greater, match_ordering, In, put, not_below_itself, same_rising, rising_filter, rising_gather, in_gather, gather_in, in_filter, filter_in, in_map, map_in, in_append, append_in_left, append_in_right, Pairs, project, tuple_eq, same_from_test, test_from_same, is_row_at, count_at, with_count, raised, lowered, AreCountedRows, AreCountedRows-with_count, in_count, count_none, same_counts, count-with_count, EdgeRow, edge_row_cmp, tuples_of_edge, edge_row_order, in_tuples_of_edge, tuples_of_edge_in}
use Rattle.std.proofs.Common.{inl, inr, refl, sym, ap, subst, ◌∙◌, arith}
use Rattle.std.proofs.lemmas.Bool.{false≢true, eqb-true, eq-eqb, and_parts, and_from, not_from_false, not-true}
use Rattle.rc_fragment.specs.Implied.{Implied, AreImplications, NumberedRow, hits, implied_rows, is_under, lowered_all, raised_all, share, total, unders, with_all, with_implied}

-- a row of the lower edge that projects on the tuple
abbrev pub IsBelow : Implied → Pairs → EdgeRow → Type 0
IsBelow i t w = (w.0 ≡ i.lower) × (project i.columns w.1 ≡ t)

zero_or_more : (n : ℕ) → (n ≡ 0) ⊎ (0 < n)
zero_or_more zero = inl refl
zero_or_more (suc n) = inr (omega arith)

at_true : (e : ℕ) (row : Pairs) (w : EdgeRow) → is_row_at e row w ≡ true → (w.0 ≡ e) × (w.1 ≡ row)
at_true e row w h = let q : ((w.0 == e) ≡ true) × (tuple_eq w.1 row ≡ true) = and_parts (w.0 == e) (tuple_eq w.1 row) h in (eqb-true w.0 e q.0, same_from_test w.1 row q.1)

true_at : (e : ℕ) (row : Pairs) (w : EdgeRow) → w.0 ≡ e → w.1 ≡ row → is_row_at e row w ≡ true
true_at e row w a b = and_from (w.0 == e) (tuple_eq w.1 row) (eq-eqb w.0 e a) (test_from_same w.1 row b)

-- a count above 0 is that of a row
pub count_in : (e : ℕ) (row : Pairs) (ws : List EdgeRow) → 0 < count_at e row ws → In (e, row, count_at e row ws) ws
count_in e row [] h = absurd (omega arith)
count_in e row (w ∷ ws) h = go (is_row_at e row w) refl h (count_in e row ws)
  where
    same : (n : ℕ) → w.0 ≡ e → w.1 ≡ row → w.2 ≡ n → w ≡ (e, row, n)
    same n a b c = λ i. (a i, b i, c i)

    go : (b : Bool) → is_row_at e row w ≡ b → 0 < cond b w.2 (count_at e row ws) → (0 < count_at e row ws → In (e, row, count_at e row ws) ws) → In (e, row, cond b w.2 (count_at e row ws)) (w ∷ ws)
    go true q l ih = let k : (w.0 ≡ e) × (w.1 ≡ row) = at_true e row w q in inl (sym (same w.2 k.0 k.1 refl))
    go false q l ih = inr (ih l)

-- what a total above 0 comes from
pub total_some : (i : Implied) (t : Pairs) (ws : List EdgeRow) → 0 < total i t ws → (w : EdgeRow) × In w ws × IsBelow i t w
total_some i t [] l = absurd (omega arith)
total_some i t (w ∷ ws) l = go (w.0 == i.lower && tuple_eq (project i.columns w.1) t) refl l (total_some i t ws)
  where
    go : (b : Bool) → (w.0 == i.lower && tuple_eq (project i.columns w.1) t) ≡ b → 0 < cond b w.2 0 + total i t ws
        → (0 < total i t ws → (v : EdgeRow) × In v ws × IsBelow i t v) → (v : EdgeRow) × In v (w ∷ ws) × IsBelow i t v
    go true q l ih =
        let p : ((w.0 == i.lower) ≡ true) × (tuple_eq (project i.columns w.1) t ≡ true) = and_parts (w.0 == i.lower) (tuple_eq (project i.columns w.1) t) q in
        (w, inl refl, (eqb-true w.0 i.lower p.0, same_from_test (project i.columns w.1) t p.1))
    go false q l ih = let m : (v : EdgeRow) × In v ws × IsBelow i t v = ih (omega arith) in (m.0, inr m.1, m.2)

share_below : (i : Implied) (t : Pairs) (w : EdgeRow) → IsBelow i t w → share i t w ≡ w.2
share_below i t w b = ap (λ c. cond c w.2 0) (and_from (w.0 == i.lower) (tuple_eq (project i.columns w.1) t) (eq-eqb w.0 i.lower b.0) (test_from_same (project i.columns w.1) t b.1))

-- a row below makes the total no less than its count
pub total_below : (i : Implied) (t : Pairs) (ws : List EdgeRow) (w : EdgeRow) → In w ws → IsBelow i t w → 0 < w.2 → 0 < total i t ws
total_below i t [] w m b l = absurd m
total_below i t (v ∷ ws) w (inl q) b l =
    let s : share i t v ≡ w.2 = sym (ap (share i t) q) ∙ share_below i t w b in omega arith
total_below i t (v ∷ ws) w (inr m) b l = let ih : 0 < total i t ws = total_below i t ws w m b l in omega arith

-- ---- the rows with those that are implied

-- an implied row, with its total and a row below it
abbrev pub IsUpper : Implied → List EdgeRow → EdgeRow → Type 0
IsUpper i ws v = (v.0 ≡ i.upper) × (v.2 ≡ total i v.1 ws) × ((w : EdgeRow) × In w ws × IsBelow i v.1 w)

pub in_with_implied : (i : Implied) (ws : List EdgeRow) (v : EdgeRow) → In v (with_implied i ws) → IsUpper i ws v ⊎ (In v ws × ((v.0 == i.upper) ≡ false))
in_with_implied i ws v m =
    elim (in_append v (implied_rows i ws) (filter (λ w. not (w.0 == i.upper)) ws) (in_gather edge_row_cmp edge_row_order v (implied_rows i ws ++ filter (λ w. not (w.0 == i.upper)) ws) m)) [
      | inl k ↦ inl (from k)
      | inr k ↦ (let q : In v ws × (not (v.0 == i.upper) ≡ true) = in_filter (λ w. not (w.0 == i.upper)) v ws k in inr (q.0, not-true (v.0 == i.upper) q.1))
    ]
  where
    from : In v (implied_rows i ws) → IsUpper i ws v
    from k =
        let x : (t : Pairs) × In t (map (project i.columns) (tuples_of_edge i.lower ws)) × (v ≡ (i.upper, t, total i t ws)) =
        in_map (λ t. (i.upper, t, total i t ws)) v (map (project i.columns) (tuples_of_edge i.lower ws)) k in
        let y : (u : Pairs) × In u (tuples_of_edge i.lower ws) × (x.0 ≡ project i.columns u) = in_map (project i.columns) x.0 (tuples_of_edge i.lower ws) x.1 in
        let z : (w : EdgeRow) × In w ws × (w.0 ≡ i.lower) × (y.0 ≡ w.1) = in_tuples_of_edge i.lower ws y.0 y.1 in
        let n : v.1 ≡ x.0 = ap (λ (q : EdgeRow). q.1) x.2 in (
          ap (λ (q : EdgeRow). q.0) x.2,
          ap (λ (q : EdgeRow). q.2) x.2 ∙ sym (ap (λ q. total i q ws) n),
          (z.0, z.1, (z.2, ap (project i.columns) (sym z.3) ∙ sym y.2 ∙ sym n)),
        )

pub upper_in : (i : Implied) (ws : List EdgeRow) (t : Pairs) (w : EdgeRow) → In w ws → IsBelow i t w → In (i.upper, t, total i t ws) (with_implied i ws)
upper_in i ws t w m b =
    gather_in edge_row_cmp edge_row_order (i.upper, t, total i t ws) (implied_rows i ws ++ filter (λ w. not (w.0 == i.upper)) ws)
    (append_in_left (i.upper, t, total i t ws) (implied_rows i ws) (filter (λ w. not (w.0 == i.upper)) ws)
    (map_in (λ t. (i.upper, t, total i t ws)) t (map (project i.columns) (tuples_of_edge i.lower ws))
    (subst (λ s. In s (map (project i.columns) (tuples_of_edge i.lower ws))) b.1
    (map_in (project i.columns) w.1 (tuples_of_edge i.lower ws) (tuples_of_edge_in i.lower ws w m b.0)))))

pub other_in : (i : Implied) (ws : List EdgeRow) (v : EdgeRow) → In v ws → (v.0 == i.upper) ≡ false → In v (with_implied i ws)
other_in i ws v m f =
    gather_in edge_row_cmp edge_row_order v (implied_rows i ws ++ filter (λ w. not (w.0 == i.upper)) ws)
    (append_in_right v (implied_rows i ws) (filter (λ w. not (w.0 == i.upper)) ws)
    (filter_in (λ w. not (w.0 == i.upper)) v ws m (not_from_false (v.0 == i.upper) f)))

pub AreCountedRows-with_implied : (i : Implied) (ws : List EdgeRow) → AreCountedRows ws → AreCountedRows (with_implied i ws)
AreCountedRows-with_implied i ws a = record {
  rising = rising_gather edge_row_cmp edge_row_order (implied_rows i ws ++ filter (λ w. not (w.0 == i.upper)) ws);
  once = λ v w m n p q. once v w p q (in_with_implied i ws v m) (in_with_implied i ws w n);
  positive = λ w m. positive w (in_with_implied i ws w m);
}
  where
    once : (v w : EdgeRow) → v.0 ≡ w.0 → v.1 ≡ w.1 → IsUpper i ws v ⊎ (In v ws × ((v.0 == i.upper) ≡ false)) → IsUpper i ws w ⊎ (In w ws × ((w.0 == i.upper) ≡ false)) → v ≡ w
    once v w p q (inl x) (inl y) = same p q (x.1 ∙ ap (λ t. total i t ws) q ∙ sym y.1)
      where
        same : v.0 ≡ w.0 → v.1 ≡ w.1 → v.2 ≡ w.2 → v ≡ w
        same a b c = λ j. (a j, b j, c j)
    once v w p q (inl x) (inr y) = absurd (false≢true (sym y.1 ∙ eq-eqb w.0 i.upper (sym p ∙ x.0)))
    once v w p q (inr x) (inl y) = absurd (false≢true (sym x.1 ∙ eq-eqb v.0 i.upper (p ∙ y.0)))
    once v w p q (inr x) (inr y) = a.once v w x.0 y.0 p q

    positive : (w : EdgeRow) → IsUpper i ws w ⊎ (In w ws × ((w.0 == i.upper) ≡ false)) → 0 < w.2
    positive w (inl x) = subst (λ n. 0 < n) (sym x.1) (total_below i w.1 ws x.2.0 x.2.1 x.2.2 (a.positive x.2.0 x.2.1))
    positive w (inr x) = a.positive w x.0

-- the counts with the implied rows
pub count-with_implied : (i : Implied) (ws : List EdgeRow) → AreCountedRows ws → (e : ℕ) (t : Pairs)
    → count_at e t (with_implied i ws) ≡ cond (e == i.upper) (total i t ws) (count_at e t ws)
count-with_implied i ws a e t = go (e == i.upper) refl
  where
    all : AreCountedRows (with_implied i ws)
    all = AreCountedRows-with_implied i ws a

    upper : (n : ℕ) → total i t ws ≡ n → (n ≡ 0) ⊎ (0 < n) → e ≡ i.upper → count_at e t (with_implied i ws) ≡ n
    upper n q (inl z) p = count_none e t (with_implied i ws) (λ w m c d. no w c d m (in_with_implied i ws w m)) ∙ sym z
      where
        no : (w : EdgeRow) → w.0 ≡ e → w.1 ≡ t → In w (with_implied i ws) → IsUpper i ws w ⊎ (In w ws × ((w.0 == i.upper) ≡ false)) → ⊥
        no w c d m (inl x) =
            let l : 0 < w.2 = all.positive w m in let k : w.2 ≡ 0 = x.1 ∙ ap (λ t. total i t ws) d ∙ q ∙ z in omega arith
        no w c d m (inr x) = false≢true (sym x.1 ∙ eq-eqb w.0 i.upper (c ∙ p))
    upper n q (inr l) p =
        let s : (w : EdgeRow) × In w ws × IsBelow i t w = total_some i t ws (subst (λ k. 0 < k) (sym q) l) in
        ap (λ k. count_at k t (with_implied i ws)) p ∙ in_count (with_implied i ws) all (i.upper, t, total i t ws) (upper_in i ws t s.0 s.1 s.2) ∙ q

    other : (e == i.upper) ≡ false → (n : ℕ) → count_at e t ws ≡ n → (n ≡ 0) ⊎ (0 < n) → count_at e t (with_implied i ws) ≡ n
    other f n q (inl z) = count_none e t (with_implied i ws) (λ w m c d. no w c d (in_with_implied i ws w m)) ∙ sym z
      where
        no : (w : EdgeRow) → w.0 ≡ e → w.1 ≡ t → IsUpper i ws w ⊎ (In w ws × ((w.0 == i.upper) ≡ false)) → ⊥
        no w c d (inl x) = false≢true (sym f ∙ eq-eqb e i.upper (sym c ∙ x.0))
        no w c d (inr x) =
            let l : 0 < w.2 = a.positive w x.0 in
            let k : count_at e t ws ≡ w.2 = ap (λ k. count_at k t ws) (sym c) ∙ ap (λ k. count_at w.0 k ws) (sym d) ∙ in_count ws a w x.0 in omega arith
    other f n q (inr l) =
        let m : In (e, t, n) ws = subst (λ k. In (e, t, k) ws) q (count_in e t ws (subst (λ k. 0 < k) (sym q) l)) in
        in_count (with_implied i ws) all (e, t, n) (other_in i ws (e, t, n) m f)

    go : (b : Bool) → (e == i.upper) ≡ b → count_at e t (with_implied i ws) ≡ cond b (total i t ws) (count_at e t ws)
    go true q = upper (total i t ws) refl (zero_or_more (total i t ws)) (eqb-true e i.upper q)
    go false q = other q (count_at e t ws) refl (zero_or_more (count_at e t ws))

-- ---- a row's count changed

-- the total without one row, and its share
total_without : (i : Implied) (t : Pairs) (e : ℕ) (row : Pairs) (ws : List EdgeRow) → AreCountedRows ws
    → total i t ws ≡ share i t (e, row, count_at e row ws) + total i t (filter (λ w. not (is_row_at e row w)) ws)
total_without i t e row [] a = sym (none (e == i.lower && tuple_eq (project i.columns row) t))
  where
    none : (b : Bool) → ◌≡◌ {A = ℕ} (cond b 0 0 + 0) 0
    none true = refl
    none false = refl
total_without i t e row (w ∷ ws) a = go (is_row_at e row w) refl (total_without i t e row ws rest)
  where
    rest : AreCountedRows ws
    rest = record { rising = a.rising.1; once = λ u v m n. a.once u v (inr m) (inr n); positive = λ v m. a.positive v (inr m) }

    go : (b : Bool) → is_row_at e row w ≡ b → total i t ws ≡ share i t (e, row, count_at e row ws) + total i t (filter (λ w. not (is_row_at e row w)) ws)
        → share i t w + total i t ws ≡ share i t (e, row, cond b w.2 (count_at e row ws)) + total i t (cond (not b) (w ∷ filter (λ w. not (is_row_at e row w)) ws) (filter (λ w. not (is_row_at e row w)) ws))
    go true q ih =
        let k : (w.0 ≡ e) × (w.1 ≡ row) = at_true e row w q in
        let s : share i t w ≡ share i t (e, row, w.2) = (λ j. share i t (k.0 j, k.1 j, w.2)) in
        let z : count_at e row ws ≡ 0 = count_none e row ws (λ v m c d. not_later v m c d k.0 k.1) in
        let y : share i t (e, row, count_at e row ws) ≡ 0 = ap (λ n. share i t (e, row, n)) z ∙ zero_share (e == i.lower && tuple_eq (project i.columns row) t) in
        omega arith
      where
        zero_share : (b : Bool) → ◌≡◌ {A = ℕ} (cond b 0 0) 0
        zero_share true = refl
        zero_share false = refl

        not_later : (v : EdgeRow) → In v ws → v.0 ≡ e → v.1 ≡ row → w.0 ≡ e → w.1 ≡ row → ⊥
        not_later v m c d p r =
            let same : w ≡ v = a.once w v (inl refl) (inr m) (p ∙ sym c) (r ∙ sym d) in
            let l : edge_row_cmp w w ≡ Less = subst (λ x. edge_row_cmp w x ≡ Less) (sym same) (a.rising.0 v m) in
            not_below_itself edge_row_cmp edge_row_order w w l l
    go false q ih = omega arith

-- the total with one more row, which isn't there
total_put : (i : Implied) (t : Pairs) (x : EdgeRow) (ws : List EdgeRow) → (In x ws → ⊥) → total i t (put edge_row_cmp x ws) ≡ share i t x + total i t ws
total_put i t x [] out = refl
total_put i t x (w ∷ ws) out = go (edge_row_cmp x w) refl (total_put i t x ws (λ m. out (inr m)))
  where
    go : (o : Ordering) → edge_row_cmp x w ≡ o → total i t (put edge_row_cmp x ws) ≡ share i t x + total i t ws
        → total i t (match_ordering o (x ∷ (w ∷ ws)) (w ∷ ws) (w ∷ put edge_row_cmp x ws)) ≡ share i t x + (share i t w + total i t ws)
    go Less q ih = refl
    go Equal q ih = absurd (out (inl (edge_row_order.ties x w q)))
    go Greater q ih = omega arith

-- what a count that is set does to the total
pub total-with_count : (i : Implied) (t : Pairs) (e : ℕ) (row : Pairs) (n : ℕ) (ws : List EdgeRow) → AreCountedRows ws
    → total i t (with_count e row n ws) + share i t (e, row, count_at e row ws) ≡ total i t ws + share i t (e, row, n)
total-with_count i t e row n ws a = go n
  where
    others : List EdgeRow
    others = filter (λ w. not (is_row_at e row w)) ws

    parts : total i t ws ≡ share i t (e, row, count_at e row ws) + total i t others
    parts = total_without i t e row ws a

    none : (b : Bool) → ◌≡◌ {A = ℕ} (cond b 0 0) 0
    none true = refl
    none false = refl

    out : (n : ℕ) → In (e, row, n) others → ⊥
    out n m =
        let q : In (e, row, n) ws × (not (is_row_at e row (e, row, n)) ≡ true) = in_filter (λ w. not (is_row_at e row w)) (e, row, n) ws m in
        false≢true (sym (not-true (is_row_at e row (e, row, n)) q.1) ∙ true_at e row (e, row, n) refl refl)

    go : (n : ℕ) → total i t (with_count e row n ws) + share i t (e, row, count_at e row ws) ≡ total i t ws + share i t (e, row, n)
    go zero = let p : total i t ws ≡ share i t (e, row, count_at e row ws) + total i t others = parts in let z : share i t (e, row, 0) ≡ 0 = none (e == i.lower && tuple_eq (project i.columns row) t) in omega arith
    go (suc n) = let q : total i t ws ≡ share i t (e, row, count_at e row ws) + total i t others = parts in let p : total i t (put edge_row_cmp (e, row, suc n) others) ≡ share i t (e, row, suc n) + total i t others = total_put i t (e, row, suc n) others (out (suc n)) in omega arith

pub total-raised : (i : Implied) (t : Pairs) (e : ℕ) (row : Pairs) (ws : List EdgeRow) → AreCountedRows ws
    → total i t (raised e row ws) ≡ total i t ws + cond (is_under i t e row) 1 0
total-raised i t e row ws a =
    go (is_under i t e row) (total i t (raised e row ws)) (count_at e row ws) (total i t ws) (total-with_count i t e row (suc (count_at e row ws)) ws a)
  where
    go : (b : Bool) (x c y : ℕ) → x + cond b c 0 ≡ y + cond b (suc c) 0 → x ≡ y + cond b 1 0
    go true x c y q = omega arith
    go false x c y q = omega arith

pub total-lowered : (i : Implied) (t : Pairs) (e : ℕ) (row : Pairs) (ws : List EdgeRow) → AreCountedRows ws → 0 < count_at e row ws
    → total i t (lowered e row ws) + cond (is_under i t e row) 1 0 ≡ total i t ws
total-lowered i t e row ws a l =
    go (is_under i t e row) (total i t (lowered e row ws)) (count_at e row ws) (total i t ws) l (total-with_count i t e row (pred (count_at e row ws)) ws a)
  where
    go : (b : Bool) (x c y : ℕ) → 0 < c → x + cond b c 0 ≡ y + cond b (pred c) 0 → x + cond b 1 0 ≡ y
    go b x zero y l q = absurd (omega arith)
    go true x (suc c) y l q = omega arith
    go false x (suc c) y l q = omega arith

-- ---- all that is implied

pub AreCountedRows-with_all : (is : List Implied) (ws : List EdgeRow) → AreCountedRows ws → AreCountedRows (with_all is ws)
AreCountedRows-with_all [] ws a = a
AreCountedRows-with_all (i ∷ is) ws a = AreCountedRows-with_implied i (with_all is ws) (AreCountedRows-with_all is ws a)

-- a total is that of the lower edge's rows
total_of : (i : Implied) (t : Pairs) (ws : List EdgeRow) → total i t (filter (λ w. w.0 == i.lower) ws) ≡ total i t ws
total_of i t [] = refl
total_of i t (w ∷ ws) = go (w.0 == i.lower) refl (total_of i t ws)
  where
    go : (b : Bool) → (w.0 == i.lower) ≡ b → total i t (filter (λ w. w.0 == i.lower) ws) ≡ total i t ws
        → total i t (cond b (w ∷ filter (λ w. w.0 == i.lower) ws) (filter (λ w. w.0 == i.lower) ws)) ≡ share i t w + total i t ws
    go true q ih = ap (λ n. share i t w + n) ih
    go false q ih = let z : share i t w ≡ 0 = ap (λ b. cond (b && tuple_eq (project i.columns w.1) t) w.2 0) q in omega arith

total-with_implied : (i j : Implied) (t : Pairs) (ws : List EdgeRow) → AreCountedRows ws → (i.lower ≡ j.upper → ⊥) → total i t (with_implied j ws) ≡ total i t ws
total-with_implied i j t ws a apart = sym (total_of i t (with_implied j ws)) ∙ ap (total i t) same ∙ total_of i t ws
  where
    all : AreCountedRows (with_implied j ws)
    all = AreCountedRows-with_implied j ws a

    not_upper : (v : EdgeRow) → (v.0 == i.lower) ≡ true → (v.0 == j.upper) ≡ false
    not_upper v q = not_so (v.0 == j.upper) (λ k. apart (sym (eqb-true v.0 i.lower q) ∙ eqb-true v.0 j.upper k))
      where
        not_so : (b : Bool) → (b ≡ true → ⊥) → b ≡ false
        not_so true f = absurd (f refl)
        not_so false f = refl

    same : filter (λ w. w.0 == i.lower) (with_implied j ws) ≡ filter (λ w. w.0 == i.lower) ws
    same = same_rising edge_row_cmp edge_row_order (filter (λ w. w.0 == i.lower) (with_implied j ws)) (filter (λ w. w.0 == i.lower) ws)
        (rising_filter edge_row_cmp (λ w. w.0 == i.lower) (with_implied j ws) all.rising) (rising_filter edge_row_cmp (λ w. w.0 == i.lower) ws a.rising)
        (λ v m. let q : In v (with_implied j ws) × ((v.0 == i.lower) ≡ true) = in_filter (λ w. w.0 == i.lower) v (with_implied j ws) m in
        elim (in_with_implied j ws v q.0) [
          | inl x ↦ absurd (apart (sym (eqb-true v.0 i.lower q.1) ∙ x.0))
          | inr x ↦ filter_in (λ w. w.0 == i.lower) v ws x.0 q.1
        ])
        (λ v m. let q : In v ws × ((v.0 == i.lower) ≡ true) = in_filter (λ w. w.0 == i.lower) v ws m in
        filter_in (λ w. w.0 == i.lower) v (with_implied j ws) (other_in j ws v q.0 (not_upper v q.1)) q.1)

total-with_all : (i : Implied) (t : Pairs) (is : List Implied) (ws : List EdgeRow) → AreCountedRows ws → ((j : Implied) → In j is → i.lower ≡ j.upper → ⊥)
    → total i t (with_all is ws) ≡ total i t ws
total-with_all i t [] ws a apart = refl
total-with_all i t (j ∷ is) ws a apart =
    total-with_implied i j t (with_all is ws) (AreCountedRows-with_all is ws a) (apart j (inl refl)) ∙ total-with_all i t is ws a (λ k m. apart k (inr m))

-- the counts of upper edges' rows are totals, and the others stay
pub count-upper : (is : List Implied) → AreImplications is → (ws : List EdgeRow) → AreCountedRows ws → (i : Implied) → In i is → (t : Pairs)
    → count_at i.upper t (with_all is ws) ≡ total i t ws
count-upper is good ws a i m t = go is (λ j k. k) m
  where
    go : (js : List Implied) → ((j : Implied) → In j js → In j is) → In i js → count_at i.upper t (with_all js ws) ≡ total i t ws
    go [] sub n = absurd n
    go (j ∷ js) sub n =
        count-with_implied j (with_all js ws) (AreCountedRows-with_all js ws a) i.upper t ∙ pick (i.upper == j.upper) refl (λ k. go js (λ x y. sub x (inr y)) k)
      where
        pick : (b : Bool) → (i.upper == j.upper) ≡ b → (In i js → count_at i.upper t (with_all js ws) ≡ total i t ws)
            → cond b (total j t (with_all js ws)) (count_at i.upper t (with_all js ws)) ≡ total i t ws
        pick true q ih =
            let same : i ≡ j = good.once i j m (sub j (inl refl)) (eqb-true i.upper j.upper q) in
            total-with_all j t js ws a (λ k l. good.apart j k (sub j (inl refl)) (sub k (inr l))) ∙ ap (λ (x : Implied). total x t ws) (sym same)
        pick false q ih = ih (later n)
          where
            later : In i (j ∷ js) → In i js
            later (inl e) = absurd (false≢true (sym q ∙ eq-eqb i.upper j.upper (ap (λ (x : Implied). x.upper) e)))
            later (inr k) = k

pub count-other : (is : List Implied) (ws : List EdgeRow) → AreCountedRows ws → (e : ℕ) → ((i : Implied) → In i is → e ≡ i.upper → ⊥) → (t : Pairs)
    → count_at e t (with_all is ws) ≡ count_at e t ws
count-other [] ws a e other t = refl
count-other (i ∷ is) ws a e other t =
    count-with_implied i (with_all is ws) (AreCountedRows-with_all is ws a) e t ∙ go (e == i.upper) refl (count-other is ws a e (λ j m. other j (inr m)) t)
  where
    go : (b : Bool) → (e == i.upper) ≡ b → count_at e t (with_all is ws) ≡ count_at e t ws → cond b (total i t (with_all is ws)) (count_at e t (with_all is ws)) ≡ count_at e t ws
    go true q ih = absurd (other i (inl refl) (eqb-true e i.upper q))
    go false q ih = ih

-- ---- rows of several edges raised and lowered

pub AreCountedRows-raised_all : (ps : List NumberedRow) (ws : List EdgeRow) → AreCountedRows ws → AreCountedRows (raised_all ps ws)
AreCountedRows-raised_all [] ws a = a
AreCountedRows-raised_all (p ∷ ps) ws a = AreCountedRows-raised_all ps (raised p.0 p.1 ws) (AreCountedRows-with_count p.0 p.1 (suc (count_at p.0 p.1 ws)) ws a)

pub AreCountedRows-lowered_all : (ps : List NumberedRow) (ws : List EdgeRow) → AreCountedRows ws → AreCountedRows (lowered_all ps ws)
AreCountedRows-lowered_all [] ws a = a
AreCountedRows-lowered_all (p ∷ ps) ws a = AreCountedRows-lowered_all ps (lowered p.0 p.1 ws) (AreCountedRows-with_count p.0 p.1 (pred (count_at p.0 p.1 ws)) ws a)

count-raised : (x : ℕ) (u : Pairs) (ws : List EdgeRow) → AreCountedRows ws → (e : ℕ) (row : Pairs) → count_at e row (raised x u ws) ≡ count_at e row ws + cond (is_row_at e row (x, u, 0)) 1 0
count-raised x u ws a e row = count-with_count x u (suc (count_at x u ws)) ws a e row ∙ go (is_row_at e row (x, u, 0)) refl
  where
    go : (b : Bool) → is_row_at e row (x, u, 0) ≡ b → cond b (suc (count_at x u ws)) (count_at e row ws) ≡ count_at e row ws + cond b 1 0
    go true g =
        let k : (x ≡ e) × (u ≡ row) = at_true e row (x, u, 0) g in
        let c : count_at x u ws ≡ count_at e row ws = ap (λ z. count_at z u ws) k.0 ∙ ap (λ z. count_at e z ws) k.1 in omega arith
    go false g = omega arith

count-lowered : (x : ℕ) (u : Pairs) (ws : List EdgeRow) → AreCountedRows ws → (e : ℕ) (row : Pairs) → count_at e row (lowered x u ws) ≡ count_at e row ws - cond (is_row_at e row (x, u, 0)) 1 0
count-lowered x u ws a e row = count-with_count x u (pred (count_at x u ws)) ws a e row ∙ go (is_row_at e row (x, u, 0)) refl
  where
    one_less : (m n : ℕ) → m ≡ n → pred m ≡ n - 1
    one_less m n e = omega arith

    go : (b : Bool) → is_row_at e row (x, u, 0) ≡ b → cond b (pred (count_at x u ws)) (count_at e row ws) ≡ count_at e row ws - cond b 1 0
    go true g =
        let k : (x ≡ e) × (u ≡ row) = at_true e row (x, u, 0) g in
        one_less (count_at x u ws) (count_at e row ws) (ap (λ z. count_at z u ws) k.0 ∙ ap (λ z. count_at e z ws) k.1)
    go false g = omega arith

pub count-raised_all : (ps : List NumberedRow) (ws : List EdgeRow) → AreCountedRows ws → (e : ℕ) (t : Pairs) → count_at e t (raised_all ps ws) ≡ count_at e t ws + hits e t ps
count-raised_all [] ws a e t = omega arith
count-raised_all (p ∷ ps) ws a e t =
    let ih : count_at e t (raised_all ps (raised p.0 p.1 ws)) ≡ count_at e t (raised p.0 p.1 ws) + hits e t ps = count-raised_all ps (raised p.0 p.1 ws) (AreCountedRows-with_count p.0 p.1 (suc (count_at p.0 p.1 ws)) ws a) e t in
    let one : count_at e t (raised p.0 p.1 ws) ≡ count_at e t ws + cond (is_row_at e t (p.0, p.1, 0)) 1 0 = count-raised p.0 p.1 ws a e t in omega arith

pub count-lowered_all : (ps : List NumberedRow) (ws : List EdgeRow) → AreCountedRows ws → (e : ℕ) (t : Pairs) → count_at e t (lowered_all ps ws) ≡ count_at e t ws - hits e t ps
count-lowered_all [] ws a e t = omega arith
count-lowered_all (p ∷ ps) ws a e t =
    let ih : count_at e t (lowered_all ps (lowered p.0 p.1 ws)) ≡ count_at e t (lowered p.0 p.1 ws) - hits e t ps = count-lowered_all ps (lowered p.0 p.1 ws) (AreCountedRows-with_count p.0 p.1 (pred (count_at p.0 p.1 ws)) ws a) e t in
    let one : count_at e t (lowered p.0 p.1 ws) ≡ count_at e t ws - cond (is_row_at e t (p.0, p.1, 0)) 1 0 = count-lowered p.0 p.1 ws a e t in omega arith

pub total-raised_all : (i : Implied) (t : Pairs) (ps : List NumberedRow) (ws : List EdgeRow) → AreCountedRows ws → total i t (raised_all ps ws) ≡ total i t ws + unders i t ps
total-raised_all i t [] ws a = omega arith
total-raised_all i t (p ∷ ps) ws a =
    let ih : total i t (raised_all ps (raised p.0 p.1 ws)) ≡ total i t (raised p.0 p.1 ws) + unders i t ps = total-raised_all i t ps (raised p.0 p.1 ws) (AreCountedRows-with_count p.0 p.1 (suc (count_at p.0 p.1 ws)) ws a) in
    let one : total i t (raised p.0 p.1 ws) ≡ total i t ws + cond (is_under i t p.0 p.1) 1 0 = total-raised i t p.0 p.1 ws a in omega arith

-- the rows are there when each is lowered: of different edges, or often enough
abbrev pub AreThere : List NumberedRow → List EdgeRow → Type 0
AreThere [] ws = Unit {0}
AreThere (p ∷ ps) ws = (0 < count_at p.0 p.1 ws) × AreThere ps (lowered p.0 p.1 ws)

total-lowered_all : (i : Implied) (t : Pairs) (ps : List NumberedRow) (ws : List EdgeRow) → AreCountedRows ws → AreThere ps ws → total i t (lowered_all ps ws) + unders i t ps ≡ total i t ws
total-lowered_all i t [] ws a there = omega arith
total-lowered_all i t (p ∷ ps) ws a there =
    let ih : total i t (lowered_all ps (lowered p.0 p.1 ws)) + unders i t ps ≡ total i t (lowered p.0 p.1 ws) = total-lowered_all i t ps (lowered p.0 p.1 ws) (AreCountedRows-with_count p.0 p.1 (pred (count_at p.0 p.1 ws)) ws a) there.1 in
    let one : total i t (lowered p.0 p.1 ws) + cond (is_under i t p.0 p.1) 1 0 ≡ total i t ws = total-lowered i t p.0 p.1 ws a there.0 in omega arith

-- the rows of some edges are the kept ones with those that they imply
pub record IsWhole (is : List Implied) (kept all : List NumberedRow) : Type 0 where
  pub upper : (i : Implied) → In i is → (t : Pairs) → hits i.upper t all ≡ unders i t kept
  pub other : (e : ℕ) → ((i : Implied) → In i is → e ≡ i.upper → ⊥) → (t : Pairs) → hits e t all ≡ hits e t kept

-- an edge is an upper one, or none
pub is_upper : (is : List Implied) (e : ℕ) → ((i : Implied) × In i is × (e ≡ i.upper)) ⊎ ((i : Implied) → In i is → e ≡ i.upper → ⊥)
is_upper [] e = inr (λ i m q. m)
is_upper (i ∷ is) e = go (e == i.upper) refl (is_upper is e)
  where
    go : (b : Bool) → (e == i.upper) ≡ b → ((j : Implied) × In j is × (e ≡ j.upper)) ⊎ ((j : Implied) → In j is → e ≡ j.upper → ⊥)
        → ((j : Implied) × In j (i ∷ is) × (e ≡ j.upper)) ⊎ ((j : Implied) → In j (i ∷ is) → e ≡ j.upper → ⊥)
    go true q r = inl (i, inl refl, eqb-true e i.upper q)
    go false q (inl r) = inl (r.0, inr r.1, r.2)
    go false q (inr r) = inr (λ j m p. elim m [
      | inl s ↦ false≢true (sym q ∙ eq-eqb e i.upper (p ∙ ap (λ (x : Implied). x.upper) s))
      | inr s ↦ r j s p
    ])

module _ (is : List Implied) (good : AreImplications is) (kept all : List NumberedRow) (whole : IsWhole is kept all) (ws : List EdgeRow) (a : AreCountedRows ws) where
  pub with_all-raised : with_all is (raised_all kept ws) ≡ raised_all all (with_all is ws)
  with_all-raised = same_counts (with_all is (raised_all kept ws)) (raised_all all (with_all is ws))
      (AreCountedRows-with_all is (raised_all kept ws) more) (AreCountedRows-raised_all all (with_all is ws) (AreCountedRows-with_all is ws a)) counts
    where
      more : AreCountedRows (raised_all kept ws)
      more = AreCountedRows-raised_all kept ws a

      counts : (e : ℕ) (t : Pairs) → count_at e t (with_all is (raised_all kept ws)) ≡ count_at e t (raised_all all (with_all is ws))
      counts e t = go (is_upper is e) ∙ sym (count-raised_all all (with_all is ws) (AreCountedRows-with_all is ws a) e t)
        where
          go : ((i : Implied) × In i is × (e ≡ i.upper)) ⊎ ((i : Implied) → In i is → e ≡ i.upper → ⊥) → count_at e t (with_all is (raised_all kept ws)) ≡ count_at e t (with_all is ws) + hits e t all
          go (inl u) = subst (λ f. count_at f t (with_all is (raised_all kept ws)) ≡ count_at f t (with_all is ws) + hits f t all) (sym u.2)
              (count-upper is good (raised_all kept ws) more u.0 u.1 t ∙ total-raised_all u.0 t kept ws a ∙ (λ j. sym (count-upper is good ws a u.0 u.1 t) j + sym (whole.upper u.0 u.1 t) j))
          go (inr o) = count-other is (raised_all kept ws) more e o t ∙ count-raised_all kept ws a e t ∙ (λ j. sym (count-other is ws a e o t) j + sym (whole.other e o t) j)

  pub with_all-lowered : AreThere kept ws → with_all is (lowered_all kept ws) ≡ lowered_all all (with_all is ws)
  with_all-lowered there = same_counts (with_all is (lowered_all kept ws)) (lowered_all all (with_all is ws))
      (AreCountedRows-with_all is (lowered_all kept ws) less) (AreCountedRows-lowered_all all (with_all is ws) (AreCountedRows-with_all is ws a)) counts
    where
      less : AreCountedRows (lowered_all kept ws)
      less = AreCountedRows-lowered_all kept ws a

      totals : (i : Implied) (t : Pairs) → total i t (lowered_all kept ws) ≡ total i t ws - unders i t kept
      totals i t = let s : total i t (lowered_all kept ws) + unders i t kept ≡ total i t ws = total-lowered_all i t kept ws a there in omega arith

      counts : (e : ℕ) (t : Pairs) → count_at e t (with_all is (lowered_all kept ws)) ≡ count_at e t (lowered_all all (with_all is ws))
      counts e t = go (is_upper is e) ∙ sym (count-lowered_all all (with_all is ws) (AreCountedRows-with_all is ws a) e t)
        where
          go : ((i : Implied) × In i is × (e ≡ i.upper)) ⊎ ((i : Implied) → In i is → e ≡ i.upper → ⊥) → count_at e t (with_all is (lowered_all kept ws)) ≡ count_at e t (with_all is ws) - hits e t all
          go (inl u) = subst (λ f. count_at f t (with_all is (lowered_all kept ws)) ≡ count_at f t (with_all is ws) - hits f t all) (sym u.2)
              (count-upper is good (lowered_all kept ws) less u.0 u.1 t ∙ totals u.0 t ∙ (λ j. sym (count-upper is good ws a u.0 u.1 t) j - sym (whole.upper u.0 u.1 t) j))
          go (inr o) = count-other is (lowered_all kept ws) less e o t ∙ count-lowered_all kept ws a e t ∙ (λ j. sym (count-other is ws a e o t) j - sym (whole.other e o t) j)
