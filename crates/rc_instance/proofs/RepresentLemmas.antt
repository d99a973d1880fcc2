-- The join of the rows of all edges, edge by edge and fragment by fragment.
use Rattle.std.specs.Prelude.{◌≡◌, ℕ, ◌+◌, ◌<◌, List, [], ◌∷◌, ◌++◌, length, map}
use Rattle.rc_instance.proofs.Imports.{range_with_len, flat_map-append, take_more, map-range_with_len_more, In, same_rising, in_append, append_in_left, append_in_right, Pairs, tuple_cmp, tuple_order, join, join_all, EdgeRow, tuples_of_edge, in_tuples_of_edge, tuples_of_edge_in, IsJoined, in_join, join_in, rising_join, AreAllRows, IsThere, FragmentRows, rows_of_fragments}
use Rattle.std.proofs.Common.{inl, inr, refl, sym, ap, subst, ◌∙◌, arith, take, get_or, append-nil}

-- ---- the rows of an edge, fragment by fragment

pub rows_more : (fs : List FragmentRows) (i : ℕ) (f : FragmentRows) → i < length fs → f ≡ get_or fs i f → rows_of_fragments (take (i + 1) fs) ≡ rows_of_fragments (take i fs) ++ f.now
rows_more fs i f l e =
    let now : FragmentRows → List EdgeRow = λ z. z.now in
    ap rows_of_fragments (take_more fs i f l ∙ ap (λ (z : FragmentRows). take i fs ++ z ∷ []) (sym e)) ∙ flat_map-append now (take i fs) (f ∷ []) ∙ ap (λ z. rows_of_fragments (take i fs) ++ z) (append-nil f.now)

pub all_more : (ws vs : List EdgeRow) (e : ℕ) (ts us : List Pairs) → AreAllRows ws e ts → AreAllRows vs e us → AreAllRows (ws ++ vs) e (ts ++ us)
all_more ws vs e ts us a b = record {
  only = λ t m. elim (in_append t ts us m) [
    | inl x ↦ (let r : IsThere ws e t = a.only t x in (r.0, append_in_left {A = EdgeRow} (e, t, r.0) ws vs r.1))
    | inr x ↦ (let r : IsThere vs e t = b.only t x in (r.0, append_in_right {A = EdgeRow} (e, t, r.0) ws vs r.1))
  ];
  each = λ t m. elim (in_append {A = EdgeRow} (e, t, m.0) ws vs m.1) [ inl x ↦ append_in_left t ts us (a.each t (m.0, x)) | inr x ↦ append_in_right t ts us (b.each t (m.0, x)) ];
}

-- ---- joins by their members

-- a join depends on the members of the second list alone
join_members : (ts us vs : List Pairs) → ((u : Pairs) → In u us → In u vs) → (c : Pairs) → In c (join ts us) → In c (join ts vs)
join_members ts us vs f c m =
    let j : IsJoined ts us c = in_join ts us c m in
    subst (λ z. In z (join ts vs)) (sym j.merged) (join_in ts vs j.left j.right j.in_left (f j.right j.in_right) j.agree)

pub join_same : (ts us vs : List Pairs) → ((u : Pairs) → In u us → In u vs) → ((u : Pairs) → In u vs → In u us) → join ts us ≡ join ts vs
join_same ts us vs f g = same_rising tuple_cmp tuple_order (join ts us) (join ts vs) (rising_join ts us) (rising_join ts vs) (join_members ts us vs f) (join_members ts vs us g)

pub join_of_edge : (ts us : List Pairs) (ws : List EdgeRow) (e : ℕ) → AreAllRows ws e us → join ts us ≡ join ts (tuples_of_edge e ws)
join_of_edge ts us ws e a =
    join_same ts us (tuples_of_edge e ws)
    (λ u m. let r : IsThere ws e u = a.only u m in tuples_of_edge_in e ws (e, u, r.0) r.1 refl)
    (λ u m.
    let r : (w : EdgeRow) × In w ws × (w.0 ≡ e) × (u ≡ w.1) = in_tuples_of_edge e ws u m in
    let p : r.0 ≡ (e, u, r.0.2) = λ i. (r.2 i, sym r.3 i, r.0.2) in
    a.each u (r.0.2, subst (λ (z : EdgeRow). In z ws) p r.1))

-- ---- edge by edge

-- the join of the rows of the first edges, begun with the one empty tuple
abbrev pub first_joined : List EdgeRow → ℕ → List Pairs
first_joined ws n = join_all ([] ∷ []) (map (λ e. tuples_of_edge e ws) (range_with_len 0 n))

join_all_more : (ts : List Pairs) (rest : List (List Pairs)) (us : List Pairs) → join_all ts (rest ++ us ∷ []) ≡ join (join_all ts rest) us
join_all_more ts [] us = refl
join_all_more ts (vs ∷ rest) us = join_all_more (join ts vs) rest us

pub first_joined_more : (ws : List EdgeRow) (n : ℕ) → first_joined ws (n + 1) ≡ join (first_joined ws n) (tuples_of_edge n ws)
first_joined_more ws n =
    let rows : ℕ → List Pairs = λ e. tuples_of_edge e ws in
    let z : 0 + n ≡ n = omega arith in
    ap (join_all ([] ∷ [])) (map-range_with_len_more rows 0 n n z) ∙ join_all_more ([] ∷ []) (map rows (range_with_len 0 n)) (rows n)
