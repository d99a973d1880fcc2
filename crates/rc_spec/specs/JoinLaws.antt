-- Laws of joins by columns: a join is the merges with the rows that a container finds by some columns.
use Rattle.std.specs.Prelude.{◌≡◌, ℕ, true, List, filter, map}
use Rattle.rc_spec.specs.Imports.{flat_map, In, IsRising, gather, same_rising, same_gather, rising_filter, in_map, map_in, in_filter, filter_in, in_flat_map, flat_map_in, has, Within, Pairs, cols_of, project, agrees, agree_on, pair_cmp, tuple_cmp, merge, Agree, pair_order, tuple_order, in_project, project_in, agree_from, Agree-back, test_from_agree}
use Rattle.std.proofs.Common.{sym, subst}
use Rattle.rc_spec.specs.Contents.{join}

-- ---- by columns

common_part : (xs : List ℕ) (t u : Pairs) → Within xs (cols_of u) → Agree t u → (p : ℕ × ℕ) → In p (project xs t) → In p (project xs u)
common_part xs t u w f p h =
    let m : In p t × In p.0 xs = in_project xs p t h in
    let q : (q : ℕ × ℕ) × In q u × (p.0 ≡ q.0) = in_map (λ (q : ℕ × ℕ). q.0) p.0 u (w p.0 m.1) in
    project_in xs p u (subst (λ z. In z u) (sym (f p q.0 m.0 q.1 q.2)) q.1) m.1

-- two tuples that agree and have some columns have one projection on them
pub project-agreeing : (xs : List ℕ) (t u : Pairs) → IsRising pair_cmp t → IsRising pair_cmp u → Within xs (cols_of t) → Within xs (cols_of u) → Agree t u → project xs t ≡ project xs u
project-agreeing xs t u a b v w f =
    same_rising pair_cmp pair_order (project xs t) (project xs u) (rising_filter pair_cmp (λ (p : ℕ × ℕ). has xs p.0) t a) (rising_filter pair_cmp (λ (p : ℕ × ℕ). has xs p.0) u b)
    (common_part xs t u w f) (common_part xs u t v (Agree-back t u f))

-- a join is the merges with the rows found by columns that both sides have
pub join_by_columns : (xs : List ℕ) (bs us : List Pairs)
    → ((b : Pairs) → In b bs → IsRising pair_cmp b × Within xs (cols_of b)) → ((u : Pairs) → In u us → IsRising pair_cmp u × Within xs (cols_of u))
    → join bs us ≡ gather tuple_cmp (flat_map (λ b. map (merge b) (filter (agrees b) (filter (agree_on xs b) us))) bs)
join_by_columns xs bs us f g =
    same_gather tuple_cmp tuple_order (flat_map (λ b. map (merge b) (filter (agrees b) us)) bs) (flat_map (λ b. map (merge b) (filter (agrees b) (filter (agree_on xs b) us))) bs)
    (λ c h.
    let q : (b : Pairs) × In b bs × In c (map (merge b) (filter (agrees b) us)) = in_flat_map (λ b. map (merge b) (filter (agrees b) us)) c bs h in
    let p : (u : Pairs) × In u (filter (agrees q.0) us) × (c ≡ merge q.0 u) = in_map (merge q.0) c (filter (agrees q.0) us) q.2 in
    let m : In p.0 us × (agrees q.0 p.0 ≡ true) = in_filter (agrees q.0) p.0 us p.1 in
    let e : project xs q.0 ≡ project xs p.0 = project-agreeing xs q.0 p.0 (f q.0 q.1).0 (g p.0 m.0).0 (f q.0 q.1).1 (g p.0 m.0).1 (agree_from q.0 p.0 m.1) in
    flat_map_in (λ b. map (merge b) (filter (agrees b) (filter (agree_on xs b) us))) c q.0 bs q.1
    (subst (λ z. In z (map (merge q.0) (filter (agrees q.0) (filter (agree_on xs q.0) us)))) (sym p.2)
    (map_in (merge q.0) p.0 (filter (agrees q.0) (filter (agree_on xs q.0) us))
    (filter_in (agrees q.0) p.0 (filter (agree_on xs q.0) us) (filter_in (agree_on xs q.0) p.0 us m.0 (test_from_agree xs q.0 p.0 e)) m.1))))
    (λ c h.
    let q : (b : Pairs) × In b bs × In c (map (merge b) (filter (agrees b) (filter (agree_on xs b) us))) = in_flat_map (λ b. map (merge b) (filter (agrees b) (filter (agree_on xs b) us))) c bs h in
    let p : (u : Pairs) × In u (filter (agrees q.0) (filter (agree_on xs q.0) us)) × (c ≡ merge q.0 u) = in_map (merge q.0) c (filter (agrees q.0) (filter (agree_on xs q.0) us)) q.2 in
    let m : In p.0 (filter (agree_on xs q.0) us) × (agrees q.0 p.0 ≡ true) = in_filter (agrees q.0) p.0 (filter (agree_on xs q.0) us) p.1 in
    flat_map_in (λ b. map (merge b) (filter (agrees b) us)) c q.0 bs q.1
    (subst (λ z. In z (map (merge q.0) (filter (agrees q.0) us))) (sym p.2)
    (map_in (merge q.0) p.0 (filter (agrees q.0) us) (filter_in (agrees q.0) p.0 us (in_filter (agree_on xs q.0) p.0 us m.0).0 m.1))))
