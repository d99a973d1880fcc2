-- Laws of joins with the projections of a relation: where the common columns determine one side, a join loses and adds no tuple. (Heath's theorem.)
use Rattle.std.specs.Prelude.{◌≡◌, ℕ, true, List, [], ◌∷◌, ◌⊎◌, map}
use Rattle.rc_spec.specs.Imports.{filter, flat_map, nat_cmp, In, IsRising, same_rising, rising_gather, in_gather, gather_in, gather-rising, in_filter, filter_in, in_map, map_in, in_flat_map, flat_map_in, Within, union, inter, union_left, union_right, Pairs, project, agrees, pair_cmp, tuple_cmp, merge, Agree, pair_order, tuple_order, in_project, agree_from, agrees_to, in_merge, merge_left, merge_right, merge_none, one_pair, project-nothing, project_all, Agree-union, Agree-less, merge-merge, inter-same, IsRelation, SatisfiesOne, rising_of}
use Rattle.std.proofs.Common.{inl, inr, sym, ap, subst, ◌∙◌}
use Rattle.rc_spec.specs.Contents.{projections, join, join_all}

-- ---- joins

-- a tuple of a join is the merge of two that agree
pub record IsJoined (ts us : List Pairs) (c : Pairs) : Type 0 where
  pub left : Pairs
  pub right : Pairs
  pub in_left : In left ts
  pub in_right : In right us
  pub agree : agrees left right ≡ true
  pub merged : c ≡ merge left right

pub in_join : (ts us : List Pairs) (c : Pairs) → In c (join ts us) → IsJoined ts us c
in_join ts us c h =
    let q : (t : Pairs) × In t ts × In c (map (merge t) (filter (agrees t) us)) =
    in_flat_map (λ t. map (merge t) (filter (agrees t) us)) c ts (in_gather tuple_cmp tuple_order c (flat_map (λ t. map (merge t) (filter (agrees t) us)) ts) h) in
    let p : (u : Pairs) × In u (filter (agrees q.0) us) × (c ≡ merge q.0 u) = in_map (merge q.0) c (filter (agrees q.0) us) q.2 in
    let f : In p.0 us × (agrees q.0 p.0 ≡ true) = in_filter (agrees q.0) p.0 us p.1 in
    record { left = q.0; right = p.0; in_left = q.1; in_right = f.0; agree = f.1; merged = p.2 }

pub join_in : (ts us : List Pairs) (t u : Pairs) → In t ts → In u us → agrees t u ≡ true → In (merge t u) (join ts us)
join_in ts us t u h k e =
    gather_in tuple_cmp tuple_order (merge t u) (flat_map (λ t. map (merge t) (filter (agrees t) us)) ts)
    (flat_map_in (λ t. map (merge t) (filter (agrees t) us)) (merge t u) t ts h (map_in (merge t) u (filter (agrees t) us) (filter_in (agrees t) u us k e)))

pub rising_join : (ts us : List Pairs) → IsRising tuple_cmp (join ts us)
rising_join ts us = rising_gather tuple_cmp tuple_order (flat_map (λ t. map (merge t) (filter (agrees t) us)) ts)

pub rising_join_all : (ts : List Pairs) (rest : List (List Pairs)) → IsRising tuple_cmp ts → IsRising tuple_cmp (join_all ts rest)
rising_join_all ts [] a = a
rising_join_all ts (us ∷ rest) a = rising_join_all (join ts us) rest (rising_join ts us)

-- ---- what was seen of a relation

-- the tuples are the joins of s with the projections on the visited columns of those tuples of the relation that agree with s there
pub record IsSeen (r : List Pairs) (s : Pairs) (visited : List ℕ) (bs : List Pairs) : Type 0 where
  pub only : (b : Pairs) → In b bs → (t : Pairs) × In t r × Agree s (project visited t) × (b ≡ merge s (project visited t))
  pub each : (t : Pairs) → In t r → Agree s (project visited t) → In (merge s (project visited t)) bs

-- the tuples are the projections of those of the relation
pub record AreProjections (r : List Pairs) (xs : List ℕ) (us : List Pairs) : Type 0 where
  pub only : (u : Pairs) → In u us → (t : Pairs) × In t r × (u ≡ project xs t)
  pub each : (t : Pairs) → In t r → In (project xs t) us

-- nothing was read yet, or the tuples are those seen
abbrev pub IsReached : List Pairs → Pairs → List ℕ → List Pairs → Type 0
IsReached r s visited bs = ((visited ≡ []) × (bs ≡ s ∷ [])) ⊎ IsSeen r s visited bs

pub AreProjections-projections : (r : List Pairs) (xs : List ℕ) → AreProjections r xs (projections xs r)
AreProjections-projections r xs = record {
  only = λ u h. in_map (project xs) u r (in_gather tuple_cmp tuple_order u (map (project xs) r) h);
  each = λ t h. gather_in tuple_cmp tuple_order (project xs t) (map (project xs) r) (map_in (project xs) t r h);
}

-- ---- Heath's step: a join with the projections on ys, where the columns common with the visited ones determine one side

module _ (columns : List ℕ) (o : IsRising nat_cmp columns) (r : List Pairs) (i : IsRelation columns r) (s : Pairs) where
  -- what the joined pair gives, for the one tuple t that has both projections
  joined_one : (xs ys : List ℕ) (t : Pairs) → Agree s (project xs t) → Agree s (project ys t) → (c : Pairs) → c ≡ merge (merge s (project xs t)) (project ys t)
      → Agree s (project (union xs ys) t) × (c ≡ merge s (project (union xs ys) t))
  joined_one xs ys t f g c e = (Agree-union s t xs ys f g, e ∙ merge-merge s t xs ys)

  step_only : (xs ys : List ℕ) (bs us : List Pairs) → IsSeen r s xs bs → AreProjections r ys us
      → SatisfiesOne r (inter xs ys) xs ⊎ SatisfiesOne r (inter xs ys) ys
      → (c : Pairs) → In c (join bs us) → (t : Pairs) × In t r × Agree s (project (union xs ys) t) × (c ≡ merge s (project (union xs ys) t))
  step_only xs ys bs us b w d c h =
      let j : IsJoined bs us c = in_join bs us c h in
      let one : (t : Pairs) × In t r × Agree s (project xs t) × (j.left ≡ merge s (project xs t)) = b.only j.left j.in_left in
      let two : (u : Pairs) × In u r × (j.right ≡ project ys u) = w.only j.right j.in_right in
      let t : Pairs = one.0 in
      let u : Pairs = two.0 in
      let f : Agree (merge s (project xs t)) (project ys u) = subst (λ z. Agree z (project ys u)) one.3 (subst (λ z. Agree j.left z) two.2 (agree_from j.left j.right j.agree)) in
      let fs : Agree s (project ys u) = λ p q k l e. f p q (merge_left s (project xs t) p k) l e in
      let ft : Agree (project xs t) (project ys u) = λ p q k l e. f p q (merge_right s (project xs t) p k) l e in
      let same : project (inter xs ys) t ≡ project (inter xs ys) u = inter-same columns xs ys t u o (i.each t one.1).over (i.each u two.1).over ft in
      let c_is : c ≡ merge (merge s (project xs t)) (project ys u) = j.merged ∙ ap (λ z. merge z j.right) one.3 ∙ ap (λ z. merge (merge s (project xs t)) z) two.2 in
      elim d [
        | inl k ↦ (let e : project xs t ≡ project xs u = k t u one.1 two.1 same in
            let g : Agree s (project (union xs ys) u) × (c ≡ merge s (project (union xs ys) u)) =
            joined_one xs ys u (subst (Agree s) e one.2) fs c (c_is ∙ ap (λ z. merge (merge s z) (project ys u)) e) in
            (u, two.1, g.0, g.1))
        | inr k ↦ (let e : project ys t ≡ project ys u = k t u one.1 two.1 same in
            let g : Agree s (project (union xs ys) t) × (c ≡ merge s (project (union xs ys) t)) =
            joined_one xs ys t one.2 (subst (Agree s) (sym e) fs) c (c_is ∙ ap (λ z. merge (merge s (project xs t)) z) (sym e)) in
            (t, one.1, g.0, g.1))
      ]

  -- a tuple's own projections agree
  step_agrees : (xs ys : List ℕ) (t : Pairs) → In t r → Agree s (project (union xs ys) t) → Agree (merge s (project xs t)) (project ys t)
  step_agrees xs ys t h f p q k l e =
      elim (in_merge s (project xs t) p k) [
        | inl a ↦ Agree-less s t ys (union xs ys) (union_right xs ys) f p q a l e
        | inr a ↦ one_pair t (subst (IsRising nat_cmp) (sym (i.each t h).over) o) p q (in_project xs p t a).0 (in_project ys q t l).0 e
      ]

  step_each : (xs ys : List ℕ) (bs us : List Pairs) → IsSeen r s xs bs → AreProjections r ys us
      → (t : Pairs) → In t r → Agree s (project (union xs ys) t) → In (merge s (project (union xs ys) t)) (join bs us)
  step_each xs ys bs us b w t h f =
      subst (λ z. In z (join bs us)) (merge-merge s t xs ys)
      (join_in bs us (merge s (project xs t)) (project ys t)
      (b.each t h (Agree-less s t xs (union xs ys) (union_left xs ys) f))
      (w.each t h)
      (agrees_to (merge s (project xs t)) (project ys t) (step_agrees xs ys t h f)))

  pub heath : (xs ys : List ℕ) (bs us : List Pairs) → IsSeen r s xs bs → AreProjections r ys us
      → SatisfiesOne r (inter xs ys) xs ⊎ SatisfiesOne r (inter xs ys) ys → IsSeen r s (union xs ys) (join bs us)
  heath xs ys bs us b w d = record { only = step_only xs ys bs us b w d; each = step_each xs ys bs us b w }

  -- with a tuple in the relation, s alone is what is seen before any read
  seen_start : IsRising pair_cmp s → (t : Pairs) → In t r → IsSeen r s [] (s ∷ [])
  seen_start a t h = record {
    only = λ b k. elim k [
      | inl e ↦ (t, h, (λ p q m l _. absurd (subst (In q) (project-nothing t) l)), e ∙ sym (ap (merge s) (project-nothing t) ∙ merge_none s a))
      | inr z ↦ absurd z
    ];
    each = λ u k f. inl (ap (merge s) (project-nothing u) ∙ merge_none s a);
  }

  no_columns : (ys : List ℕ) → SatisfiesOne r (inter [] ys) []
  no_columns ys t u h k e = project-nothing t ∙ sym (project-nothing u)

  first_read : IsRising pair_cmp s → (ys : List ℕ) (us : List Pairs) → AreProjections r ys us → IsSeen r s (union [] ys) (join (s ∷ []) us)
  first_read a ys us w = record {
    only = λ c h.
        let j : IsJoined (s ∷ []) us c = in_join (s ∷ []) us c h in
        let two : (t : Pairs) × In t r × (j.right ≡ project ys t) = w.only j.right j.in_right in
        step_only [] ys (s ∷ []) us (seen_start a two.0 two.1) w (inl (no_columns ys)) c h;
    each = λ t h f. step_each [] ys (s ∷ []) us (seen_start a t h) w t h f;
  }

  pub reached_more : IsRising pair_cmp s → (xs ys : List ℕ) (bs us : List Pairs) → IsReached r s xs bs → AreProjections r ys us
      → SatisfiesOne r (inter xs ys) xs ⊎ SatisfiesOne r (inter xs ys) ys → IsSeen r s (union xs ys) (join bs us)
  reached_more a xs ys bs us (inl e) w d = subst (λ z. IsSeen r s (union z ys) (join bs us)) (sym e.0) (subst (λ z. IsSeen r s (union [] ys) (join z us)) (sym e.1) (first_read a ys us w))
  reached_more a xs ys bs us (inr b) w d = heath xs ys bs us b w d

-- ---- all columns

-- what is seen on all columns, from the empty tuple on, is the relation
module _ (columns last : List ℕ) (r : List Pairs) (o : IsRising nat_cmp columns) (i : IsRelation columns r) (w : Within columns last) where
  nothing-merge : (t : Pairs) → In t r → merge [] (project last t) ≡ t
  nothing-merge t h =
      let a : IsRising pair_cmp t = rising_of columns r o i t h in
      let e : project last t ≡ t = project_all last t a (λ c k. w c (subst (In c) (i.each t h).over k)) in
      ap (merge []) e ∙ gather-rising pair_cmp pair_order t a

  pub seen_all : (bs : List Pairs) → IsRising tuple_cmp bs → IsSeen r [] last bs → bs ≡ r
  seen_all bs a b =
      same_rising tuple_cmp tuple_order bs r a i.rising
      (λ c h. let q : (t : Pairs) × In t r × Agree [] (project last t) × (c ≡ merge [] (project last t)) = b.only c h in
      subst (λ z. In z r) (sym (q.3 ∙ nothing-merge q.0 q.1)) q.1)
      (λ t h. subst (λ z. In z bs) (nothing-merge t h) (b.each t h (λ p q k l e. absurd k)))
