-- Laws of contents: those of an adequate decomposition lose no tuple.
use Rattle.std.specs.Prelude.{◌≡◌, ℕ, zero, suc, ◌+◌, ◌<◌, ◌≤◌, List, [], ◌∷◌, ◌++◌, ◌⊎◌, length, map, take, get_or}
use Rattle.rc_spec.specs.Imports.{range_with_len, In, get_or_in, Within, union, inter, union_within, in_inter, rising_range, in_range_bounds, in_range_below, Pairs, IsRelation, SatisfiesOne, Satisfies, HoldsDeps, Follows}
use Rattle.std.proofs.Common.{inl, inr, refl, sym, ap, subst, ◌∙◌, arith}
use Rattle.std.proofs.lemmas.List.{take_more, take_all, map-append}
use Rattle.std.proofs.lemmas.List.FromFn.{map-range_with_len_more}
use Rattle.std.proofs.lemmas.Simd.{map-map}
use Rattle.rc_spec.specs.declared.items.Edge.{Edge}
use Rattle.rc_spec.specs.declared.spec.Spec.{Spec}
use Rattle.rc_spec.specs.Adequacy.{visited, IsLossless, IsAdequate}
use Rattle.rc_spec.specs.Calls.{all_columns}
use Rattle.rc_spec.specs.Contents.{projections, how_many, content, join, join_all, tuples_in}
use Rattle.rc_spec.specs.Decomposition.{bound, node_at, no_node, edge_at, no_edge}
use Rattle.rc_spec.specs.DecompositionLaws.{edge_at_in, visited_more}
use Rattle.rc_spec.specs.HeathLaws.{IsSeen, AreProjections, IsReached, AreProjections-projections, reached_more, rising_join_all, seen_all}
use Rattle.rc_spec.specs.InRange.{IsInRange, IsDepAmong}
use Rattle.rc_spec.specs.Laws.{AdequacyLosesNoTuple}

-- ---- columns in range

-- the columns of the dependencies are the specification's
pub holds_deps : (spec : Spec) → IsInRange spec → HoldsDeps (all_columns spec) spec.deps
holds_deps spec range d m =
    let k : IsDepAmong (length spec.columns) d = range.known_deps d m in
    ((λ c h. in_range_below (length spec.columns) c (k.left.below c h)), (λ c h. in_range_below (length spec.columns) c (k.right.below c h)))

-- and so are those that a node binds
pub bound_within : (spec : Spec) → IsInRange spec → (v : ℕ) → v < length spec.nodes → Within (bound spec v) (all_columns spec)
bound_within spec range v l c m = in_range_below (length spec.columns) c ((range.known_nodes (node_at spec v) (get_or_in spec.nodes v no_node l)).below c m)

pub target_within : (spec : Spec) → IsInRange spec → (n : ℕ) → n < length spec.edges → Within (bound spec (edge_at spec n).to) (all_columns spec)
target_within spec range n l = bound_within spec range (edge_at spec n).to (range.known_edges (edge_at spec n) (edge_at_in spec n l)).to

pub visited_within : (spec : Spec) → IsInRange spec → (n : ℕ) → n ≤ length spec.edges → Within (visited spec n) (all_columns spec)
visited_within spec range zero l = λ c m. absurd m
visited_within spec range (suc n) l =
    let k : n < length spec.edges = omega arith in
    let more : n + 1 ≡ suc n = omega arith in
    subst (λ j. Within (visited spec j) (all_columns spec)) more
    (subst (λ xs. Within xs (all_columns spec)) (sym (visited_more spec n k))
    (union_within (visited spec n) (bound spec (edge_at spec n).to) (all_columns spec) (visited_within spec range n (omega arith)) (target_within spec range n k)))

-- ---- joins and lists by number

join_all_more : (ts : List Pairs) (rest : List (List Pairs)) (us : List Pairs) → join_all ts (rest ++ us ∷ []) ≡ join (join_all ts rest) us
join_all_more ts [] us = refl
join_all_more ts (vs ∷ rest) us = join_all_more (join ts vs) rest us

-- the join of the first lists, begun with the one empty tuple
abbrev pub joined_first : (ℕ → List Pairs) → ℕ → List Pairs
joined_first rows n = join_all ([] ∷ []) (map rows (range_with_len 0 n))

joined_more : (rows : ℕ → List Pairs) (n : ℕ) → joined_first rows (n + 1) ≡ join (joined_first rows n) (rows n)
joined_more rows n =
    let z : 0 + n ≡ n = omega arith in
    ap (join_all ([] ∷ [])) (map-range_with_len_more rows 0 n n z) ∙ join_all_more ([] ∷ []) (map rows (range_with_len 0 n)) (rows n)

numbered_first : {A B : Type 0} (f : A → B) (xs : List A) (d : A) (n : ℕ) → n ≤ length xs → map f (take n xs) ≡ map (λ k. f (get_or xs k d)) (range_with_len 0 n)
numbered_first f xs d zero l = refl
numbered_first f xs d (suc n) l =
    let more : n + 1 ≡ suc n = omega arith in
    let z : 0 + n ≡ n = omega arith in
    subst (λ j. map f (take j xs) ≡ map (λ k. f (get_or xs k d)) (range_with_len 0 j)) more
    (ap (map f) (take_more xs n d (omega arith)) ∙ map-append f (take n xs) (get_or xs n d ∷ [])
    ∙ ap (λ ys. ys ++ f (get_or xs n d) ∷ []) (numbered_first f xs d n (omega arith))
    ∙ sym (map-range_with_len_more (λ k. f (get_or xs k d)) 0 n n z))

-- what stands for each element, by its number
pub map_numbered : {A B : Type 0} (f : A → B) (xs : List A) (d : A) → map f xs ≡ map (λ k. f (get_or xs k d)) (range_with_len 0 (length xs))
map_numbered f xs d = ap (map f) (sym (take_all (length xs) xs (omega arith))) ∙ numbered_first f xs d (length xs) (omega arith)

-- ---- the join along the edges

module _ (spec : Spec) (range : IsInRange spec) (ok : IsAdequate spec) (r : List Pairs) (i : IsRelation (all_columns spec) r) (h : Satisfies r spec.deps) where
  -- what implication says of one relation
  pub holds_on : (xs ys : List ℕ) → Within xs (all_columns spec) → Within ys (all_columns spec) → Follows spec.deps xs ys → SatisfiesOne r xs ys
  holds_on xs ys k l f = f (all_columns spec) (rising_range 0 (length spec.columns)) (holds_deps spec range) k l r i h

  pub lossless_holds : (xs ys : List ℕ) → Within xs (all_columns spec) → Within ys (all_columns spec) → IsLossless spec xs ys
      → SatisfiesOne r (inter xs ys) xs ⊎ SatisfiesOne r (inter xs ys) ys
  lossless_holds xs ys a b (inl f) = inl (holds_on (inter xs ys) xs (λ c m. a c (in_inter xs ys c m).0) a f)
  lossless_holds xs ys a b (inr f) = inr (holds_on (inter xs ys) ys (λ c m. b c (in_inter xs ys c m).1) b f)

  -- the rows of each edge are the projections on the columns of its target
  module _ (rows : ℕ → List Pairs) (are : (n : ℕ) → n < length spec.edges → AreProjections r (bound spec (edge_at spec n).to) (rows n)) where
    seen_more : (n : ℕ) → n < length spec.edges → IsReached r [] (visited spec n) (joined_first rows n) → IsSeen r [] (visited spec (n + 1)) (joined_first rows (n + 1))
    seen_more n l q =
        let ys : List ℕ = bound spec (edge_at spec n).to in
        let step : IsSeen r [] (union (visited spec n) ys) (join (joined_first rows n) (rows n)) =
        reached_more (all_columns spec) (rising_range 0 (length spec.columns)) r i [] tt (visited spec n) ys (joined_first rows n) (rows n) q (are n l)
        (lossless_holds (visited spec n) ys (visited_within spec range n (omega arith)) (target_within spec range n l) (ok.a6 n l).lossless) in
        subst (λ xs. IsSeen r [] xs (joined_first rows (n + 1))) (sym (visited_more spec n l))
        (subst (λ bs. IsSeen r [] (union (visited spec n) ys) bs) (sym (joined_more rows n)) step)

    reached_first : (n : ℕ) → n ≤ length spec.edges → IsReached r [] (visited spec n) (joined_first rows n)
    reached_first zero l = inl (refl, refl)
    reached_first (suc n) l =
        let more : n + 1 ≡ suc n = omega arith in
        inr (subst (λ j. IsSeen r [] (visited spec j) (joined_first rows j)) more (seen_more n (omega arith) (reached_first n (omega arith))))

    -- they represent the relation
    pub rows_represent : 0 < length spec.columns → joined_first rows (length spec.edges) ≡ r
    rows_represent some = elim (reached_first (length spec.edges) (omega arith)) [
      | inl e ↦ absurd (subst (In 0) e.0 (ok.a7 0 some))
      | inr b ↦
          seen_all (all_columns spec) (visited spec (length spec.edges)) r (rising_range 0 (length spec.columns)) i
          (λ c m. ok.a7 c (let k : (0 ≤ c) × (c < 0 + length spec.columns) = in_range_bounds 0 (length spec.columns) c m in omega (arith, k.1)))
          (joined_first rows (length spec.edges)) (rising_join_all ([] ∷ []) (map rows (range_with_len 0 (length spec.edges))) ((λ y q. absurd q), tt)) b
    ]

-- ---- contents

tuples_counted : (f : Pairs → ℕ) (ts : List Pairs) → tuples_in (map (λ t. (t, f t)) ts) ≡ ts
tuples_counted f [] = refl
tuples_counted f (t ∷ ts) = ap (λ l. t ∷ l) (tuples_counted f ts)

-- the tuples of a content are the projections
pub tuples_in-content : (spec : Spec) (r : List Pairs) (e : Edge) → tuples_in (content spec r e) ≡ projections (bound spec e.to) r
tuples_in-content spec r e = tuples_counted (how_many (bound spec e.to) r) (projections (bound spec e.to) r)

pub adequacy_law : AdequacyLosesNoTuple
adequacy_law spec range populated ok r i h =
    let rows : ℕ → List Pairs = λ n. tuples_in (content spec r (edge_at spec n)) in
    ap (join_all ([] ∷ [])) (map-map tuples_in (content spec r) spec.edges ∙ map_numbered (λ e. tuples_in (content spec r e)) spec.edges no_edge)
    ∙ rows_represent spec range ok r i h rows
    (λ n l. subst (AreProjections r (bound spec (edge_at spec n).to)) (sym (tuples_in-content spec r (edge_at spec n))) (AreProjections-projections r (bound spec (edge_at spec n).to)))
    populated.column
