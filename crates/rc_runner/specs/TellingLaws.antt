-- Laws of callers that tell each other what they have seen.
use Rattle.std.proofs.Common.{◌≡◌, ℕ, ◌+◌, ◌<◌, ◌≤◌, List, [], ◌∷◌, ◌++◌, All, map, length, take, get_or, set, sym, refl, ap, ◌∙◌, subst, arith}
use Rattle.std.proofs.lemmas.List.Elements.{All-cons, All-map, All-more, All-nil, All-push, All-same, All-weaker}
use Rattle.std.proofs.lemmas.List.{get_or-map, length-map, take_all, take_more_set}
use Rattle.std.proofs.lemmas.Simd.{map-map}
use Rattle.std.proofs.Math.Seq.{map-set_same}
use Rattle.rc_rel.specs.declared.entry.Placed.{Placed}
use Rattle.rc_runner.specs.Rounds.{HasHeard, HasHeardAll, HaveHeard, HaveLearnt, Stand}

-- lists with the same of something are as long
pub same_length : {A B : Type 0} (f : A → B) (xs ys : List A) → map f xs ≡ map f ys → length xs ≡ length ys
same_length f xs ys same = sym (length-map xs f) ∙ ap length same ∙ length-map ys f

-- a caller is replaced by one of the same
pub set_same : {A B : Type 0} (f : A → B) (all first : List A) (i : ℕ) (a d : A) → f a ≡ f (get_or all i d) → map f all ≡ map f first
    → map f (set all i a) ≡ map f first
set_same f all first i a d is same = map-set_same f all i a d is ∙ same

-- a caller that has heard the first i of the others hears the one after them
heard_one : (others : List Stand) (i : ℕ) (o s t u : Stand) → i < length others → o ≡ get_or others i o → HasHeardAll (take i others) s t → HasHeard o t u
    → HasHeardAll (take (i + 1) others) s u
heard_one others i o s t u l is g h =
    let seen : t.seen ≤ u.seen = h.seen in
    record {
      own = h.own ∙ g.own;
      seen = let a = g.seen in omega (arith, a, seen);
      told = All-more (λ (x : Stand). x.seen ≤ u.seen) others i o l
          (All-weaker (λ (x : Stand). x.seen ≤ t.seen) (λ x. x.seen ≤ u.seen) (λ x a. omega (arith, a, seen)) (take i others) g.told)
          (subst (λ (x : Stand). x.seen ≤ u.seen) is h.told);
    }

module _ {A : Type 0} (stand : A → Stand) (all first : List A) (i : ℕ) (d : A) (in_range : i < length first) where
  -- the others show what they showed at first
  pub heard_more : (s t u : Stand) → map stand all ≡ map stand first → HasHeardAll (take i (map stand first)) s t → HasHeard (stand (get_or all i d)) t u
      → HasHeardAll (take (i + 1) (map stand first)) s u
  heard_more s t u same g h =
      let o : Stand = stand (get_or all i d) in
      let l : i < length all = subst (λ n. i < n) (sym (same_length stand all first same)) in_range in
      let m : i < length (map stand first) = subst (λ n. i < n) (sym (length-map first stand)) in_range in
      let is : o ≡ get_or (map stand first) i o = sym (get_or-map stand all i d o l) ∙ ap (λ os. get_or os i o) same in
      heard_one (map stand first) i o s t u m is g h

  -- one more of the others has seen what the teller has
  pub told_more : (a : A) (teller : Stand) → map (λ (x : A). (stand x).own) all ≡ map (λ (x : A). (stand x).own) first → teller.seen ≤ (stand a).seen
      → All (λ (x : A). teller.seen ≤ (stand x).seen) (take i all) → All (λ (x : A). teller.seen ≤ (stand x).seen) (take (i + 1) (set all i a))
  told_more a teller same h told =
      let P : A → Type 0 = λ x. teller.seen ≤ (stand x).seen in
      let l : i < length all = subst (λ n. i < n) (sym (same_length (λ (x : A). (stand x).own) all first same)) in_range in
      All-same P (take (i + 1) (set all i a)) (take i all ++ a ∷ []) (take_more_set all i a l) (All-push P (take i all) a told h)

-- where the callers keep their entries, and each has seen what the teller has, they have heard it
pub told_all : {A : Type 0} (stand : A → Stand) (olds news : List A) (teller : Stand) (i : ℕ) → length olds ≤ i
    → map (λ (a : A). (stand a).own) news ≡ map (λ (a : A). (stand a).own) olds → All (λ (a : A). teller.seen ≤ (stand a).seen) (take i news)
    → HaveHeard teller (map stand olds) (map stand news)
told_all {A} stand olds news teller i end own told =
    let own_of : A → List Placed = λ a. (stand a).own in
    let whole : length news ≤ i = subst (λ n. n ≤ i) (sym (same_length own_of news olds own)) end in
    record {
      own = map-map (λ (s : Stand). s.own) stand news ∙ own ∙ sym (map-map (λ (s : Stand). s.own) stand olds);
      told = All-map (λ (u : Stand). teller.seen ≤ u.seen) stand news
          (subst (λ (l : List A). All (λ (a : A). teller.seen ≤ (stand a).seen) l) (take_all i news whole) told);
    }
