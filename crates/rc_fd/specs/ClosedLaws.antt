-- A closed set has what follows from its columns: the two tuples that agree exactly on it satisfy the dependencies.
use Rattle.std.proofs.Common.{◌≡◌, ℕ, ◌<◌, ◌^◌, Bool, true, false, cond, List, [], ◌∷◌, ◌++◌, refl, sym, ap, subst, ◌∙◌, ◌⊎◌, inl, inr, arith, lit<}
use Rattle.std.specs.Prelude.{map}
use Rattle.std.specs.List.{flat_map}
use Rattle.std.specs.Ordering.{nat_cmp}
use Rattle.std.proofs.lemmas.Bool.{cases_Bool}
use Rattle.rc_tuple.specs.RisingSet.{In, gather}
use Rattle.rc_tuple.specs.RisingSetLaws.{nat_order, rising_gather, in_gather, gather_in, in_map, map_in, append_in_left, append_in_right, flat_map_in, in_has, has_in}
use Rattle.rc_tuple.specs.ColSet.{has, Within}
use Rattle.rc_tuple.specs.Tuple.{Pairs, cols_of, project, tuple_cmp}
use Rattle.rc_tuple.specs.TupleLaws.{tuple_order, in_project, project_in}
use Rattle.rc_tuple.specs.Relation.{IsOver, IsRelation, Satisfies, HoldsDeps, Follows}
use Rattle.rc_tuple.specs.declared.dep.Dep.{Dep}
use Rattle.rc_fd.specs.Closed.{IsClosed}

-- ---- tuples by a value for each column

made : List ℕ → (ℕ → ℕ) → Pairs
made columns f = map (λ c. (c, f c)) columns

cols_of-made : (columns : List ℕ) (f : ℕ → ℕ) → cols_of (made columns f) ≡ columns
unfolding made
cols_of-made [] f = refl
cols_of-made (c ∷ columns) f = ap (λ w. c ∷ w) (cols_of-made columns f)

agree_within : (ys cs columns : List ℕ) (f g : ℕ → ℕ) → ((c : ℕ) → In c cs → f c ≡ g c) → Within ys cs → project ys (made columns f) ≡ project ys (made columns g)
unfolding made
agree_within ys cs [] f g same w = refl
agree_within ys cs (c ∷ columns) f g same w = go (has ys c) (λ e. same c (w c (in_has ys c e))) refl (agree_within ys cs columns f g same w)
  where
    go : (b : Bool) → (has ys c ≡ true → f c ≡ g c) → has ys c ≡ b → project ys (made columns f) ≡ project ys (made columns g)
        → cond b ((c, f c) ∷ project ys (made columns f)) (project ys (made columns f)) ≡ cond b ((c, g c) ∷ project ys (made columns g)) (project ys (made columns g))
    go true h e ih = λ i. (c, h e i) ∷ ih i
    go false h e ih = ih

same_within : (ys columns : List ℕ) (f g : ℕ → ℕ) → project ys (made columns f) ≡ project ys (made columns g) → (c : ℕ) → In c ys → In c columns → f c ≡ g c
unfolding made
same_within ys columns f g e c h k =
    let a : In (c, f c) (project ys (made columns g)) = subst (In (c, f c)) e (project_in ys (c, f c) (made columns f) (map_in (λ c. (c, f c)) c columns k) h) in
    let b : (d : ℕ) × In d columns × ((c, f c) ≡ (d, g d)) = in_map (λ c. (c, g c)) (c, f c) columns (in_project ys (c, f c) (made columns g) a).0 in
    ap (λ (w : ℕ × ℕ). w.1) b.2 ∙ ap g (sym (ap (λ (w : ℕ × ℕ). w.0) b.2))

-- ---- the two tuples: all 0, and 1 off the closed set

off : List ℕ → ℕ → ℕ
off cs c = cond (has cs c) 0 1

module _ (columns cs : List ℕ) where
  zeros : Pairs
  zeros = made columns (λ c. 0)

  ones : Pairs
  ones = made columns (off cs)

  two : List Pairs
  two = gather tuple_cmp (zeros ∷ (ones ∷ []))

  off_in : (c : ℕ) → In c cs → 0 ≡ off cs c
  unfolding off
  off_in c h = ap (λ b. cond b 0 1) (sym (has_in cs c h))

  in_off : (c : ℕ) → 0 ≡ off cs c → In c cs
  unfolding off
  in_off c e = elim (cases_Bool (has cs c)) [ inl h ↦ in_has cs c h | inr h ↦ absurd (let z : 0 ≡ 1 = e ∙ ap (λ b. cond b 0 1) h in omega arith) ]

  -- they agree on what lies in the set, and on nothing else
  zeros_ones : (ys : List ℕ) → Within ys cs → project ys zeros ≡ project ys ones
  unfolding zeros ones
  zeros_ones ys w = agree_within ys cs columns (λ c. 0) (off cs) off_in w

  zeros_ones-within : (ys : List ℕ) → Within ys columns → project ys zeros ≡ project ys ones → Within ys cs
  unfolding zeros ones
  zeros_ones-within ys w e c h = in_off c (same_within ys columns (λ c. 0) (off cs) e c h (w c h))

  two_cases : (t : Pairs) → In t two → (t ≡ zeros) ⊎ (t ≡ ones)
  unfolding two
  two_cases t h = elim (in_gather tuple_cmp tuple_order t (zeros ∷ (ones ∷ [])) h) [ inl e ↦ inl e | inr q ↦ elim q [ inl e ↦ inr e | inr z ↦ absurd z ] ]

  zeros_in : In zeros two
  unfolding two
  zeros_in = gather_in tuple_cmp tuple_order zeros (zeros ∷ (ones ∷ [])) (inl refl)

  ones_in : In ones two
  unfolding two
  ones_in = gather_in tuple_cmp tuple_order ones (zeros ∷ (ones ∷ [])) (inr (inl refl))

  IsOver-made : (f : ℕ → ℕ) → ((c : ℕ) → f c < 2 ^ 64) → IsOver columns (made columns f)
  unfolding made
  IsOver-made f below = record {
    over = cols_of-made columns f;
    fits = λ p h. let b : (d : ℕ) × In d columns × (p ≡ (d, f d)) = in_map (λ c. (c, f c)) p columns h in subst (λ (w : ℕ × ℕ). w.1 < 2 ^ 64) (sym b.2) (below b.0);
  }

  off_fits : (c : ℕ) → off cs c < 2 ^ 64
  unfolding off
  off_fits c = go (has cs c)
    where
      go : (b : Bool) → cond b 0 1 < 2 ^ 64
      go true = lit< tt
      go false = lit< tt

  IsRelation-two : IsRelation columns two
  unfolding two zeros ones
  IsRelation-two = record {
    rising = rising_gather tuple_cmp tuple_order (zeros ∷ (ones ∷ []));
    each = λ t h. elim (two_cases t h) [
      | inl e ↦ subst (IsOver columns) (sym e) (IsOver-made (λ c. 0) (λ c. lit< tt))
      | inr e ↦ subst (IsOver columns) (sym e) (IsOver-made (off cs) off_fits)
    ];
  }

  two_satisfy : (deps : List Dep) → HoldsDeps columns deps → IsClosed deps cs → Satisfies two deps
  two_satisfy deps holds closed d i t u h k e = go (two_cases t h) (two_cases u k)
    where
      apart : project d.left zeros ≡ project d.left ones → project d.right zeros ≡ project d.right ones
      apart e = zeros_ones d.right (closed d i (zeros_ones-within d.left (holds d i).0 e))

      at : (v w : Pairs) → t ≡ v → u ≡ w → project d.left v ≡ project d.left w
      at v w f g = ap (project d.left) (sym f) ∙ e ∙ ap (project d.left) g

      back : (v w : Pairs) → t ≡ v → u ≡ w → project d.right v ≡ project d.right w → project d.right t ≡ project d.right u
      back v w f g x = ap (project d.right) f ∙ x ∙ ap (project d.right) (sym g)

      go : (t ≡ zeros) ⊎ (t ≡ ones) → (u ≡ zeros) ⊎ (u ≡ ones) → project d.right t ≡ project d.right u
      go (inl f) (inl g) = back zeros zeros f g refl
      go (inl f) (inr g) = back zeros ones f g (apart (at zeros ones f g))
      go (inr f) (inl g) = back ones zeros f g (sym (apart (sym (at ones zeros f g))))
      go (inr f) (inr g) = back ones ones f g refl

-- ---- what follows from columns of a closed set lies in it

abbrev pub FollowsClosed : Type 0
FollowsClosed = (deps : List Dep) (xs cs ys : List ℕ) → IsClosed deps cs → Within xs cs → Follows deps xs ys → Within ys cs

pub follows_closed : FollowsClosed
follows_closed deps xs cs ys closed w f =
    let both : List ℕ = flat_map (λ d. d.left ++ d.right) deps in
    let all : List ℕ = ys ++ (xs ++ both) in
    let columns : List ℕ = gather nat_cmp all in
    let into : (c : ℕ) → In c all → In c columns = λ c h. gather_in nat_cmp nat_order c all h in
    let has_ys : Within ys columns = λ c h. into c (append_in_left c ys (xs ++ both) h) in
    let has_xs : Within xs columns = λ c h. into c (append_in_right c ys (xs ++ both) (append_in_left c xs both h)) in
    let has_both : (d : Dep) → In d deps → (c : ℕ) → In c (d.left ++ d.right) → In c columns =
    λ d i c h. into c (append_in_right c ys (xs ++ both) (append_in_right c xs both (flat_map_in (λ d. d.left ++ d.right) c d deps i h))) in
    let holds : HoldsDeps columns deps = λ d i. ((λ c h. has_both d i c (append_in_left c d.left d.right h)), (λ c h. has_both d i c (append_in_right c d.left d.right h))) in
    zeros_ones-within columns cs ys has_ys
    (f columns (rising_gather nat_cmp nat_order all) holds has_xs has_ys (two columns cs) (IsRelation-two columns cs) (two_satisfy columns cs deps holds closed)
    (zeros columns cs) (ones columns cs) (zeros_in columns cs) (ones_in columns cs) (zeros_ones columns cs xs w))
