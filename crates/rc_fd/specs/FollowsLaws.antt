-- Laws of implied dependencies, each shown of the relations that satisfy the dependencies.
use Rattle.std.proofs.Common.{◌≡◌, ℕ, Bool, true, List, [], ◌∷◌, ◌⊎◌, sym, subst, inl, inr, refl}
use Rattle.std.specs.Prelude.{◌↔◌}
use Rattle.std.specs.Ordering.{nat_cmp}
use Rattle.rc_tuple.specs.RisingSet.{In, IsRising}
use Rattle.rc_tuple.specs.ColSet.{Within, inter, union}
use Rattle.rc_tuple.specs.ColSetLaws.{in_union, union_left, union_right}
use Rattle.rc_tuple.specs.Tuple.{Pairs}
use Rattle.rc_tuple.specs.TupleLaws.{project_less, project_by}
use Rattle.rc_tuple.specs.Relation.{IsRelation, SatisfiesOne, Satisfies, HoldsDeps, Follows}
use Rattle.rc_tuple.specs.RelationLaws.{rising_of}
use Rattle.rc_tuple.specs.declared.dep.Dep.{Dep}
use Rattle.rc_fd.specs.ClosedLaws.{follows_closed}

-- ---- the laws

abbrev pub FollowsSubset : Type 0
FollowsSubset = (deps : List Dep) (xs ys : List ℕ) → Within ys xs → Follows deps xs ys

pub follows_subset : FollowsSubset
follows_subset deps xs ys w columns a h k l r i s t u m n e = project_less ys xs t u w e

abbrev pub FollowsDependency : Type 0
FollowsDependency = (deps : List Dep) (d : Dep) → In d deps → Follows deps d.left d.right

pub follows_dependency : FollowsDependency
follows_dependency deps d m columns a h k l r i s = s d m

abbrev pub FollowsHeld : Type 0
FollowsHeld = (deps : List Dep) (columns xs ys : List ℕ) → HoldsDeps columns deps → Within xs columns → Follows deps xs ys → Within ys columns

-- columns that hold the dependencies are closed
pub follows_held : FollowsHeld
follows_held deps columns xs ys h w f = follows_closed deps xs columns ys (λ d m l. (h d m).1) w f

abbrev pub FollowsSatisfied : Type 0
FollowsSatisfied = (deps : List Dep) (columns xs ys : List ℕ) (r : List Pairs) → IsRising nat_cmp columns → HoldsDeps columns deps → Within xs columns
    → IsRelation columns r → Satisfies r deps → Follows deps xs ys → SatisfiesOne r xs ys

pub follows_satisfied : FollowsSatisfied
follows_satisfied deps columns xs ys r a h w i s f = f columns a h w (follows_held deps columns xs ys h w f) r i s

abbrev pub FollowsTransitive : Type 0
FollowsTransitive = (deps : List Dep) (xs ys zs : List ℕ) → Follows deps xs ys → Follows deps ys zs → Follows deps xs zs

pub follows_transitive : FollowsTransitive
follows_transitive deps xs ys zs f g columns a h k l r i s t u m n e =
    let w : Within ys columns = follows_held deps columns xs ys h k f in
    g columns a h w l r i s t u m n (f columns a h k w r i s t u m n e)

abbrev pub FollowsColumns : Type 0
FollowsColumns = (deps : List Dep) (xs ys : List ℕ) → Follows deps xs ys ↔ ((c : ℕ) → In c ys → Follows deps xs (c ∷ []))

-- a set follows where each of its columns lies in a set that follows
pub follows_by : (deps : List Dep) (xs ys : List ℕ) → ((c : ℕ) → In c ys → (zs : List ℕ) × In c zs × Follows deps xs zs) → Follows deps xs ys
follows_by deps xs ys f columns a h k l r i s t u m n e =
    project_by ys t u (rising_of columns r a i t m) (rising_of columns r a i u n)
    (λ c q. ((f c q).0, (f c q).1, follows_satisfied deps columns xs (f c q).0 r a h k i s (f c q).2 t u m n e))

one_within : (c : ℕ) (ys : List ℕ) → In c ys → Within (c ∷ []) ys
one_within c ys h k q = elim q [ inl e ↦ subst (λ z. In z ys) (sym e) h | inr z ↦ absurd z ]

pub follows_columns : FollowsColumns
follows_columns deps xs ys = (
  (λ f c h. follows_transitive deps xs ys (c ∷ []) f (follows_subset deps ys (c ∷ []) (one_within c ys h))),
  λ f. follows_by deps xs ys (λ c h. (c ∷ [], inl refl, f c h)),
)

abbrev pub FollowsUnion : Type 0
FollowsUnion = (deps : List Dep) (xs ys zs : List ℕ) → Follows deps xs ys → Follows deps xs zs → Follows deps xs (union ys zs)

pub follows_union : FollowsUnion
follows_union deps xs ys zs f g = follows_by deps xs (union ys zs) (λ c h. elim (in_union ys zs c h) [ inl q ↦ (ys, q, f) | inr q ↦ (zs, q, g) ])

abbrev pub FollowsWeaker : Type 0
FollowsWeaker = (deps more : List Dep) (xs ws ys zs : List ℕ) → ((d : Dep) → In d deps → In d more) → Within xs ws → Within zs ys → Follows deps xs ys → Follows more ws zs

pub follows_weaker : FollowsWeaker
follows_weaker deps more xs ws ys zs o v w f columns a h k l r i s t u m n e =
    project_less zs ys t u w
    (follows_satisfied deps columns xs ys r a (λ d q. h d (o d q)) (λ c q. k c (v c q)) i (λ d q. s d (o d q)) f t u m n (project_less xs ws t u v e))

abbrev pub FollowsAugmented : Type 0
FollowsAugmented = (deps : List Dep) (xs ys zs : List ℕ) → Follows deps xs ys → Follows deps (union xs zs) (union ys zs)

pub follows_augmented : FollowsAugmented
follows_augmented deps xs ys zs f =
    follows_union deps (union xs zs) ys zs
    (follows_weaker deps deps xs (union xs zs) ys ys (λ d m. m) (union_left xs zs) (λ c m. m) f)
    (follows_subset deps (union xs zs) zs (union_right xs zs))

-- ---- joins that lose no tuple

-- what was tested of the lists that a call was given, said of those that they equal
pub lossless_at : (deps others : List Dep) (xs xs' ys ys' : List ℕ) (b : Bool) → deps ≡ others → xs ≡ xs' → ys ≡ ys'
    → (b ≡ true) ↔ (Follows deps (inter xs ys) xs ⊎ Follows deps (inter xs ys) ys) → (b ≡ true) ↔ (Follows others (inter xs' ys') xs' ⊎ Follows others (inter xs' ys') ys')
lossless_at deps others xs xs' ys ys' b d x y h =
    subst (λ l. (b ≡ true) ↔ (Follows l (inter xs' ys') xs' ⊎ Follows l (inter xs' ys') ys')) d
    (subst (λ l. (b ≡ true) ↔ (Follows deps (inter l ys') l ⊎ Follows deps (inter l ys') ys')) x
    (subst (λ l. (b ≡ true) ↔ (Follows deps (inter xs l) xs ⊎ Follows deps (inter xs l) l)) y h))
