-- A set of columns grows by the dependencies until it is closed.
use Rattle.std.specs.Prelude.{◌≡◌, ℕ, ◌+◌, ◌<◌, ◌≤◌, List, [], ◌∷◌, length, ◌↔◌}
use Rattle.std.proofs.Common.{inl, inr, refl, sym, ap, subst, ◌∙◌, arith, get_or}
use Rattle.std.proofs.lemmas.Bool.{cases_lt}
use Rattle.std.proofs.lemmas.List.{get_or_default}
use Rattle.rc_tuple.specs.RisingSet.{In}
use Rattle.rc_tuple.specs.RisingSetLaws.{get_or_in, in_from_places}
use Rattle.rc_tuple.specs.ColSet.{Within, union}
use Rattle.rc_tuple.specs.ColSetLaws.{union_left, union_right}
use Rattle.rc_tuple.specs.Relation.{Follows}
use Rattle.rc_tuple.specs.declared.dep.Dep.{Dep}
use Rattle.rc_fd.specs.Closed.{IsClosed}
use Rattle.rc_fd.specs.ClosedLaws.{follows_closed}
use Rattle.rc_fd.specs.FollowsLaws.{follows_subset, follows_dependency, follows_transitive, follows_union}

-- ---- one turn over the dependencies

-- the right sides of the first n dependencies whose left sides lie in the set have been taken
pub record AreFirstTaken (deps : List Dep) (set all : List ℕ) (n : ℕ) : Type 0 where
  pub holds : Within set all
  pub follows : Follows deps set all
  pub takes : (k : ℕ) (o : Dep) → k < n → Within (get_or deps k o).left set → Within (get_or deps k o).right all

pub taken_first : (deps : List Dep) (set : List ℕ) → AreFirstTaken deps set set 0
taken_first deps set = record { holds = λ c h. h; follows = follows_subset deps set set (λ c h. h); takes = λ k o h. absurd (omega arith) }

-- the columns may grow if the next right side is then among them
taken_next : (deps : List Dep) (set all new : List ℕ) (n : ℕ) (d : Dep) → n < length deps → d ≡ get_or deps n d → AreFirstTaken deps set all n
    → Within all new → Follows deps set new → (Within d.left set → Within d.right new) → AreFirstTaken deps set new (n + 1)
taken_next deps set all new n d l e t w f g = record { holds = λ c h. w c (t.holds c h); follows = f; takes = step }
  where
    step : (k : ℕ) (o : Dep) → k < n + 1 → Within (get_or deps k o).left set → Within (get_or deps k o).right new
    step k o h v = elim (cases_lt k n) [
      | inl q ↦ (λ c m. w c (t.takes k o q v c m))
      | inr q ↦ (let m : k ≡ n = omega arith in
          let i : get_or deps k o ≡ d = ap (λ z. get_or deps z o) m ∙ get_or_default deps n o d l ∙ sym e in
          subst (λ (z : Dep). Within z.left set → Within z.right new) (sym i) g v)
    ]

pub taken_more : (deps : List Dep) (set all new : List ℕ) (n : ℕ) (d : Dep) → n < length deps → d ≡ get_or deps n d → AreFirstTaken deps set all n
    → Within d.left set → new ≡ union all d.right → AreFirstTaken deps set new (n + 1)
taken_more deps set all new n d l e t w f =
    subst (λ z. AreFirstTaken deps set z (n + 1)) (sym f)
    (taken_next deps set all (union all d.right) n d l e t (union_left all d.right)
    (follows_union deps set all d.right t.follows
    (follows_transitive deps set d.left d.right (follows_subset deps set d.left w) (follows_dependency deps d (subst (λ z. In z deps) (sym e) (get_or_in deps n d l)))))
    (λ v. union_right all d.right))

pub taken_same : (deps : List Dep) (set all : List ℕ) (n : ℕ) (d : Dep) → n < length deps → d ≡ get_or deps n d → AreFirstTaken deps set all n → (Within d.left set → ⊥) → AreFirstTaken deps set all (n + 1)
taken_same deps set all n d l e t w = taken_next deps set all all n d l e t (λ c h. h) t.follows (λ v. absurd (w v))

pub taken_all : (deps : List Dep) (set all : List ℕ) (n : ℕ) → length deps ≤ n → AreFirstTaken deps set all n → (d : Dep) → In d deps → Within d.left set → Within d.right all
taken_all deps set all n l t d m = in_from_places (λ (z : Dep). Within z.left set → Within z.right all) d deps (λ k h. t.takes k d (omega arith)) d m

-- ---- a set to which a turn adds nothing

pub closed_at_end : (deps : List Dep) (all more : List ℕ) → Within more all → ((d : Dep) → In d deps → Within d.left all → Within d.right more) → IsClosed deps more
closed_at_end deps all more w f d m l = f d m (λ c h. w c (l c h))

pub closure_sets : (deps : List Dep) (from all : List ℕ) → Within from all → Follows deps from all → IsClosed deps all → (ys : List ℕ) → Within ys all ↔ Follows deps from ys
closure_sets deps from all w f closed ys = (
  (λ v. follows_transitive deps from all ys f (follows_subset deps all ys v)),
  λ g. follows_closed deps from all ys closed w g,
)

pub closure_columns : (deps : List Dep) (from all : List ℕ) → ((ys : List ℕ) → Within ys all ↔ Follows deps from ys) → (c : ℕ) → In c all ↔ Follows deps from (c ∷ [])
closure_columns deps from all f c = ((λ h. (f (c ∷ [])).0 (λ k q. elim q [ inl e ↦ subst (λ z. In z all) (sym e) h | inr z ↦ absurd z ])), λ g. (f (c ∷ [])).1 g c (inl refl))
