-- What dependencies imply can be decided, by a closed set of columns.
use Rattle.std.specs.Prelude.{◌≡◌, ℕ, zero, suc, ◌<◌, ◌≤◌, false, List, [], ◌∷◌, ◌⊎◌}
use Rattle.std.proofs.Common.{inl, inr, refl, sym, subst, ◌∙◌, arith}
use Rattle.std.proofs.lemmas.Bool.{false≢true, cases_Bool}
use Rattle.rc_route.specs.Imports.{In, Within, IsColSet, is_within, union, within_from_test, test_from_within, union_left, missing, missing_union, Follows, Dep, IsClosed, follows_closed, follows_subset, follows_dependency, follows_transitive, follows_union}

-- it holds, or it does not
abbrev pub IsDecided : Type 0 → Type 0
IsDecided A = A ⊎ (A → ⊥)

pub both_decided : {A B : Type 0} → IsDecided A → IsDecided B → IsDecided (A × B)
both_decided (inl a) (inl b) = inl (a, b)
both_decided (inl a) (inr b) = inr (λ q. b q.1)
both_decided (inr a) d = inr (λ q. a q.0)

pub either_decided : {A B : Type 0} → IsDecided A → IsDecided B → IsDecided (A ⊎ B)
either_decided (inl a) d = inl (inl a)
either_decided (inr a) (inl b) = inl (inr b)
either_decided (inr a) (inr b) = inr (λ q. elim q [ inl x ↦ a x | inr y ↦ b y ])

pub within_decided : (xs ys : List ℕ) → IsDecided (Within xs ys)
within_decided xs ys = elim (cases_Bool (is_within xs ys)) [
  | inl e ↦ inl (within_from_test xs ys e)
  | inr e ↦ inr (λ w. false≢true (sym e ∙ test_from_within xs ys w))
]

-- a dependency of the list that the set does not keep
record IsBroken (deps : List Dep) (xs : List ℕ) (d : Dep) : Type 0 where
  known : In d deps
  left : Within d.left xs
  right : is_within d.right xs ≡ false

closed_or_broken : (deps : List Dep) (xs : List ℕ) → IsClosed deps xs ⊎ ((d : Dep) × IsBroken deps xs d)
closed_or_broken [] xs = inl (λ d m w. absurd m)
closed_or_broken (d ∷ deps) xs = elim (closed_or_broken deps xs) [
  | inr q ↦ inr (q.0, record { known = inr q.1.known; left = q.1.left; right = q.1.right })
  | inl closed ↦ elim (within_decided d.left xs) [
    | inr out ↦ inl (λ k m w. elim m [ inl e ↦ absurd (out (subst (λ (z : Dep). Within z.left xs) e w)) | inr n ↦ closed k n w ])
    | inl w ↦ elim (cases_Bool (is_within d.right xs)) [
      | inl e ↦ inl (λ k m v. elim m [ inl same ↦ subst (λ (z : Dep). Within z.right xs) (sym same) (within_from_test d.right xs e) | inr n ↦ closed k n v ])
      | inr e ↦ inr (d, record { known = inl refl; left = w; right = e })
    ]
  ]
]

-- a closed set that the columns determine
pub record IsClosure (deps : List Dep) (xs cs : List ℕ) : Type 0 where
  pub closed : IsClosed deps cs
  pub holds : Within xs cs
  pub follows : Follows deps xs cs

-- the set with the right side of a dependency whose left side it has
with_right : (deps : List Dep) (xs : List ℕ) (d : Dep) → In d deps → Within d.left xs → Follows deps xs (union xs d.right)
with_right deps xs d m w =
    follows_union deps xs xs d.right (follows_subset deps xs xs (λ c h. h))
    (follows_transitive deps xs d.left d.right (follows_subset deps xs d.left w) (follows_dependency deps d m))

closure_of_more : (deps : List Dep) (xs : List ℕ) (d : Dep) → In d deps → Within d.left xs → (cs : List ℕ) × IsClosure deps (union xs d.right) cs → (cs : List ℕ) × IsClosure deps xs cs
closure_of_more deps xs d m w q = (
  q.0,
  record {
    closed = q.1.closed;
    holds = λ c h. q.1.holds c (union_left xs d.right c h);
    follows = follows_transitive deps xs (union xs d.right) q.0 (with_right deps xs d m w) q.1.follows;
  },
)

has_closure_from : (deps : List Dep) → ((d : Dep) → In d deps → IsColSet d.right) → (n : ℕ) (xs : List ℕ) → missing 32 xs ≤ n → (cs : List ℕ) × IsClosure deps xs cs
has_closure_from deps sets zero xs l = elim (closed_or_broken deps xs) [
  | inl closed ↦ (xs, record { closed = closed; holds = λ c h. h; follows = follows_subset deps xs xs (λ c h. h) })
  | inr q ↦ absurd (let less = missing_union xs q.0.right (sets q.0 q.1.known) q.1.right in omega arith)
]
has_closure_from deps sets (suc n) xs l = elim (closed_or_broken deps xs) [
  | inl closed ↦ (xs, record { closed = closed; holds = λ c h. h; follows = follows_subset deps xs xs (λ c h. h) })
  | inr q ↦
      let less : missing 32 (union xs q.0.right) < missing 32 xs = missing_union xs q.0.right (sets q.0 q.1.known) q.1.right in
      closure_of_more deps xs q.0 q.1.known q.1.left (has_closure_from deps sets n (union xs q.0.right) (omega arith))
]

-- the columns have a closure
pub has_closure : (deps : List Dep) → ((d : Dep) → In d deps → IsColSet d.right) → (xs : List ℕ) → (cs : List ℕ) × IsClosure deps xs cs
has_closure deps sets xs = has_closure_from deps sets (missing 32 xs) xs (omega arith)

pub follows_decided : (deps : List Dep) → ((d : Dep) → In d deps → IsColSet d.right) → (xs ys : List ℕ) → IsDecided (Follows deps xs ys)
follows_decided deps sets xs ys =
    let c : (cs : List ℕ) × IsClosure deps xs cs = has_closure deps sets xs in
    elim (within_decided ys c.0) [
      | inl w ↦ inl (follows_transitive deps xs c.0 ys c.1.follows (follows_subset deps c.0 ys w))
      | inr out ↦ inr (λ f. out (follows_closed deps xs c.0 ys c.1.closed c.1.holds f))
    ]
