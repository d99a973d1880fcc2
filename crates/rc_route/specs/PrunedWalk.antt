-- The pruned walk for a need: all edges, with those left out without which the list is still good.
use Rattle.std.specs.Prelude.{◌≡◌, ℕ, zero, suc, List, [], ◌∷◌, ◌⊎◌}
use Rattle.rc_spec.specs.declared.spec.Spec.{Spec}
use Rattle.rc_route.specs.GoodRoutes.{IsGoodRoute, all_edges}

-- the first list turned round, before the second
abbrev pub onto : List ℕ → List ℕ → List ℕ
onto [] ys = ys
onto (x ∷ xs) ys = onto xs (x ∷ ys)

-- what is left where the edges of the first list, given from the last one back, are still to be tried, and those of the second were tried and stay: an edge is left out exactly where the list without it is good
abbrev pub IsLeftFrom : (List ℕ → Type 0) → List ℕ → List ℕ → List ℕ → Type 0
IsLeftFrom Good [] kept left = left ≡ kept
IsLeftFrom Good (e ∷ before) kept left =
    (Good (onto before kept) × IsLeftFrom Good before kept left) ⊎ ((Good (onto before kept) → ⊥) × IsLeftFrom Good before (e ∷ kept) left)

-- one pass, from the last edge to the first
abbrev pub IsPass : (List ℕ → Type 0) → List ℕ → List ℕ → Type 0
IsPass Good es left = IsLeftFrom Good (onto es []) [] left

-- so many passes, one after another
abbrev pub ArePasses : (List ℕ → Type 0) → ℕ → List ℕ → List ℕ → Type 0
ArePasses Good zero es left = left ≡ es
ArePasses Good (suc n) es left = (once : List ℕ) × IsPass Good es once × ArePasses Good n once left

-- what passes leave of all edges, until one leaves nothing out
pub record IsPrunedWalk (spec : Spec) (need walk : List ℕ) : Type 0 where
  pub passes : (n : ℕ) × ArePasses (IsGoodRoute spec need) n (all_edges spec) walk
  pub last : IsPass (IsGoodRoute spec need) walk walk
