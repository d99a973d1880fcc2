-- When a decomposition is adequate: it can represent every relation that satisfies the dependencies. (PLDI 2011, adequacy.)
use Rattle.std.specs.Prelude.{◌≡◌, ℕ, zero, suc, ◌<◌, List, [], length, map, take, ◌⊎◌}
use Rattle.rc_spec.specs.Imports.{flat_map, nat_cmp, In, gather, Within, inter, Follows}
use Rattle.rc_spec.specs.declared.items.Edge.{Edge}
use Rattle.rc_spec.specs.declared.items.EdgeKind.TheVariants.{Singleton}
use Rattle.rc_spec.specs.declared.spec.Spec.{Spec}
use Rattle.rc_spec.specs.Decomposition.{bound, edge_at, source_and_key, LiesOnCircle}

-- an edge ends at the node
abbrev pub HasEdgeInto : Spec → ℕ → Type 0
HasEdgeInto spec v = (e : Edge) × In e spec.edges × (e.to ≡ v)

-- an edge begins at the node
abbrev pub HasEdgeOutOf : Spec → ℕ → Type 0
HasEdgeOutOf spec v = (e : Edge) × In e spec.edges × (e.from ≡ v)

-- the root binds nothing, no edge enters it, and an edge leaves it
pub record IsRoot (spec : Spec) (v : ℕ) : Type 0 where
  pub nothing : bound spec v ≡ []
  pub no_edge_in : HasEdgeInto spec v → ⊥
  pub edge_out : HasEdgeOutOf spec v

-- A1: the first node is the root, and each other node is entered by an edge
abbrev pub KeepsA1 : Spec → ℕ → Type 0
KeepsA1 spec zero = IsRoot spec zero
KeepsA1 spec (suc v) = HasEdgeInto spec (suc v)

-- A2: the node lies on no circle
abbrev pub KeepsA2 : Spec → ℕ → Type 0
KeepsA2 spec v = LiesOnCircle spec v → ⊥

-- the columns visited by the first n edges: those that their targets bind
abbrev pub visited : Spec → ℕ → List ℕ
visited spec n = gather nat_cmp (flat_map (λ e. bound spec e.to) (take n spec.edges))

-- the root, or the target of one of the edges
abbrev pub IsReachedBy : List Edge → ℕ → Type 0
IsReachedBy edges v = (v ≡ 0) ⊎ In v (map (λ (e : Edge). e.to) edges)

-- A3: the key has no column of the source, and the target binds the columns of both
pub record KeepsA3 (spec : Spec) (e : Edge) : Type 0 where
  pub apart : (c : ℕ) → In c e.key → In c (bound spec e.from) → ⊥
  pub inside : Within (source_and_key spec e) (bound spec e.to)

-- A4: source and key determine the target
abbrev pub KeepsA4 : Spec → Edge → Type 0
KeepsA4 spec e = Follows spec.deps (source_and_key spec e) (bound spec e.to)

-- A5: only a singleton has no key, and in a singleton the source determines the key
pub record KeepsA5 (spec : Spec) (e : Edge) : Type 0 where
  pub no_key : e.key ≡ [] → e.kind ≡ Singleton
  pub singleton : e.kind ≡ Singleton → Follows spec.deps (bound spec e.from) e.key

-- what a join with rows over some columns needs to lose no tuple: the common columns determine one side
abbrev pub IsLossless : Spec → List ℕ → List ℕ → Type 0
IsLossless spec xs ys = Follows spec.deps (inter xs ys) xs ⊎ Follows spec.deps (inter xs ys) ys

-- A6: the edge with this number begins at the root or where an earlier edge ends, and its join loses no tuple
pub record KeepsA6 (spec : Spec) (n : ℕ) : Type 0 where
  pub reached : IsReachedBy (take n spec.edges) (edge_at spec n).from
  pub lossless : IsLossless spec (visited spec n) (bound spec (edge_at spec n).to)

-- A7: the column is visited
abbrev pub KeepsA7 : Spec → ℕ → Type 0
KeepsA7 spec c = In c (visited spec (length spec.edges))

-- all rules of adequacy
pub record IsAdequate (spec : Spec) : Type 0 where
  pub a1 : (v : ℕ) → v < length spec.nodes → KeepsA1 spec v
  pub a2 : (v : ℕ) → v < length spec.nodes → KeepsA2 spec v
  pub a3 : (n : ℕ) → n < length spec.edges → KeepsA3 spec (edge_at spec n)
  pub a4 : (n : ℕ) → n < length spec.edges → KeepsA4 spec (edge_at spec n)
  pub a5 : (n : ℕ) → n < length spec.edges → KeepsA5 spec (edge_at spec n)
  pub a6 : (n : ℕ) → n < length spec.edges → KeepsA6 spec n
  pub a7 : (c : ℕ) → c < length spec.columns → KeepsA7 spec c
