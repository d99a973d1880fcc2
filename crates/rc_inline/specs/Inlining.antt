-- What inlining makes of a specification.
use Rattle.std.specs.Prelude.{◌≡◌, ℕ, zero, suc, length}
use Rattle.rc_inline.specs.Imports.{option_map_or, Spec}
use Rattle.rc_inline.specs.Contraction.{contracted, first_inlinable}

-- at most so many contractions, each of the first edge that can be inlined
abbrev pub inlined_in : ℕ → Spec → Spec
inlined_in zero spec = spec
inlined_in (suc n) spec = option_map_or (λ f. inlined_in n (contracted spec f)) (first_inlinable spec) spec

-- as many as there are, each of which takes an edge
unfoldable pub inlined : Spec → Spec
inlined spec = inlined_in (length spec.edges) spec

-- the columns, the dependencies, the operations and the lock classes are the same
pub record HasItsSchema (spec other : Spec) : Type 0 where
  pub columns : other.columns ≡ spec.columns
  pub deps : other.deps ≡ spec.deps
  pub classes : other.classes ≡ spec.classes
  pub ops : other.ops ≡ spec.ops
  pub most_rows : other.most_rows ≡ spec.most_rows
