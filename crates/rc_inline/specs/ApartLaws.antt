-- What an embedded store makes of a specification doesn't depend on its operations.
use Rattle.std.proofs.Common.{◌≡◌, ◌∙◌, ℕ, zero, suc, Bool, true, false, List, Option, Some, None, if◌then◌else◌, ap, length, refl}
use Rattle.rc_inline.specs.Imports.{option_map_or, Op, Spec}
use Rattle.rc_inline.specs.Contraction.{contracted, first_inlinable}
use Rattle.rc_inline.specs.Inlining.{inlined, inlined_in}
use Rattle.rc_inline.specs.Placing.{co_placed, embedded, is_ordered, placed_together}

-- the specification with these operations in place of its own
abbrev pub with_ops : Spec → List Op → Spec
with_ops spec ops = record spec { ops = ops }

module _ (ops : List Op) where
  inlined_in_apart : (n : ℕ) (spec : Spec) → inlined_in n (with_ops spec ops) ≡ with_ops (inlined_in n spec) ops
  inlined_in_apart zero spec = refl
  inlined_in_apart (suc n) spec = go (first_inlinable spec) (λ f. inlined_in_apart n (contracted spec f))
    where
      go : (found : Option ℕ)
          → ((f : ℕ) → inlined_in n (with_ops (contracted spec f) ops) ≡ with_ops (inlined_in n (contracted spec f)) ops)
          → option_map_or (λ f. inlined_in n (contracted (with_ops spec ops) f)) found (with_ops spec ops)
          ≡ with_ops (option_map_or (λ f. inlined_in n (contracted spec f)) found spec) ops
      go None rest = refl
      go (Some f) rest = rest f

  inlined_apart : (spec : Spec) → inlined (with_ops spec ops) ≡ with_ops (inlined spec) ops
  unfolding inlined
  inlined_apart spec = inlined_in_apart (length spec.edges) spec

  together_apart : (spec : Spec) → placed_together (with_ops spec ops) ≡ with_ops (placed_together spec) ops
  unfolding placed_together
  together_apart spec = go (is_ordered (co_placed spec))
    where
      go : (b : Bool) → (if b then co_placed (with_ops spec ops) else with_ops spec ops) ≡ with_ops (if b then co_placed spec else spec) ops
      go true = refl
      go false = refl

-- with other operations it makes the same, with these operations
abbrev pub EmbeddingLeavesOperations : Type 0
EmbeddingLeavesOperations = (spec : Spec) (ops : List Op) → embedded (with_ops spec ops) ≡ with_ops (embedded spec) ops

pub embedded_apart : EmbeddingLeavesOperations
unfolding embedded
embedded_apart spec ops = ap placed_together (inlined_apart ops spec) ∙ together_apart ops (inlined spec)
