-- Specifications that differ in nothing but their operations.
use Rattle.std.specs.Prelude.{◌≡◌}
use Rattle.rc_spec.specs.declared.spec.Spec.{Spec}

-- all is the same but the operations, which may be the same too
pub record IsSameButOperations (spec other : Spec) : Type 0 where
  pub columns : spec.columns ≡ other.columns
  pub deps : spec.deps ≡ other.deps
  pub nodes : spec.nodes ≡ other.nodes
  pub edges : spec.edges ≡ other.edges
  pub classes : spec.classes ≡ other.classes
  pub places : spec.places ≡ other.places
  pub most_rows : spec.most_rows ≡ other.most_rows
