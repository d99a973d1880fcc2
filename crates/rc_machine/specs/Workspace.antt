-- What a run of a plan works with.
use Rattle.std.specs.Prelude.{◌≡◌, None, Option, Some, length}
use Rattle.rc_machine.specs.Imports.{Reply, Spec, BindingList, with_tuples}
use Rattle.rc_machine.specs.declared.workspace.Workspace.{Workspace}

-- the bindings have a register for each column of the specification
pub record AreWide (spec : Spec) (space : Workspace) : Type 0 where
  pub bindings : space.bindings.width ≡ length spec.columns
  pub found : space.found.width ≡ length spec.columns

-- only the tuples are other ones
abbrev pub HasMoreTuples : BindingList → BindingList → Type 0
HasMoreTuples old new = new ≡ with_tuples old new.tuples

-- where a run goes on, the bindings are as wide as they were
abbrev pub StaysWide : Spec → Workspace → Option Reply → Type 0
StaysWide spec space None = AreWide spec space
StaysWide spec space (Some answer) = Unit {0}
