-- What a text's specification keeps besides its ranges and its names.
use Rattle.std.specs.Prelude.{◌≡◌, ℕ, ◌≤◌, List, [], length}
use Rattle.rc_reader.specs.Imports.{In, Class, Op, OpKind, Query, Insert, Remove, Update, Spec}
use Rattle.rc_reader.specs.declared.version.Version.{Version}
use Rattle.rc_reader.specs.declared.version.Version.TheVariants.{One, Two}
use Rattle.rc_reader.specs.Versions.{version_number, most_columns}

-- the limits of a text of either version: of these a specification itself may have more
pub record KeepsTextLimits (spec : Spec) : Type 0 where
  pub columns : length spec.columns ≤ 32
  pub ops : length spec.ops ≤ 32
  pub stripes : (class : Class) → In class spec.classes → class.stripes ≤ 65535
  -- no text sets it
  pub rows : spec.most_rows ≡ 256

-- a query of the first version has no range column
abbrev pub KeepsRanges : {A : Type 0} → Version → List A → Type 0
KeepsRanges One ranges = ranges ≡ []
KeepsRanges Two ranges = Unit {0}

-- the first version has no update
abbrev pub HasUpdates : Version → Type 0
HasUpdates One = ⊥
HasUpdates Two = Unit {0}

abbrev pub IsKindOf : Version → OpKind → Type 0
IsKindOf version (Query outs ranges) = KeepsRanges version ranges
IsKindOf version Insert = Unit {0}
IsKindOf version Remove = Unit {0}
IsKindOf version Update = HasUpdates version

-- what else a specification of a text of the version keeps
pub record KeepsVersion (version : Version) (spec : Spec) : Type 0 where
  pub columns : length spec.columns ≤ most_columns version
  pub kinds : (op : Op) → In op spec.ops → IsKindOf version op.kind

-- the specification of a text whose header has this number
abbrev pub IsOfNumber : ℕ → Spec → Type 0
IsOfNumber number spec = (version : Version) × (version_number version ≡ number) × KeepsVersion version spec
