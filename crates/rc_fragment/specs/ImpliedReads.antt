-- What is read of an edge whose rows another tells: the sources of the other's rows.
use Rattle.std.specs.Prelude.{◌≡◌, ℕ, ◌++◌, List, map}
use Rattle.rc_fragment.specs.Imports.{flat_map, zip, In, IsRising, Pairs, Values, values_cmp, EdgeRow}
use Rattle.rc_fragment.specs.Fragment.{IsThere}
use Rattle.rc_fragment.specs.RowValues.{values_at}
use Rattle.rc_fragment.specs.declared.shape.EdgeShape.{EdgeShape}

-- the edge has a row with these values at the columns of its source
pub record HasSource (shape : EdgeShape) (rows : List EdgeRow) (e : ℕ) (source : Values) : Type 0 where
  pub row : Pairs
  pub there : IsThere rows e row
  pub source_is : values_at shape.source row ≡ source

-- these are the sources of the edge's rows, rising
pub record AreSources (shape : EdgeShape) (rows : List EdgeRow) (e : ℕ) (sources : List Values) : Type 0 where
  pub rising : IsRising values_cmp sources
  pub only : (s : Values) → In s sources → HasSource shape rows e s
  pub each : (s : Values) → HasSource shape rows e s → In s sources

-- the list has the values of each source, rising, at its end
abbrev pub HasListed : EdgeShape → List EdgeRow → ℕ → Values → Values → Type 0
HasListed shape rows e old new = (sources : List Values) × (new ≡ old ++ flat_map (λ s. s) sources) × AreSources shape rows e sources

-- these are the sources of the edge's rows, rising, as tuples over their columns
abbrev pub HasSourceRows : EdgeShape → List EdgeRow → ℕ → List Pairs → Type 0
HasSourceRows shape rows e ts = (sources : List Values) × (ts ≡ map (zip shape.source) sources) × AreSources shape rows e sources
