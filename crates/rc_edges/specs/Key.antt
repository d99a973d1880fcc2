-- The values of a key of a list.
use Rattle.std.specs.Prelude.{[], ◌∷◌}
use Rattle.rc_edges.specs.Values.{Values}
use Rattle.rc_edges.specs.declared.key.KeyValues.{KeyValues}
use Rattle.rc_edges.specs.declared.key.KeyValues.TheVariants.{One, Many}

abbrev pub values_of : KeyValues → Values
values_of (One value) = value ∷ []
values_of (Many values) = values
