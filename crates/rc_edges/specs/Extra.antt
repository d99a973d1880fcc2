-- The extra values of a row.
use Rattle.std.specs.Prelude.{[], ◌∷◌}
use Rattle.rc_edges.specs.Values.{Values}
use Rattle.rc_edges.specs.declared.extra.Form.{Form}
use Rattle.rc_edges.specs.declared.extra.Form.TheVariants.{None, One, Many}

abbrev pub values_of : Form → Values
values_of None = []
values_of (One value) = value ∷ []
values_of (Many values) = values.value.items
