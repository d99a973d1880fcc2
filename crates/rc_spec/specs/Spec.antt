-- The specification with no item.
use Rattle.std.specs.Prelude.{[]}
use Rattle.rc_spec.specs.declared.spec.Spec.{Spec}

abbrev pub empty : Spec
empty = record { columns = []; deps = []; nodes = []; edges = []; classes = []; places = []; ops = []; most_rows = 256 }
