-- Where the left side of a dependency lacks the key column, replies depend on the schedule: here the second call has the conflict, whichever it is.
use Rattle.std.specs.Prelude.{◌≡◌, [], ◌∷◌}
use Rattle.std.proofs.Common.{refl}
use Rattle.rc_generate.specs.Imports.{Inserted, Conflict, Spec, plain_steps}
use Rattle.rc_generate.specs.Sample.{sample_graph}
use Rattle.rc_generate.specs.Generated.{insert_call}

abbrev unkeyed : Spec
unkeyed = record sample_graph { deps = record { left = 1 ∷ []; right = 2 ∷ [] } ∷ [] }

one_order : plain_steps unkeyed [] (insert_call 1 5 10 ∷ insert_call 2 5 11 ∷ [])
    ≡ record { call = insert_call 1 5 10; reply = Inserted } ∷ record { call = insert_call 2 5 11; reply = Conflict 1 } ∷ []
one_order = refl

other_order : plain_steps unkeyed [] (insert_call 2 5 11 ∷ insert_call 1 5 10 ∷ [])
    ≡ record { call = insert_call 2 5 11; reply = Inserted } ∷ record { call = insert_call 1 5 10; reply = Conflict 1 } ∷ []
other_order = refl
