use Rattle.std.proofs.Common.{◌≡◌}
use Rattle.rc_generate.specs.Generated.{number_at, generated_turns}
use Rattle.rc_generate.proofs.generating.generated_round.Given as goal

abbrev pub invariant-loop-place : goal.invariant-loop-place
invariant-loop-place l = record { number : l.number ≡ number_at l.seed l.place; turns : l.round ≡ generated_turns l.seed l.place }
