-- How many bytes were taken at each fault of a read to the end.
use Rattle.std.specs.Prelude.{◌≡◌, ℕ, ◌+◌, ◌≤◌}
use Rattle.rc_io.specs.declared.source.ReadFault.{ReadFault}
use Rattle.rc_io.specs.declared.source.ReadFault.TheVariants.{Memory, Source, TooLong}

-- one byte more than the limit where the fault says so, and else no more than the limit
abbrev pub IsCountTaken : ReadFault → ℕ → ℕ → Type 0
IsCountTaken Memory limit taken = taken ≤ limit
IsCountTaken Source limit taken = taken ≤ limit
IsCountTaken TooLong limit taken = taken ≡ limit + 1
