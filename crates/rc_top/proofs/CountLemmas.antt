-- The counts of faults where memory is told to be wanted.
use Rattle.std.proofs.Common.{◌≡◌, ℕ, Result, Ok, Err, refl}
use Rattle.rc_top.proofs.Imports.{Outcome, Status, OutOfMemory, SinkFailed, Stop, Memory, Sink, status_in, CountsFaults, status_of}

failed_not_memory : SinkFailed ≡ OutOfMemory → ⊥
failed_not_memory e = cc

-- a writer that ends for want of memory has had no fault of the sink
pub quiet_writer : (old new : ℕ) (r : Result Status Stop) → CountsFaults old new r → status_of r ≡ OutOfMemory → new ≡ old
quiet_writer old new (Ok status) counts is = counts.quiet
quiet_writer old new (Err Memory) counts is = counts.memory refl
quiet_writer old new (Err Sink) counts is = absurd (failed_not_memory is)

-- and so it is of one that may leave a run
pub quiet_runner : (old new : ℕ) (r : Result Outcome Stop) → CountsFaults old new r → status_of (status_in r) ≡ OutOfMemory → new ≡ old
quiet_runner old new (Ok outcome) counts is = counts.quiet
quiet_runner old new (Err Memory) counts is = counts.memory refl
quiet_runner old new (Err Sink) counts is = absurd (failed_not_memory is)
