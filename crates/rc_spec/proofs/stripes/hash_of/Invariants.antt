use Rattle.std.proofs.Common.{◌≡◌, take}
use Rattle.rc_spec.specs.Stripes.{hash_of}
use Rattle.rc_spec.proofs.stripes.hash_of.Given as goal

abbrev pub invariant-loop-place : goal.invariant-loop-place
invariant-loop-place l = l.hash ≡ hash_of (take l.place l.cols) l.tuple
