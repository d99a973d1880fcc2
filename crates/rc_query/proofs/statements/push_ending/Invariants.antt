use Rattle.std.proofs.Common.{◌≡◌, ◌≤◌, ◌++◌, ℕ, List, length, map, reverse, drop}
use Rattle.rc_query.proofs.Imports.{Statement, Release}
use Rattle.rc_query.proofs.statements.push_ending.Given as goal

pub record HasReleases (classes : List ℕ) (place : ℕ) (before now : List Statement) : Type 0 where
  pub within : place ≤ length classes
  pub plan : now ≡ before ++ map Release (reverse (drop place classes))

abbrev pub invariant-loop-place : goal.invariant-loop-place
invariant-loop-place l = HasReleases l.classes l.place l.initial.plan l.plan

abbrev pub decreases-loop-place : goal.decreases-loop-place
decreases-loop-place l = l.place
