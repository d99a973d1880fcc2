use Rattle.std.proofs.Common.{◌≡◌, ◌≤◌, All, map, take}
use Rattle.rc_runner.proofs.Imports.{core_of, IsFree, numbers_of}
use Rattle.rc_runner.proofs.telling.tell_all.Given as goal

abbrev pub invariant-loop-other : goal.invariant-loop-other
invariant-loop-other l =
    (l.pass ≡ l.fn.pass)
    × All (IsFree l.store) l.others
    × (numbers_of l.others ≡ numbers_of l.fn.others)
    × (map (λ p. (core_of p).own) l.others ≡ map (λ p. (core_of p).own) l.fn.others)
    × All (λ p. (core_of l.fn.pass).seen ≤ (core_of p).seen) (take l.other-index l.others)
