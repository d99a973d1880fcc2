use Rattle.std.proofs.Common.{◌≡◌, ◌++◌, drop, map, take}
use Rattle.rc_inline.specs.Contraction.{rejoined}
use Rattle.rc_inline.proofs.contraction.rejoin_all.Given as goal

abbrev pub invariant-loop-edge : goal.invariant-loop-edge
invariant-loop-edge l =
    l.edges ≡ map (rejoined l.gone) (take l.edge-index l.initial.edges) ++ drop l.edge-index l.initial.edges
