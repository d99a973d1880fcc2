use Rattle.std.proofs.Common.{◌≡◌, ℕ, ◌+◌, ◌++◌, ◌∷◌, [], sym, ap, ◌∙◌, arith}
use Rattle.rc_route.proofs.Imports.{range_with_len, range_with_len_more}
use Rattle.rc_route.proofs.walk.all_edges.Goals as goal

from_none : (n : ℕ) → n ≡ 0 + n
from_none n = omega arith

pub loop-edge-preserved : goal.loop-edge-preserved
loop-edge-preserved c =
    c.in_ok-push.ensures.items ∙ ap (λ z. z ++ c.loop-edge.edge ∷ []) c.loop-edge.invariant
    ∙ ap (λ z. range_with_len 0 c.loop-edge.edge ++ z ∷ []) (from_none c.loop-edge.edge) ∙ sym (range_with_len_more 0 c.loop-edge.edge)
