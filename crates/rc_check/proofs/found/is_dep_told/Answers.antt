use Rattle.std.proofs.Common.{◌≡◌, ◌↔◌, true, List, ℕ, ap, subst}
use Rattle.rc_check.proofs.Imports.{TellsOld, ProgressSets}
use Rattle.rc_check.proofs.found.is_dep_told.Goals as goal

pub returns-then-has_found_dep : goal.returns-then-has_found_dep
returns-then-has_found_dep c = λ p e.
    let op = c.args.op.now in
    let found = (c.has_found_dep.ensures p e).0 c.if-has_found_dep.true in
    let tells = subst (λ (xs : List ℕ). (c.tells_old.result ≡ true) ↔ TellsOld op op.kind xs) (ap (λ (s : ProgressSets). s.visited) e) c.tells_old.ensures in
    ((λ h. (found.0, found.1, found.2, tells.0 h)), λ k. tells.1 k.3)
