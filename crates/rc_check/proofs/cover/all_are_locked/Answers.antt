use Rattle.std.proofs.Common.{◌≡◌, ◌<◌, ◌↔◌, List, true, length, sym, ap, subst, ◌∙◌, arith, below_more}
use Rattle.rc_check.proofs.Imports.{false≢true, Edge, Spec, class_of, IsLocked}
use Rattle.rc_check.proofs.cover.all_are_locked.Goals as goal

pub returns-then-not-has_locked : goal.returns-then-not-has_locked
returns-then-not-has_locked c = λ p e.
    let spec = c.args.accepted.now in
    let locked = subst (λ n. (c.has_locked.result ≡ true) ↔ IsLocked p n) c.class_of.ensures.value (c.has_locked.ensures p e) in
    let below : c.loop-edge.edge < length spec.edges =
    omega (arith, c.loop-edge-test.true, ap (λ (l : List Edge). length l) c.list.ensures, ap (λ (s : Spec). length s.edges) c.spec.ensures.value) in
    ((λ h. absurd (false≢true h)), λ k. absurd (false≢true (sym c.if-not-has_locked.true ∙ locked.1 (k c.loop-edge.edge below))))

pub loop-edge-preserved : goal.loop-edge-preserved
loop-edge-preserved c = λ p e.
    let locked = subst (λ n. (c.has_locked.result ≡ true) ↔ IsLocked p n) c.class_of.ensures.value (c.has_locked.ensures p e) in
    below_more (λ n. IsLocked p (class_of c.args.accepted.now n)) c.loop-edge.edge (c.loop-edge.invariant p e) (locked.0 c.if-not-has_locked.false)
