use Rattle.std.proofs.Common.{inl, inr}
use Rattle.rc_check.proofs.RuleLemmas.{reached_test}
use Rattle.rc_check.proofs.steps.is_reached.Goals as goal

pub returns-else-node-eq0 : goal.returns-else-node-eq0
returns-else-node-eq0 c = λ p e.
    let test = reached_test p c.args.before.now c.args.node c.has.result e c.has.ensures.found in
    ((λ h. inr (test.0 h)), λ k. elim k [ inl z ↦ absurd (c.if-node-eq0.false z) | inr m ↦ test.1 m ])
