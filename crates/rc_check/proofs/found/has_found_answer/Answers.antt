use Rattle.std.proofs.Common.{refl, sym, ◌∙◌}
use Rattle.rc_check.proofs.Imports.{false≢true, pattern_columns}
use Rattle.rc_check.proofs.RuleLemmas.{within_test}
use Rattle.rc_check.proofs.found.has_found_answer.Goals as goal

pub returns-then-within : goal.returns-then-within
returns-then-within c =
    let test = within_test c.pattern_of.result (pattern_columns c.args.op.now) c.args.visited c.args.visited c.within.result c.within.ensures.found c.pattern_of.ensures refl in
    ((λ h. let a = c.asked_is_visited.ensures.0 h in (test.0 c.if-within.true, a.0, a.1)), λ k. c.asked_is_visited.ensures.1 (k.1, k.2))

pub returns-else-within : goal.returns-else-within
returns-else-within c =
    let test = within_test c.pattern_of.result (pattern_columns c.args.op.now) c.args.visited c.args.visited c.within.result c.within.ensures.found c.pattern_of.ensures refl in
    ((λ h. absurd (false≢true (sym c.if-within.false ∙ h))), λ k. test.1 k.0)
