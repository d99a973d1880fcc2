use Rattle.std.proofs.Common.{sym, ◌∙◌}
use Rattle.rc_tuple.specs.ColSetLaws.{within_from_test, test_from_within}
use Rattle.rc_fd.proofs.implied.determines.Goals as goal

pub returns : goal.returns
returns c = (
  (λ h. (c.closure.ensures.implied_sets c.args.y).0 (within_from_test c.args.y c.closure.result (sym c.within.ensures.found ∙ h))),
  λ f. c.within.ensures.found ∙ test_from_within c.args.y c.closure.result ((c.closure.ensures.implied_sets c.args.y).1 f),
)
