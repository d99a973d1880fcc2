use Rattle.std.proofs.Common.{sym, ap, ◌∙◌}
use Rattle.rc_row.specs.Passes.{PassSeen, holds_taken}
use Rattle.rc_row.proofs.WholeLemmas.{taken_seen}
use Rattle.rc_row.proofs.pass.Pass.held_agrees.Goals as goal

pub returns : goal.returns
returns c = ap (λ (s : PassSeen). holds_taken s.held) (sym c.self.view_is) ∙ taken_seen c.self.inside c.self.invariant c.args.self.now c.self.view_is
