-- Laws of refused steps.
use Rattle.std.proofs.Common.{◌<◌, ◌∙◌, refl, arith}
use Rattle.rc_row.specs.declared.law.Standing.{Standing}
use Rattle.rc_row.specs.Standings.{KeepsRefusals}

pub refusals_first : (s : Standing) → KeepsRefusals s s
refusals_first s = (omega arith, λ e. refl)

-- one time after another
pub refusals_on : (a b c : Standing) → KeepsRefusals a b → KeepsRefusals b c → KeepsRefusals a c
refusals_on a b c p q = (
  omega (arith, p.0, q.0),
  λ e. q.1 (omega (arith, e, p.0, q.0)) ∙ p.1 (omega (arith, e, p.0, q.0)),
)

-- and after more refused steps, with whatever last one
pub refusals_more : (a s : Standing) → a.refusals < s.refusals → KeepsRefusals a s
refusals_more a s l = (omega (arith, l), λ e. absurd (omega (arith, e, l)))
