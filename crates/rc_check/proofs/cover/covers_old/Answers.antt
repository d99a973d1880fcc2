use Rattle.std.proofs.Common.{◌≡◌, ◌↔◌, true, sym, subst}
use Rattle.rc_check.proofs.Imports.{OpKind, CoversOld}
use Rattle.rc_check.proofs.cover.covers_old.Goals as goal

pub returns-in-Update : goal.returns-in-Update
returns-in-Update c = λ p e.
    subst (λ (k : OpKind). (c.has_old_stripes.result ≡ true) ↔ CoversOld c.args.accepted.now c.args.op.now k p) (sym c.in-Update.is) (c.has_old_stripes.ensures p e)
