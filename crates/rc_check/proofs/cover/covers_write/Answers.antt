use Rattle.rc_check.proofs.cover.covers_write.Goals as goal

pub returns-then-all_are_locked : goal.returns-then-all_are_locked
returns-then-all_are_locked c = λ p e. ((λ h. ((c.all_are_locked.ensures p e).0 c.if-all_are_locked.true, (c.covers_old.ensures p e).0 h)), λ k. (c.covers_old.ensures p e).1 k.1)
