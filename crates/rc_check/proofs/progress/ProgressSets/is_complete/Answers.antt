use Rattle.rc_check.proofs.progress.ProgressSets.is_complete.Goals as goal

pub returns-then-is_committed : goal.returns-then-is_committed
returns-then-is_committed c = λ p e.
    let released = c.has_released_all.ensures p e in ((λ h. ((c.is_committed.ensures p e).0 c.if-is_committed.true, released.0 h)), λ k. released.1 k.1)
