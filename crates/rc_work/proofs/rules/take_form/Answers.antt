use Rattle.rc_work.proofs.rules.take_form.Goals as goal

pub returns-in-Round : goal.returns-in-Round
returns-in-Round c = rw c.in-Round.is (c.add_round.ensures c.args.spec.now)

pub returns-in-End : goal.returns-in-End
returns-in-End c = rw c.in-End.is (c.add_end.ensures c.args.spec.now)

pub returns-in-Group : goal.returns-in-Group
returns-in-Group c = rw c.in-Group.is (c.add_group.ensures c.args.spec.now)
