use Rattle.rc_embed.specs.OutsideLaws as laws
use Rattle.rc_embed.proofs.laws.passes_come_back.Goals as goal

pub returns-clause-first : goal.returns-clause-first
returns-clause-first c = laws.none_at_first

pub returns-clause-again : goal.returns-clause-again
returns-clause-again c = laws.none_again

pub returns-clause-dealt : goal.returns-clause-dealt
returns-clause-dealt c = laws.dealt_go_outside

pub returns-clause-taken_back : goal.returns-clause-taken_back
returns-clause-taken_back c = laws.taken_back_come_inside

pub returns-clause-all : goal.returns-clause-all
returns-clause-all c = laws.all_are_inside

pub returns-clause-room : goal.returns-clause-room
returns-clause-room c = laws.some_outside_leave_room
