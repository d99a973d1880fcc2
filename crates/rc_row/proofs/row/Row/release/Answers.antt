use Rattle.rc_row.proofs.Imports.{ap, subst, Exclusive, Shared, PassSeen, core_of, IsHeldSo}
use Rattle.rc_row.proofs.GiveAllLemmas.{fewer_left, held_so, rest_without}
use Rattle.rc_row.proofs.row.Row.release.Goals as goal

pub unlock-requires-clause-held : goal.unlock-requires-clause-held
unlock-requires-clause-held c = held_so c.args.pass.now.held (core_of c.args.pass.now).held c.args.stripe Exclusive (subst (IsHeldSo c.args.pass.now.held c.args.stripe) c.in-Exclusive.is c.requires.held) c.held_agrees.ensures

pub unshare-requires-clause-held : goal.unshare-requires-clause-held
unshare-requires-clause-held c = held_so c.args.pass.now.held (core_of c.args.pass.now).held c.args.stripe Shared (subst (IsHeldSo c.args.pass.now.held c.args.stripe) c.in-Shared.is c.requires.held) c.held_agrees.ensures

pub returns-in-Exclusive-clause-rest : goal.returns-in-Exclusive-clause-rest
returns-in-Exclusive-clause-rest c = rest_without c.args.pass.now.held c.unlock.new.pass.held c.args.stripe (ap (λ (s : PassSeen). s.held) c.unlock.ensures.value) c.requires.rest

pub returns-in-Exclusive-clause-fewer : goal.returns-in-Exclusive-clause-fewer
returns-in-Exclusive-clause-fewer c = fewer_left c.args.pass.now.held c.unlock.new.pass.held c.args.stripe c.args.mode (ap (λ (s : PassSeen). s.held) c.unlock.ensures.value) c.requires.held

pub returns-in-Shared-clause-rest : goal.returns-in-Shared-clause-rest
returns-in-Shared-clause-rest c = rest_without c.args.pass.now.held c.unshare.new.pass.held c.args.stripe (ap (λ (s : PassSeen). s.held) c.unshare.ensures.value) c.requires.rest

pub returns-in-Shared-clause-fewer : goal.returns-in-Shared-clause-fewer
returns-in-Shared-clause-fewer c = fewer_left c.args.pass.now.held c.unshare.new.pass.held c.args.stripe c.args.mode (ap (λ (s : PassSeen). s.held) c.unshare.ensures.value) c.requires.held
