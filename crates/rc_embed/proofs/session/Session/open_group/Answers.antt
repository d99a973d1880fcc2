use Rattle.rc_embed.proofs.Imports.{rules, refl, subst, all_declared, IsUnchanged, SessionSeen}
use Rattle.rc_embed.proofs.DeclaringLemmas.{own_declared_cause}
use Rattle.rc_embed.proofs.SessionLemmas.{same_session}
use Rattle.rc_embed.proofs.session.Session.open_group.Goals as goal

pub returns-in-Some-clause-answers : goal.returns-in-Some-clause-answers
returns-in-Some-clause-answers c = record {
  store = refl;
  opened = tt;
  cause =
      own_declared_cause c.args.self.now c.args.self.now (all_declared c.args.declared.now) c.in-Some.fault (search rules);
  unchanged =
      subst (λ (session : SessionSeen). IsUnchanged session session) c.self.view_is
      (same_session _ c.self.invariant);
}
