use Rattle.rc_embed.proofs.Imports.{rules, refl, subst, asked_calls, IsUnchanged, SessionSeen}
use Rattle.rc_embed.proofs.FaultLemmas.{own_cause}
use Rattle.rc_embed.proofs.SessionLemmas.{same_session}
use Rattle.rc_embed.proofs.session.Session.try_group.Goals as goal

pub returns-in-Some-clause-answers : goal.returns-in-Some-clause-answers
returns-in-Some-clause-answers c = record {
  store = refl;
  made = tt;
  cause =
      own_cause c.args.self.now c.args.self.now (asked_calls c.args.calls.now) c.in-Some.fault (search rules);
  unchanged =
      subst (λ (session : SessionSeen). IsUnchanged session session) c.self.view_is
      (same_session _ c.self.invariant);
}
