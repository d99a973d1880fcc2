use Rattle.rc_embed.proofs.Imports.{rules, refl, subst, IsUnchanged, SessionSeen}
use Rattle.rc_embed.proofs.SessionLemmas.{same_session}
use Rattle.rc_embed.proofs.session.Session.try_call.Goals as goal

pub returns-in-Some-clause-answers : goal.returns-in-Some-clause-answers
returns-in-Some-clause-answers c = record {
  store = refl;
  made = tt;
  cause = search rules;
  unchanged =
      subst (λ (session : SessionSeen). IsUnchanged session session) c.self.view_is
      (same_session _ c.self.invariant);
}
