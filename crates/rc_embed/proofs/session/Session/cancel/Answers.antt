use Rattle.std.proofs.Common.{◌≡◌, ap, rules, refl}
use Rattle.rc_embed.specs.declared.session.State.TheVariants as states
use Rattle.rc_embed.specs.Session.{SessionSeen, alone, made_of, uncommitted_in}
use Rattle.rc_embed.proofs.session.Session.cancel.Goals as goal

pub returns-in-Prepared-clause-cancelled : goal.returns-in-Prepared-clause-cancelled
returns-in-Prepared-clause-cancelled c =
    let state : c.args.self.now.state ≡ states.Prepared c.in-Prepared.running = search rules in
    record {
      running = alone c.in-Prepared.running;
      after = c.cancel.result;
      was = ap uncommitted_in state;
      is = c.put.ensures;
      last = ap (λ (s : SessionSeen). s.last) c.self.view_is;
      picked = refl;
      before = c.cancel.ensures.before;
      refusals = c.cancel.ensures.unrefused;
    }

pub returns-in-Open-clause-cancelled : goal.returns-in-Open-clause-cancelled
returns-in-Open-clause-cancelled c =
    let state : c.args.self.now.state ≡ states.Open c.in-Open.group = search rules in
    record {
      running = made_of c.in-Open.group;
      after = c.cancel-in-Open.result;
      was = ap uncommitted_in state;
      is = c.put-in-Open.ensures;
      last = ap (λ (s : SessionSeen). s.last) c.self.view_is;
      picked = refl;
      before = c.cancel-in-Open.ensures.before;
      refusals = c.cancel-in-Open.ensures.unrefused;
    }
