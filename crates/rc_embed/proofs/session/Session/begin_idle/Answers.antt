use Rattle.std.proofs.Common.{◌≡◌, [], ◌∷◌, ap, rules, refl, subst}
use Rattle.rc_embed.proofs.Imports.{Call, spec_of, HasBegunGroup, StoreSeen, call_of, alone, prepared_in}
use Rattle.rc_embed.proofs.SessionLemmas.{begun_alone}
use Rattle.rc_embed.proofs.session.Session.begin_idle.Goals as goal

pub returns-in-Ok : goal.returns-in-Ok
returns-in-Ok c =
    let here : c.behind-self.inside.store ≡ c.args.self.now.store = search rules in
    let call : c.refill_call.new.call ≡ call_of (spec_of c.args.self.now.store.row) c.args.op c.args.values.now = search rules in
    record {
      store = search rules;
      made = record {
        before = c.in-Idle.pass;
        running = alone c.in-Ok.running;
        was = search rules;
        is = ap prepared_in c.put.ensures;
        last = search rules;
        picked = refl;
        begun =
            subst (λ (z : Call). HasBegunGroup c.args.self.now.store (z ∷ []) c.in-Idle.pass (alone c.in-Ok.running)) call
            (subst (λ (s : StoreSeen). HasBegunGroup s (c.refill_call.new.call ∷ []) c.in-Idle.pass (alone c.in-Ok.running)) here
            (begun_alone c.behind-self.inside.store c.refill_call.new.call c.in-Idle.pass c.in-Ok.running c.in-Ok.ensures.begun));
      };
      cause = tt;
      unchanged = tt;
    }
