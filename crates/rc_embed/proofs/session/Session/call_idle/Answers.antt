use Rattle.std.proofs.Common.{◌≡◌, [], ◌∷◌, Some, rules, refl}
use Rattle.rc_embed.proofs.Imports.{spec_of, call_of}
use Rattle.rc_embed.specs.declared.session.Last.TheVariants as lasts
use Rattle.rc_embed.proofs.SessionLemmas.{made_into, told_in}
use Rattle.rc_embed.proofs.session.Session.call_idle.Goals as goal

pub returns-in-Call-Some : goal.returns-in-Call-Some
returns-in-Call-Some c =
    let here : c.behind-self.inside.store ≡ c.args.self.now.store = search rules in
    let call : c.refill_call.new.call ≡ call_of (spec_of c.args.self.now.store.row) c.args.op c.args.values.now = search rules in
    record {
      store = search rules;
      made = record {
        before = c.in-Idle.pass;
        after = c.try_call_into.new.pass;
        was = search rules;
        is = refl;
        picked = refl;
        made = made_into c.behind-self.inside.store c.args.self.now.store here c.refill_call.new.call
            (call_of (spec_of c.args.self.now.store.row) c.args.op c.args.values.now) call c.try_call_into.new.reply c.in-Idle.pass
            c.try_call_into.new.pass c.in_ok-at.at c.behind-self.invariant.counts c.in_ok-at.ensures.made;
      };
      cause = tt;
      unchanged = tt;
    }

pub returns-in-Ok : goal.returns-in-Ok
returns-in-Ok c =
    let here : c.behind-self.inside.store ≡ c.args.self.now.store = search rules in
    let call : c.refill_call.new.call ≡ call_of (spec_of c.args.self.now.store.row) c.args.op c.args.values.now = search rules in
    let reply = c.try_call_into-2.new.reply in
    record {
      store = search rules;
      made = record {
        before = c.in-Idle.pass;
        after = c.try_call_into-2.new.pass;
        was = search rules;
        is = refl;
        picked = refl;
        made = told_in c.args.self.now.store (call_of (spec_of c.args.self.now.store.row) c.args.op c.args.values.now ∷ []) c.in-Idle.pass
            c.try_call_into-2.new.pass c.in-Ok.at c.put.new.place (lasts.Call (Some reply)) c.put.ensures
            (made_into c.behind-self.inside.store c.args.self.now.store here c.refill_call.new.call
            (call_of (spec_of c.args.self.now.store.row) c.args.op c.args.values.now) call reply c.in-Idle.pass
            c.try_call_into-2.new.pass c.in-Ok.at c.behind-self.invariant.counts c.in-Ok.ensures.made);
      };
      cause = tt;
      unchanged = tt;
    }
