use Rattle.std.proofs.Common.{Option, ap, ◌∙◌, ◌≡◌, refl, rules, subst}
use Rattle.rc_embed.proofs.Imports.{Reply, AskedCall, asked_with, asked_by, with_picked_reply, HasCalledOpen}
use Rattle.rc_embed.proofs.SessionLemmas.{called_last}
use Rattle.rc_embed.proofs.session.Session.call_open_by.Goals as goal

pub returns-in-Ok : goal.returns-in-Ok
returns-in-Ok c =
    let frame = c.args.frame.now in
    let same : asked_with frame.op c.values.result.now ≡ asked_by frame =
    λ i. record { op = frame.op; count = c.values.ensures.count i; values = c.values.ensures.values i } in
    let made : HasCalledOpen c.args.self.now (asked_by frame) c.go_on.new.self =
    subst (λ (asked : AskedCall). HasCalledOpen c.args.self.now asked c.go_on.new.self) same c.in-Ok.ensures.made in
    let last = called_last c.args.self.now c.go_on.new.self (asked_by frame) made in
    record {
      store = c.in-Ok.ensures.store;
      exact = search rules;
      made = λ _. (
        made,
        record {
          reply = last.0;
          picked = last.1;
          same = c.tell_picked.ensures ∙ ap (λ (o : Option Reply). with_picked_reply o frame) last.1;
        },
      );
      refused = λ _ other. absurd (other refl);
    }
