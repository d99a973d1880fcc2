use Rattle.std.proofs.Common.{◌≡◌, ◌∙◌, List, length, map, take, ap, rules, refl, subst}
use Rattle.rc_embed.proofs.Imports.{Call, spec_of, HasMadeGroup, StoreSeen, Position, calls_by, receipt_of, replies_given}
use Rattle.rc_embed.specs.declared.session.Last.TheVariants as lasts
use Rattle.rc_embed.proofs.SessionLemmas.{told_group, told_in}
use Rattle.rc_embed.proofs.session.Session.group_idle.Goals as goal

pub returns-in-Ok : goal.returns-in-Ok
returns-in-Ok g c =
    let has = c.in-Ok.ensures.made in
    let receipt = c.in-Ok.field-0 in
    let told = replies_given (lasts.Group receipt.replies) in
    let before = c.in-Idle.pass in
    let after = c.try_group.new.pass in
    let place : Position = record { place = receipt.place; nth = receipt.nth } in
    let at = receipt_of place told in
    let here : c.behind-self.inside.store ≡ c.args.self.now.store = search rules in
    let asked = map g.A.Asks.asked c.args.calls.now in
    let filled : List Call = take (length c.args.calls.now) c.deref-3.result.now in
    let of : c.deref.result.now ≡ c.args.self.now.store = search rules in
    let calls : filled ≡ calls_by (spec_of c.args.self.now.store.row) asked =
    ap (take (length c.args.calls.now)) c.deref-3.ensures.value
    ∙ c.in_ok-refill_all.ensures.calls
    ∙ ap (λ (s : StoreSeen). calls_by (spec_of s.row) asked) of in
    record {
      store = search rules;
      made = record {
        before = before;
        after = after;
        was = search rules;
        is = refl;
        picked = refl;
        made = told_in c.args.self.now.store (calls_by (spec_of c.args.self.now.store.row) asked) before after place c.put.new.place
            (lasts.Group receipt.replies) c.put.ensures
            (subst (λ (z : List Call). HasMadeGroup c.args.self.now.store z told before after at) calls
            (subst (λ (s : StoreSeen). HasMadeGroup s filled told before after at) here
            (told_group c.behind-self.inside.store filled has.0 before after receipt
            c.behind-self.invariant.counts has.1)));
      };
      cause = tt;
      unchanged = tt;
    }
