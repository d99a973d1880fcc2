use Rattle.std.proofs.Common.{◌≡◌, ◌∙◌, [], ap, rules, refl, subst, sym}
use Rattle.rc_embed.proofs.Imports.{HasMadeOpenGroup, IsAsBefore, StoreSeen, State, HasNoCall, HeldFor, SessionSeen, made_of, replies_given, uncommitted_in}
use Rattle.rc_embed.specs.declared.session.State.TheVariants as states
use Rattle.rc_embed.proofs.SessionLemmas.{given_so, told_open}
use Rattle.rc_embed.proofs.session.Session.commit_open.Goals as goal

pub returns-in-Some-clause-made : goal.returns-in-Some-clause-made
returns-in-Some-clause-made c =
    let group = c.in-Open.group in
    let after = c.commit-pass.result.0 in
    let receipt = c.in-Some.receipt in
    let store = c.behind-self.inside.store in
    let counts = c.behind-self.invariant.counts in
    let here : store ≡ c.args.self.now.store = search rules in
    let state : c.args.self.now.state ≡ states.Open group = search rules in
    let made : HasMadeOpenGroup store group.steps group.locks group.begun after receipt = search rules in
    let so : HasMadeOpenGroup c.args.self.now.store group.steps group.locks group.begun after receipt =
    subst (λ (s : StoreSeen). HasMadeOpenGroup s group.steps group.locks group.begun after receipt) here made in
    record {
      running = made_of group;
      after = after;
      was = ap uncommitted_in state;
      is = c.put.ensures;
      told = ap replies_given c.put-in-Some.ensures ∙ told_open store group.steps receipt.replies counts made.given;
      picked = refl;
      entry = so.entry;
      held =
          subst (λ (s : State). HeldFor c.args.self.now.store s group.steps so.entry.at_commit) (sym state) so.exact;
      given =
          given_so c.args.self.now.store (replies_given c.put-in-Some.new.place)
          (ap (λ (s : StoreSeen). s.row.keeping) (sym here) ∙ counts);
    }

pub returns-in-None-clause-none : goal.returns-in-None-clause-none
returns-in-None-clause-none c =
    let group = c.in-Open.group in
    let after = c.commit-pass.result.0 in
    let state : c.args.self.now.state ≡ states.Open group = search rules in
    let none : (group.steps ≡ []) × IsAsBefore group.begun after = search rules in
    let unrefused : after.standing.refusals ≡ group.pass.standing.refusals = search rules in (
      subst HasNoCall (sym state) none.0,
      record {
        running = made_of group;
        after = after;
        was = ap uncommitted_in state;
        is = c.put.ensures;
        last = ap (λ (s : SessionSeen). s.last) c.self.view_is;
        picked = refl;
        before = none.1;
        refusals = unrefused;
      },
    )
