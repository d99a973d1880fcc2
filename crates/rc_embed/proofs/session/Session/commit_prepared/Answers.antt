use Rattle.std.proofs.Common.{◌≡◌, ◌∙◌, [], ◌∷◌, ap, rules, refl, subst, sym}
use Rattle.rc_embed.proofs.Imports.{StoreSeen, Position, State, HeldFor, alone, receipt_of, replies_given, uncommitted_in}
use Rattle.rc_embed.specs.declared.session.State.TheVariants as states
use Rattle.rc_embed.proofs.SessionLemmas.{AreCommitted, given_so, made_alone, prepared_committed, told_committed, told_group_committed}
use Rattle.rc_embed.proofs.session.Session.commit_prepared.Goals as goal

pub returns-in-Prepared-clause-made : goal.returns-in-Prepared-clause-made
returns-in-Prepared-clause-made c =
    let running = c.in-Prepared.running in
    let after = c.commit-pass.result.0 in
    let receipt = c.commit-pass.result.1 in
    let told = replies_given c.put-in-Prepared.new.place in
    let at : Position = record { place = receipt.place; nth = receipt.nth } in
    let store = c.behind-self.inside.store in
    let counts = c.behind-self.invariant.counts in
    let here : store ≡ c.args.self.now.store = search rules in
    let state : c.args.self.now.state ≡ states.Prepared running = search rules in
    let so : AreCommitted c.args.self.now.store (alone running) after receipt.place receipt.nth =
    subst (λ (s : StoreSeen). AreCommitted s (alone running) after receipt.place receipt.nth) here
    (prepared_committed store (alone running) after (receipt_of at (running.reply ∷ []))
    (made_alone store running.call running.reply running.begun after receipt counts c.commit-pass.ensures.made)) in
    record {
      running = alone running;
      after = after;
      was = ap uncommitted_in state;
      is = c.put.ensures;
      told = ap replies_given c.put-in-Prepared.ensures ∙ told_committed store running after receipt counts c.commit-pass.ensures.made;
      picked = refl;
      entry = so.entry;
      held =
          subst (λ (s : State). HeldFor c.args.self.now.store s (alone running).steps so.entry.at_commit) (sym state)
          so.exact;
      given = given_so c.args.self.now.store told (ap (λ (s : StoreSeen). s.row.keeping) (sym here) ∙ counts);
    }

pub returns-in-PreparedGroup-clause-made : goal.returns-in-PreparedGroup-clause-made
returns-in-PreparedGroup-clause-made c =
    let running = c.in-PreparedGroup.running in
    let after = c.commit-pass-in-PreparedGroup.result.0 in
    let receipt = c.commit-pass-in-PreparedGroup.result.1 in
    let told = replies_given c.put-in-PreparedGroup-2.new.place in
    let store = c.behind-self-in-PreparedGroup.inside.store in
    let counts = c.behind-self-in-PreparedGroup.invariant.counts in
    let here : store ≡ c.args.self.now.store = search rules in
    let state : c.args.self.now.state ≡ states.PreparedGroup running = search rules in
    let so : AreCommitted c.args.self.now.store running after receipt.place receipt.nth =
    subst (λ (s : StoreSeen). AreCommitted s running after receipt.place receipt.nth) here
    (prepared_committed store running after receipt c.commit-pass-in-PreparedGroup.ensures.made) in
    record {
      running = running;
      after = after;
      was = ap uncommitted_in state;
      is = c.put-in-PreparedGroup.ensures;
      told = ap replies_given c.put-in-PreparedGroup-2.ensures ∙ told_group_committed store running after receipt counts c.commit-pass-in-PreparedGroup.ensures.made;
      picked = refl;
      entry = so.entry;
      held =
          subst (λ (s : State). HeldFor c.args.self.now.store s running.steps so.entry.at_commit) (sym state) so.exact;
      given = given_so c.args.self.now.store told (ap (λ (s : StoreSeen). s.row.keeping) (sym here) ∙ counts);
    }
