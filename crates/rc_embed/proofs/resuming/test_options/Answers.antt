use Rattle.std.proofs.Common.{◌≡◌, ◌≤◌, ℕ, List, length, sym, ap, ◌∙◌, subst, arith}
use Rattle.rc_embed.proofs.Imports.{AllByRecursion, false≢true}
use Rattle.rc_embed.proofs.WithinLemmas.{some_above}
use Rattle.rc_embed.proofs.resuming.test_options.Goals as goal

pub returns-then-not-are_within-clause-refused : goal.returns-then-not-are_within-clause-refused
returns-then-not-are_within-clause-refused c = (
  c.are_in_bounds.ensures.0 c.if-not-are_in_bounds.false,
  (let same : length c.made.result.now ≡ length c.args.closed.now.made = ap (λ (made : List ℕ). length made) c.made.ensures in
      let few = c.if-made-options.false in omega (arith, same, few)),
  some_above c.args.options.limit c.args.closed.now.made
      (λ all. false≢true (sym c.if-not-are_within.true
      ∙ c.are_within.ensures.1 (subst (AllByRecursion (λ n. n ≤ c.args.options.limit)) (sym c.made-2.ensures) all))),
)
