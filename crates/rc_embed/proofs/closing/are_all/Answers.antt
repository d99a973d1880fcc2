use Rattle.std.proofs.Common.{rules, sym, ap, ◌∙◌}
use Rattle.rc_embed.specs.Closing.{number_of}
use Rattle.rc_embed.proofs.NumberLemmas.{count_of, number_at, one_more}
use Rattle.rc_embed.proofs.closing.are_all.Goals as goal

pub returns-then-passes-count : goal.returns-then-passes-count
returns-then-passes-count c = (
  search rules,
  λ all. absurd (c.if-passes-count.true (count_of c.args.passes.now c.args.count all)),
)

pub returns-then-number-at : goal.returns-then-number-at
returns-then-number-at c = (
  search rules,
  λ all. absurd (c.if-number-at.true (c.number.ensures
      ∙ ap number_of c.index-passes-at.is
      ∙ number_at c.args.passes.now c.args.count c.loop-at.at c.index-passes-at.result
      c.loop-at-test.true all)),
)

pub loop-at-preserved : goal.loop-at-preserved
loop-at-preserved c =
    one_more c.args.passes.now c.loop-at.at c.index-passes-at.result c.loop-at-test.true
    c.loop-at.invariant
    (sym (ap number_of c.index-passes-at.is) ∙ sym c.number.ensures ∙ c.if-number-at.false)
