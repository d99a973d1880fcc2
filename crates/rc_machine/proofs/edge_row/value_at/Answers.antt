use Rattle.std.proofs.Common.{◌≡◌, ℕ, Option, get_or, true, sym, ap, ◌∙◌, arith}
use Rattle.rc_machine.proofs.Imports.{unwrap_or, has, rank_within, in_has}
use Rattle.rc_machine.proofs.EdgeRowLemmas.{value_extra, value_other}
use Rattle.rc_machine.proofs.edge_row.value_at.Goals as goal

pub rank-requires : goal.rank-requires
rank-requires c =
    let below = c.has.ensures.set.below c.args.col (in_has c.args.extra c.args.col (sym c.has.ensures.found ∙ c.if-has.true)) in
    omega (arith, below)

pub bounds-values-rank : goal.bounds-values-rank
bounds-values-rank c =
    let within = rank_within c.args.extra c.args.col c.has.ensures.set (sym c.has.ensures.found ∙ c.if-has.true) in
    let is = c.rank.ensures.value in
    let count = c.requires in
    omega (arith, within, is, count)

pub returns-then-has : goal.returns-then-has
returns-then-has c =
    let there : has c.args.extra c.args.col ≡ true = sym c.has.ensures.found ∙ c.if-has.true in
    ap (λ k. get_or c.args.values.now k 0) c.rank.ensures.value ∙ value_extra c.args.extra c.args.values.now c.args.tuple.now c.args.col c.has.ensures.set c.requires there

pub returns-else-has : goal.returns-else-has
returns-else-has c =
    c.unwrap_or.ensures ∙ ap (λ (o : Option ℕ). unwrap_or o 0) c.get.ensures
    ∙ value_other c.args.extra c.args.values.now c.args.tuple.now c.args.col c.requires (sym c.has.ensures.found ∙ c.if-has.false)
