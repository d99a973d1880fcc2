use Rattle.std.proofs.Common.{◌∙◌, sym}
use Rattle.std.proofs.lemmas.Bool.{false≢true}
use Rattle.rc_check.proofs.RuleLemmas.{pattern_given, whole_given}
use Rattle.rc_check.proofs.progress.columns_given.Goals as goal

pub returns-then-gives_tuple : goal.returns-then-gives_tuple
returns-then-gives_tuple c = c.all_columns.ensures ∙ whole_given c.args.spec.now c.args.op.now c.args.op.now.kind (c.gives_tuple.ensures.0 c.if-gives_tuple.true)

pub returns-else-gives_tuple : goal.returns-else-gives_tuple
returns-else-gives_tuple c = c.pattern_of.ensures ∙ pattern_given c.args.spec.now c.args.op.now c.args.op.now.kind (λ g. false≢true (sym c.if-gives_tuple.false ∙ c.gives_tuple.ensures.1 g))
