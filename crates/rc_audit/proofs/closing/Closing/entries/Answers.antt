use Rattle.std.proofs.Common.{sym, ap, ◌∙◌, length}
use Rattle.rc_audit.proofs.StageLemmas.{closing_good, closing_none}
use Rattle.rc_audit.proofs.closing.Closing.entries.Goals as goal

pub returns-then-self-count : goal.returns-then-self-count
returns-then-self-count c = λ form front at.
    let count = c.count.ensures c.args.compiled.now.spec c.args.work.now.ranks ∙ ap length at.tail_is in
    closing_good form c.args.compiled.now c.args.work.now c.requires c.args.self.now front at (c.if-self-count.true ∙ count)

pub returns-else-self-count : goal.returns-else-self-count
returns-else-self-count c = λ form front at.
    let count = c.count.ensures c.args.compiled.now.spec c.args.work.now.ranks ∙ ap length at.tail_is in
    closing_none form c.args.compiled.now c.args.work.now c.requires c.args.self.now front at (λ all. c.if-self-count.false (all ∙ sym count))
