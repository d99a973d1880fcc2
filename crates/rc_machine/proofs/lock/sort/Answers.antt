use Rattle.std.proofs.Common.{eqb, ◌∙◌}
use Rattle.rc_machine.proofs.Imports.{unsigned_ties, nat_cmp, dedup_is, kept_once, nat_order}
use Rattle.rc_machine.proofs.lock.sort.Goals as goal

pub returns-then-len-gt1 : goal.returns-then-len-gt1
returns-then-len-gt1 c =
    dedup_is _ _ _ c.dedup.ensures.filtered
    ∙ kept_once nat_cmp nat_order eqb unsigned_ties c.args.numbers.now.items c.sort_unstable.new.self.items c.sort_unstable.ensures.permutation c.sort_unstable.ensures.sorted
