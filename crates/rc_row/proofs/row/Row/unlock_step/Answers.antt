use Rattle.rc_row.proofs.Imports.{ℕ, subst, HasUnlocked}
use Rattle.rc_row.proofs.SeatStepLemmas.{unlocks_at}
use Rattle.rc_row.proofs.WholeLemmas.{passes_seen}
use Rattle.rc_row.proofs.row.Row.unlock_step.Goals as goal

pub fetch_sub-requires : goal.fetch_sub-requires
fetch_sub-requires c =
    unlocks_at c.self.inside c.args.self.now c.self.view_is c.self.invariant c.args.seat.now.id c.args.seat.now.me c.args.seat.now.table_id c.requires.row
    c.args.stripe c.stripe_word.result c.args.mark c.requires.stripe c.stripe_word.ensures c.requires.pass c.requires.held c.requires.mark c.requires.slots

pub returns-clause-told : goal.returns-clause-told
returns-clause-told c =
    subst (λ (n : ℕ). HasUnlocked n c.args.seat.now.me c.args.stripe c.fetch_sub.new.seat.me) (passes_seen c.self.inside c.args.self.now c.self.view_is c.self.invariant) (c.fetch_sub.ensures.2 c.args.stripe c.stripe_word.ensures)
