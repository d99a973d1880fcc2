use Rattle.rc_row.proofs.Imports.{refl, rolled_back, HeldRows, all_with}
use Rattle.rc_row.proofs.ChangeLemmas.{hands-with, taken-with}
use Rattle.rc_row.proofs.WholeLemmas.{whole_with}
use Rattle.rc_row.proofs.pass.Pass.revert.Goals as goal

pub invariant_of-self : goal.invariant_of-self
invariant_of-self c =
    let held = c.self.inside.held.items in
    whole_with c.self.inside c.revert_all.new.held (all_with rolled_back held) c.self.invariant c.revert_all.ensures.items
    (hands-with (λ (h : HeldRows). rolled_back h.fragment) held) (taken-with (λ (h : HeldRows). rolled_back h.fragment) (λ h. refl) held) c.revert_all.ensures.room
