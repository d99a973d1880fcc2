use Rattle.rc_row.proofs.Imports.{refl, with_promise, held_with}
use Rattle.rc_row.proofs.ChangeLemmas.{hands-held_with, taken-held_with}
use Rattle.rc_row.proofs.WholeLemmas.{written_there, whole_if}
use Rattle.rc_row.proofs.pass.Pass.own.Goals as goal

pub own_at-requires-clause-held : goal.own_at-requires-clause-held
own_at-requires-clause-held c = written_there c.self.inside c.self.invariant c.args.self.now c.self.view_is c.args.stripe c.requires

pub invariant_of-self : goal.invariant_of-self
invariant_of-self c =
    let held = c.self.inside.held.items in
    let change = with_promise c.args.changes in
    whole_if c.own_at.result c.self.inside c.own_at.new.held (held_with c.args.stripe change held) c.self.invariant c.own_at.ensures.ok c.own_at.ensures.err
    (hands-held_with c.args.stripe change held) (taken-held_with c.args.stripe change (λ f. refl) held) c.own_at.ensures.room
