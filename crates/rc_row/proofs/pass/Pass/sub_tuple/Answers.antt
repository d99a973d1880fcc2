use Rattle.rc_row.proofs.Imports.{refl, without_tuple, CanSubFrom, held_with}
use Rattle.rc_row.proofs.ChangeLemmas.{hands-held_with, taken-held_with}
use Rattle.rc_row.proofs.WholeLemmas.{fact_there, written_there, whole_with}
use Rattle.rc_row.proofs.pass.Pass.sub_tuple.Goals as goal

pub sub_tuple_at-requires-clause-held : goal.sub_tuple_at-requires-clause-held
sub_tuple_at-requires-clause-held c = written_there c.self.inside c.self.invariant c.args.self.now c.self.view_is c.args.stripe c.requires.held

pub sub_tuple_at-requires-clause-can : goal.sub_tuple_at-requires-clause-can
sub_tuple_at-requires-clause-can c = fact_there c.self.inside c.self.invariant c.args.self.now c.self.view_is c.args.stripe (CanSubFrom c.args.class c.args.tuple.now) c.requires.can

pub invariant_of-self : goal.invariant_of-self
invariant_of-self c =
    let held = c.self.inside.held.items in
    let change = without_tuple c.args.class c.args.tuple.now in
    whole_with c.self.inside c.sub_tuple_at.new.held (held_with c.args.stripe change held) c.self.invariant c.sub_tuple_at.ensures.items
    (hands-held_with c.args.stripe change held) (taken-held_with c.args.stripe change (λ f. refl) held) c.sub_tuple_at.ensures.room
