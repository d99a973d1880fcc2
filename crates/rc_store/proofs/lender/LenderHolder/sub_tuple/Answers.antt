use Rattle.std.proofs.Common.{refl, sym, ap, subst, ◌∙◌}
use Rattle.rc_store.proofs.Imports.{List, lowered_all, class_rows, changes_of_class, without_tuple, EdgeShape, IsPassOf, PassSeen, IsLentSo, lending, at_lent, at_of_row, may_sub, told_change, written_there}
use Rattle.rc_store.proofs.lender.LenderHolder.sub_tuple.Goals as goal

pub sub_tuple-requires-clause-held : goal.sub_tuple-requires-clause-held
sub_tuple-requires-clause-held g c =
    let lender = c.args.self.now in
    written_there lender.row.now lender.pass.now lender.refused.now lender.pass.ghost_name c.args.stripe
    c.held_agrees.ensures c.requires.exclusive

pub sub_tuple-requires-clause-can : goal.sub_tuple-requires-clause-can
sub_tuple-requires-clause-can g c =
    let lender = c.args.self.now in
    may_sub lender.row.now lender.pass.now lender.refused.now lender.pass.ghost_name c.args.stripe c.args.class
    c.args.tuple.now lender.of_row c.requires.owned c.requires.can

pub invariant_of-self : goal.invariant_of-self
invariant_of-self g c =
    let lender = c.args.self.now in
    record {
      of_row = subst (IsPassOf lender.row.now) (sym c.sub_tuple.ensures)
          (at_of_row lender.row.now lender.pass.now (without_tuple c.args.class c.args.tuple.now) c.args.stripe
          (λ f. refl) lender.of_row);
    }

pub returns-clause-value : goal.returns-clause-value
returns-clause-value g c =
    let lender = c.args.self.now in
    ap (λ (pass : PassSeen). lending lender.row.now pass lender.refused.now lender.pass.ghost_name) c.sub_tuple.ensures
    ∙ told_change lender.row.now lender.pass.now lender.refused.now lender.pass.ghost_name c.args.stripe (λ (table : List EdgeShape). changes_of_class table c.args.class)
    (λ (table : List EdgeShape). lowered_all (class_rows table c.args.class c.args.tuple.now)) lender.of_row

pub returns-clause-sound : goal.returns-clause-sound
returns-clause-sound g c spec l =
    let lender = c.args.self.now in
    subst (λ (pass : PassSeen). IsLentSo g.T.Takes.waits g.L.Lends.lent lender.row.now pass lender.refused.now spec)
    (sym c.sub_tuple.ensures)
    (at_lent lender.row.now lender.pass.now (without_tuple c.args.class c.args.tuple.now) c.args.stripe
    (λ f. refl) lender.refused.now g.T.Takes.waits g.L.Lends.lent spec l)
