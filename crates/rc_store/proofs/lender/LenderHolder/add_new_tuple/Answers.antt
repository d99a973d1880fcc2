use Rattle.rc_store.proofs.Imports.{on_err_weaker, on_ok_weaker, List, HasNoRowOf, HasRowOf, raised_all, class_rows, changes_of_class, with_tuple, EdgeShape, PassSeen, lending, may_add_new, partly_lent, partly_of_row, told_change, told_partly, told_rows, written_there}
use Rattle.std.proofs.Common.{refl, ap, ◌∙◌}
use Rattle.rc_store.proofs.lender.LenderHolder.add_new_tuple.Goals as goal

pub add_new_tuple-requires-clause-held : goal.add_new_tuple-requires-clause-held
add_new_tuple-requires-clause-held g c =
    let lender = c.args.self.now in
    written_there lender.row.now lender.pass.now lender.refused.now lender.pass.ghost_name c.args.stripe
    c.held_agrees.ensures c.requires.exclusive

pub add_new_tuple-requires-clause-can : goal.add_new_tuple-requires-clause-can
add_new_tuple-requires-clause-can g c =
    let lender = c.args.self.now in
    may_add_new lender.row.now lender.pass.now lender.refused.now lender.pass.ghost_name c.args.stripe c.args.class c.args.edge
    c.args.tuple.now lender.of_row c.requires.known c.requires.first c.requires.owned c.requires.columns c.requires.can

pub returns-clause-none : goal.returns-clause-none
returns-clause-none g c =
    let lender = c.args.self.now in
    on_ok_weaker c.add_new_tuple.result
    (told_rows lender.row.now lender.pass.now lender.refused.now lender.pass.ghost_name (λ table rows. HasNoRowOf table rows c.args.edge c.args.tuple.now) c.args.stripe lender.of_row)
    c.add_new_tuple.ensures.none

pub returns-clause-there : goal.returns-clause-there
returns-clause-there g c e =
    let lender = c.args.self.now in
    let there = c.add_new_tuple.ensures.there e in (
      told_rows lender.row.now lender.pass.now lender.refused.now lender.pass.ghost_name (λ table rows. HasRowOf table rows c.args.edge c.args.tuple.now) c.args.stripe lender.of_row there.0,
      ap (λ (pass : PassSeen). lending lender.row.now pass lender.refused.now lender.pass.ghost_name) there.1,
    )

pub invariant_of-self : goal.invariant_of-self
invariant_of-self g c =
    let lender = c.args.self.now in
    record {
      of_row = partly_of_row lender.row.now lender.pass.now
          (with_tuple c.args.class c.args.tuple.now) c.args.stripe c.add_new_tuple.result c.add_new_tuple.new.self
          c.add_new_tuple.ensures.ok c.args.class c.args.tuple.now c.add_new_tuple.ensures.err (λ f. refl) lender.of_row;
    }

pub returns-clause-ok : goal.returns-clause-ok
returns-clause-ok g c =
    let lender = c.args.self.now in
    on_ok_weaker c.add_new_tuple.result
    (λ e. ap (λ (pass : PassSeen). lending lender.row.now pass lender.refused.now lender.pass.ghost_name) e
    ∙ told_change lender.row.now lender.pass.now lender.refused.now lender.pass.ghost_name c.args.stripe (λ (table : List EdgeShape). changes_of_class table c.args.class)
    (λ (table : List EdgeShape). raised_all (class_rows table c.args.class c.args.tuple.now)) lender.of_row)
    c.add_new_tuple.ensures.ok

pub returns-clause-err : goal.returns-clause-err
returns-clause-err g c =
    let lender = c.args.self.now in
    on_err_weaker c.add_new_tuple.result
    (told_partly lender.row.now lender.pass.now lender.refused.now lender.pass.ghost_name c.args.stripe c.args.class c.args.tuple.now c.add_new_tuple.new.self lender.of_row
    (let x = c.requires.exclusive in (x.0, x.1, x.2)))
    c.add_new_tuple.ensures.err

pub returns-clause-sound : goal.returns-clause-sound
returns-clause-sound g c spec =
    let lender = c.args.self.now in
    partly_lent lender.row.now lender.pass.now
    (with_tuple c.args.class c.args.tuple.now) c.args.stripe c.add_new_tuple.result c.add_new_tuple.new.self
    c.add_new_tuple.ensures.ok c.args.class c.args.tuple.now c.add_new_tuple.ensures.err (λ f. refl) lender.refused.now g.T.Takes.waits g.L.Lends.lent spec
