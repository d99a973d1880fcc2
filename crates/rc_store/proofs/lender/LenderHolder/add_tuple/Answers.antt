use Rattle.rc_store.proofs.Imports.{on_err_weaker, on_ok_weaker, List, raised_all, class_rows, changes_of_class, with_tuple, EdgeShape, PassSeen, lending, may_add, partly_lent, partly_of_row, told_change, told_partly, written_there}
use Rattle.std.proofs.Common.{refl, ap, ◌∙◌}
use Rattle.rc_store.proofs.lender.LenderHolder.add_tuple.Goals as goal

pub add_tuple-requires-clause-held : goal.add_tuple-requires-clause-held
add_tuple-requires-clause-held g c =
    let lender = c.args.self.now in
    written_there lender.row.now lender.pass.now lender.refused.now lender.pass.ghost_name c.args.stripe
    c.held_agrees.ensures c.requires.exclusive

pub add_tuple-requires-clause-can : goal.add_tuple-requires-clause-can
add_tuple-requires-clause-can g c =
    let lender = c.args.self.now in
    may_add lender.row.now lender.pass.now lender.refused.now lender.pass.ghost_name c.args.stripe c.args.class
    c.args.tuple.now lender.of_row c.requires.owned c.requires.can

pub invariant_of-self : goal.invariant_of-self
invariant_of-self g c =
    let lender = c.args.self.now in
    record {
      of_row = partly_of_row lender.row.now lender.pass.now
          (with_tuple c.args.class c.args.tuple.now) c.args.stripe c.add_tuple.result c.add_tuple.new.self
          c.add_tuple.ensures.ok c.args.class c.args.tuple.now c.add_tuple.ensures.err (λ f. refl) lender.of_row;
    }

pub returns-clause-ok : goal.returns-clause-ok
returns-clause-ok g c =
    let lender = c.args.self.now in
    on_ok_weaker c.add_tuple.result
    (λ e. ap (λ (pass : PassSeen). lending lender.row.now pass lender.refused.now lender.pass.ghost_name) e
    ∙ told_change lender.row.now lender.pass.now lender.refused.now lender.pass.ghost_name c.args.stripe (λ (table : List EdgeShape). changes_of_class table c.args.class)
    (λ (table : List EdgeShape). raised_all (class_rows table c.args.class c.args.tuple.now)) lender.of_row)
    c.add_tuple.ensures.ok

pub returns-clause-err : goal.returns-clause-err
returns-clause-err g c =
    let lender = c.args.self.now in
    on_err_weaker c.add_tuple.result
    (told_partly lender.row.now lender.pass.now lender.refused.now lender.pass.ghost_name c.args.stripe c.args.class c.args.tuple.now c.add_tuple.new.self lender.of_row
    (let x = c.requires.exclusive in (x.0, x.1, x.2)))
    c.add_tuple.ensures.err

pub returns-clause-sound : goal.returns-clause-sound
returns-clause-sound g c spec =
    let lender = c.args.self.now in
    partly_lent lender.row.now lender.pass.now
    (with_tuple c.args.class c.args.tuple.now) c.args.stripe c.add_tuple.result c.add_tuple.new.self
    c.add_tuple.ensures.ok c.args.class c.args.tuple.now c.add_tuple.ensures.err (λ f. refl) lender.refused.now g.T.Takes.waits g.L.Lends.lent spec
