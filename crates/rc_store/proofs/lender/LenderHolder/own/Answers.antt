use Rattle.rc_store.proofs.Imports.{on_ok_weaker, with_promise, PassSeen, lending, may_lent, may_of_row, told_room, written_there}
use Rattle.std.proofs.Common.{refl, ap, ◌∙◌}
use Rattle.rc_store.proofs.lender.LenderHolder.own.Goals as goal

pub own-requires : goal.own-requires
own-requires g c =
    let lender = c.args.self.now in
    written_there lender.row.now lender.pass.now lender.refused.now lender.pass.ghost_name c.args.stripe
    c.held_agrees.ensures c.requires

pub invariant_of-self : goal.invariant_of-self
invariant_of-self g c =
    let lender = c.args.self.now in
    record {
      of_row = may_of_row lender.row.now lender.pass.now
          (with_promise c.args.changes) c.args.stripe c.own.result c.own.new.self
          (λ f. refl) c.own.ensures.ok c.own.ensures.err lender.of_row;
    }

pub returns-clause-ok : goal.returns-clause-ok
returns-clause-ok g c =
    let lender = c.args.self.now in
    on_ok_weaker c.own.result
    (λ e. ap (λ (pass : PassSeen). lending lender.row.now pass lender.refused.now lender.pass.ghost_name) e ∙ told_room lender.row.now lender.pass.now lender.refused.now lender.pass.ghost_name c.args.stripe c.args.changes) c.own.ensures.ok

pub returns-clause-sound : goal.returns-clause-sound
returns-clause-sound g c spec =
    let lender = c.args.self.now in
    may_lent lender.row.now lender.pass.now (with_promise c.args.changes) c.args.stripe c.own.result c.own.new.self
    (λ f. refl) c.own.ensures.ok c.own.ensures.err lender.refused.now g.T.Takes.waits g.L.Lends.lent spec
