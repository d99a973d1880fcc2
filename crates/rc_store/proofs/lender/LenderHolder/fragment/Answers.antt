use Rattle.rc_store.specs.LendingLaws.{held_there, lent_so}
use Rattle.rc_store.proofs.lender.LenderHolder.fragment.Goals as goal

pub fragment-requires : goal.fragment-requires
fragment-requires g c =
    let lender = c.args.self.now in
    held_there lender.row.now lender.pass.now lender.refused.now lender.pass.ghost_name c.args.stripe
    c.held_agrees.ensures c.requires

pub returns : goal.returns
returns g c =
    let lender = c.args.self.now in
    lent_so lender.row.now lender.pass.now lender.refused.now lender.pass.ghost_name c.args.stripe
    c.fragment.result.now lender.of_row c.fragment.ensures c.requires
