use Rattle.std.proofs.Common.{◌≡◌, false, refl}
use Rattle.rc_store.proofs.Imports.{with_standing, turned_away, above_there, refused_so, some_of}
use Rattle.rc_store.proofs.lender.LenderHolder.take.Goals as goal

pub take-requires-clause-above : goal.take-requires-clause-above
take-requires-clause-above g c =
    let lender = c.args.self.now in
    above_there lender.row.now lender.pass.now lender.refused.now lender.pass.ghost_name c.args.stripe
    c.held_agrees.ensures c.requires.above

pub returns-in-Ok-Some-clause-refused : goal.returns-in-Ok-Some-clause-refused
returns-in-Ok-Some-clause-refused g c h e =
    let lender = c.args.self.now in
    refused_so lender.row.now lender.pass.now c.take.new.pass lender.refused.now lender.pass.ghost_name c.args.stripe
    c.args.mode c.in-Ok-Some.found
    (record { answer = record { stripe = c.args.stripe; found = c.in-Ok-Some.found }; mode = c.args.mode; pass = c.of.result })
    refl refl c.of.ensures
    (some_of c.in-Ok-Some.field-0 c.in-Ok-Some.found
    (λ found. (g.T.Takes.waits ≡ false) × (c.take.new.pass ≡ with_standing (turned_away c.args.mode lender.pass.now.standing c.args.stripe found) lender.pass.now)) c.in-Ok-Some.field-0-is c.in-Ok-Some.ensures.refused).1
    h cc
