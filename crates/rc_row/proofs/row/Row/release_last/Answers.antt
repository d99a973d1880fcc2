use Rattle.rc_row.specs.Passes.{stripes_of}
use Rattle.rc_row.proofs.GiveAllLemmas.{inside_so}
use Rattle.rc_row.proofs.row.Row.release_last.Goals as goal

pub returns-clause-inside : goal.returns-clause-inside
returns-clause-inside c = inside_so (stripes_of c.args.self.now) c.args.pass.now.held c.in_ok-stripe.stripe c.in_ok-stripe.mode c.requires.pass.inside c.in_ok-stripe.ensures.some
