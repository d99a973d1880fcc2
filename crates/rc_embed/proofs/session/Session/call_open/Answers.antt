use Rattle.rc_embed.proofs.Imports.{rules, refl, asked_with}
use Rattle.rc_embed.proofs.DeclaringLemmas.{own_open_cause}
use Rattle.rc_embed.proofs.session.Session.call_open.Goals as goal

pub returns-in-Some-clause-answers : goal.returns-in-Some-clause-answers
returns-in-Some-clause-answers c =
    let both = own_open_cause c.args.self.now (asked_with c.args.op c.args.values.now) c.in-Some.fault (search rules) in
    record { store = refl; made = tt; cause = both.0; left = both.1 }
