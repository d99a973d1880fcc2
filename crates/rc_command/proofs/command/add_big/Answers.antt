use Rattle.std.proofs.Common.{◌≡◌, ◌∙◌, rules, ap, ap₂, codes}
use Rattle.rc_command.proofs.Imports.{IfOk-weaker, App, Shape, app_of, rule_of, with_rule, with_subcommand, big_app, required_word}
use Rattle.rc_command.proofs.command.add_big.Goals as goal

pub returns : goal.returns
returns c =
    let seed_is : rule_of c.required-seed.result ≡ required_word (codes "SEED") = search rules in
    let calls_is : rule_of c.required-calls.result ≡ required_word (codes "N") = search rules in
    let big_is : app_of c.in_ok-big.big ≡ big_app = c.in_ok-big.ensures.shape (search rules)
    ∙ ap₂ with_rule (c.in_ok-arg.ensures.shape (search rules) ∙ ap₂ with_rule c.new-3.ensures.app seed_is) calls_is in
    let top = λ (a : App). a.top in
    IfOk-weaker c.subcommand.result _ _ (λ r h. h.shape (search rules) ∙ ap (λ (s : Shape). with_subcommand (app_of c.args.program) s) (ap top big_is)) c.subcommand.ensures
