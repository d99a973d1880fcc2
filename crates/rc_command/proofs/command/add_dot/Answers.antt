use Rattle.std.proofs.Common.{◌≡◌, ◌∙◌, rules, ap, ap₂, codes}
use Rattle.rc_command.proofs.Imports.{IfOk-weaker, App, Shape, app_of, new_rule, rule_of, with_rule, with_subcommand, dot_app}
use Rattle.rc_command.proofs.command.add_dot.Goals as goal

pub returns : goal.returns
returns c =
    let op_is : rule_of c.new-op.result ≡ new_rule (codes "OP") = search rules in
    let dot_is : app_of c.in_ok-dot.dot ≡ dot_app = c.in_ok-dot.ensures.shape (search rules) ∙ ap₂ with_rule c.new.ensures.app op_is in
    let top = λ (a : App). a.top in
    IfOk-weaker c.subcommand.result _ _ (λ r h. h.shape (search rules) ∙ ap (λ (s : Shape). with_subcommand (app_of c.args.program) s) (ap top dot_is)) c.subcommand.ensures
