use Rattle.std.proofs.Common.{◌≡◌, ◌∙◌, rules, ap, ap₂, codes}
use Rattle.rc_command.proofs.Imports.{IfOk-weaker, App, Shape, app_of, new_rule, rule_of, with_rule, with_subcommand, audit_app}
use Rattle.rc_command.proofs.command.add_audit.Goals as goal

pub returns : goal.returns
returns c =
    let form_is : rule_of c.new-form.result ≡ new_rule (codes "FORM") = search rules in
    let audit_is : app_of c.in_ok-audit.audit ≡ audit_app = c.in_ok-audit.ensures.shape (search rules) ∙ ap₂ with_rule c.new.ensures.app form_is in
    let top = λ (a : App). a.top in
    IfOk-weaker c.subcommand.result _ _ (λ r h. h.shape (search rules) ∙ ap (λ (s : Shape). with_subcommand (app_of c.args.program) s) (ap top audit_is)) c.subcommand.ensures
