use Rattle.std.proofs.Common.{◌≡◌, ◌∙◌, rules, ap, ap₂}
use Rattle.rc_command.proofs.Imports.{IfOk-weaker, App, app_of, with_subcommand, audit_app, big_app, dot_app, program, program_making}
use Rattle.rc_command.proofs.command.reader.Goals as goal

pub returns : goal.returns
returns c =
    let top_is : app_of c.disable_help_subcommand.result ≡ program = search rules in
    let top = λ (a : App). a.top in
    let with_check = c.in_ok-subcommand.ensures.shape (search rules) ∙ ap₂ with_subcommand top_is (ap top c.new-check.ensures.app) in
    let with_plan = c.in_ok-subcommand-2.ensures.shape (search rules) ∙ ap₂ with_subcommand with_check (ap top c.new-plan.ensures.app) in
    let with_run = c.in_ok-subcommand-3.ensures.shape (search rules) ∙ ap₂ with_subcommand with_plan (ap top c.new-run.ensures.app) in
    let with_hand = c.in_ok-subcommand-4.ensures.shape (search rules) ∙ ap₂ with_subcommand with_run (ap top c.new-hand.ensures.app) in
    let with_group = c.in_ok-subcommand-5.ensures.shape (search rules) ∙ ap₂ with_subcommand with_hand (ap top c.new-group.ensures.app) in
    let with_open : app_of c.in_ok-program.program ≡ program_making =
    c.in_ok-program.ensures.shape (search rules) ∙ ap₂ with_subcommand with_group (ap top c.new-opened.ensures.app) in
    let with_audit = c.in_ok-program-2.ensures ∙ ap (λ (a : App). with_subcommand a audit_app.top) with_open in
    let with_dot = c.in_ok-program-3.ensures ∙ ap (λ (a : App). with_subcommand a dot_app.top) with_audit in
    IfOk-weaker c.add_big.result _ _ (λ r h. h ∙ ap (λ (a : App). with_subcommand a big_app.top) with_dot) c.add_big.ensures
