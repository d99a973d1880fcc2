use Rattle.std.proofs.Common.{◌∙◌}
use Rattle.rc_command.proofs.Imports.{IfOk-weaker, found_of, rows_of}
use Rattle.rc_command.proofs.WordLemmas.{met_is}
use Rattle.rc_command.proofs.command.command_met.Goals as goal

pub returns-in-Some-clause-value : goal.returns-in-Some-clause-value
returns-in-Some-clause-value c =
    IfOk-weaker c.command_behind.result _ _
    (λ r h. h ∙ met_is (λ p. p.0.now) (λ p. rows_of (found_of p.1.now)) c.args.matches.now c.subcommand.result (c.in-Some.name, c.in-Some.inner) c.subcommand.ensures.name c.subcommand.ensures.rows c.in-Some.is)
    c.command_behind.ensures.value
