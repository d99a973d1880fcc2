use Rattle.std.proofs.Common.{sym, ◌∙◌}
use Rattle.rc_reader.specs.Forms.{form_text}
use Rattle.rc_reader.specs.UnnamedLaws.{looked_up_over}
use Rattle.rc_reader.proofs.unnamed.read_operation.Goals as goal

pub returns-clause-columns : goal.returns-clause-columns
returns-clause-columns c =
    looked_up_over c.args.spec.now (form_text c.in-Some-operation_behind.form) c.in-Some-2.found (sym c.in_ok-found.ensures ∙ c.in-Some-2.is)
    c.if-found.false c.if-found-2.false
