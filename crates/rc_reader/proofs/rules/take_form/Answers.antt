use Rattle.std.proofs.Common.{ap, sym, ◌∙◌}
use Rattle.rc_reader.specs.declared.found.FoundLine.{FoundLine}
use Rattle.rc_reader.specs.Found.{tests_of}
use Rattle.rc_reader.specs.Forms.{form_text}
use Rattle.rc_reader.specs.Judging.{first_broken, unless_broken}
use Rattle.rc_reader.specs.Rules.{with_line}
use Rattle.rc_reader.proofs.rules.take_form.Goals as goal

pub returns-in-Some : goal.returns-in-Some
returns-in-Some c =
    let spec = c.args.spec.now in
    ap (λ found. unless_broken found (with_line spec (form_text c.args.form)))
    (ap (λ (line : FoundLine). first_broken (tests_of c.args.version spec line)) (sym c.in_ok-line.ensures) ∙ sym c.broken_rule.ensures ∙ c.in-Some.is)
