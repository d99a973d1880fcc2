use Rattle.std.proofs.Common.{ap, ◌∙◌}
use Rattle.rc_bindings.proofs.Imports.{zip, OneBinding, if_ok, zip-registers}
use Rattle.rc_bindings.proofs.binding.Binding.tuple.Goals as goal

pub returns : goal.returns
returns c =
    if_ok c.new.result (λ t e. e ∙ ap (zip c.self.inside.cols) c.in_ok-values_at.ensures ∙ zip-registers c.self.inside.cols c.self.inside.registers.now ∙ ap (λ (z : OneBinding). z.tuple) c.self.view_is) c.new.ensures
