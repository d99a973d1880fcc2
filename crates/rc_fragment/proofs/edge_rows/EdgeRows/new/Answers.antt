use Rattle.std.proofs.Common.{sym, ap, ◌∙◌}
use Rattle.std.specs.FinMap as fin
use Rattle.rc_fragment.proofs.Imports.{get-empty, none-some, values_cmp, width_for, Sources}
use Rattle.rc_fragment.proofs.edge_rows.EdgeRows.new.Goals as goal

pub returns-clause-form : goal.returns-clause-form
returns-clause-form c = record {
  forms = λ s v g. absurd (none-some v (sym (ap (λ (z : Sources). fin.get z s) c.new.ensures.empty ∙ get-empty values_cmp s) ∙ g));
  width = c.new.ensures.width ∙ ap width_for c.len.ensures.value;
}
