use Rattle.std.proofs.Common.{refl, sym, ap, ◌∙◌}
use Rattle.rc_fragment.proofs.Imports.{containers_of, width_for, kept_in, SeenContainer, Sources, form_of, sources_of}
use Rattle.rc_fragment.proofs.CopyLemmas.{emptied_seen, forms_same, found_same}
use Rattle.rc_fragment.proofs.edge_rows.EdgeRows.copy.Goals as goal

pub copy-requires : goal.copy-requires
copy-requires c = c.requires.width ∙ ap width_for (sym c.len-columns.ensures.value)

pub returns : goal.returns
returns c =
    let old : Sources = sources_of c.args.self.now in
    let new : Sources = containers_of c.in_ok-copy.field-0 in
    record {
      kept = found_same old new c.in_ok-copy.ensures.seen kept_in (λ (f : SeenContainer). f.0) (λ x. refl);
      emptied = emptied_seen old new c.in_ok-copy.ensures.seen;
      forms = record {
        forms = forms_same old new c.in_ok-copy.ensures.seen (form_of c.args.self.now.shape) c.requires.forms;
        width = c.in_ok-copy.ensures.width ∙ c.requires.width;
      };
      shape = refl;
    }
