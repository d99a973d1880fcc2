use Rattle.std.proofs.Common.{◌≡◌, ◌++◌, Some, length, subst, sym, ap, ◌∙◌}
use Rattle.rc_fragment.proofs.Imports.{flat_map, zip, map, Values, FragmentRows, HasListed, HaveWidth, EdgeShape}
use Rattle.rc_fragment.proofs.SourceReadLemmas.{source_widths}
use Rattle.rc_fragment.proofs.SourcesLemmas.{if_ok_from}
use Rattle.rc_fragment.proofs.stored.Stored.sources.Goals as goal

pub rows_over-requires : goal.rows_over-requires
rows_over-requires c = c.requires.some c.shape.result c.shape.ensures

pub returns : goal.returns
returns c = if_ok_from c.rows_over.result c.rows_over.ensures (λ rows is shape has.
    let f : FragmentRows = c.args.self.now in
    let e = c.args.edge in
    let one : Some c.shape.result ≡ Some shape = sym c.shape.ensures ∙ has in
    let same : c.shape.result ≡ shape = cc in
    let listed : HasListed shape f.now e c.new-values.result.items c.push_sources.new.out.items = c.in_ok-push_sources.ensures.ok shape has in
    let values : c.deref.result.now ≡ flat_map (λ (s : Values). s) listed.0 = c.deref.ensures.value ∙ listed.1 ∙ ap (λ z. z ++ flat_map (λ (s : Values). s) listed.0) c.new-values.ensures.items in
    let width : HaveWidth (length c.shape.result.source) listed.0 = subst (λ (z : EdgeShape). HaveWidth (length z.source) listed.0) (sym same)
    (source_widths f.table f.now c.rows_fit_the_table.ensures.now e shape has (c.requires.table.parted e shape has) listed.0 listed.2) in
    (listed.0, is listed.0 values width ∙ ap (λ (z : EdgeShape). map (zip z.source) listed.0) same, listed.2))
