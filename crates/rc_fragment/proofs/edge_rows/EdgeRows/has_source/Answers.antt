use Rattle.std.proofs.Common.{◌≡◌, Some, sym, ap, ◌∙◌}
use Rattle.rc_fragment.proofs.Imports.{not, option_copied, sources_of}
use Rattle.std.specs.FinMap as fin
use Rattle.rc_fragment.proofs.SourceReadLemmas.{clean_row, len_row, row_len}
use Rattle.rc_fragment.proofs.edge_rows.EdgeRows.has_source.Goals as goal

pub returns-then-not-tombstones : goal.returns-then-not-tombstones
returns-then-not-tombstones c =
    let is : fin.get (sources_of c.args.self.now) c.args.source.now ≡ Some c.in-Some.container.now = sym (sym (ap option_copied c.in-Some.is) ∙ c.get.ensures) in
    (λ t. clean_row c.args.self.now c.args.source.now c.in-Some.container.now is (c.requires.clean c.if-not-tombstones.true), λ h. ap not c.if-not-tombstones.true)

pub returns-else-not-tombstones : goal.returns-else-not-tombstones
returns-else-not-tombstones c =
    let is : fin.get (sources_of c.args.self.now) c.args.source.now ≡ Some c.in-Some.container.now = sym (sym (ap option_copied c.in-Some.is) ∙ c.get.ensures) in (
      λ t. len_row c.args.self.now c.args.source.now c.in-Some.container.now is (c.has_row.ensures.0 t),
      λ h. c.has_row.ensures.1 (row_len c.args.self.now c.args.source.now c.in-Some.container.now is h),
    )
