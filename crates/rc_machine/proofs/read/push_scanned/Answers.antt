use Rattle.std.proofs.Common.{◌≡◌, ◌++◌, [], subst, sym, ap, ◌∙◌}
use Rattle.rc_machine.proofs.Imports.{OnOk, flat_map, In, Pairs, merges_of, BindingList, IsGivenBy, TakesRows, with_tuples, Edge, bound, edge_at, HasScanned, HasShape, shape_of, extra_columns, values_at, Scan, HasMerged, number_has_shape}
use Rattle.rc_bindings.specs.Bindings.{key_and_extra}
use Rattle.rc_machine.proofs.ReadLemmas.{on_ok, read_known, scanned}
use Rattle.rc_machine.proofs.SeekLemmas.{row_scanned, takes_rows}
use Rattle.rc_machine.proofs.read.push_scanned.Goals as goal
use Rattle.rc_machine.proofs.read.push_scanned.Goals.{After-deref, After-push_rows, In_ok-scan}

-- the values of the source by which rows are scanned
source : (c : After-deref) → c.deref.result.now ≡ values_at (bound c.args.read.now.spec.now (edge_at c.args.read.now.spec.now c.args.read.now.edge).from) c.args.binding.now.tuple
source c =
    c.deref.ensures.value ∙ c.in_ok-push_values.ensures ∙ ap (λ l. l ++ values_at c.args.read.now.resolved.now.source c.args.binding.now.tuple) c.clear.ensures.items
    ∙ ap (λ xs. values_at xs c.args.binding.now.tuple) c.requires.read.resolved.edge.source

-- what the scan answered
rows : (c : In_ok-scan) → HasScanned (shape_of c.args.read.now.spec.now c.args.read.now.edge) c.args.fragment.now.now c.args.read.now.edge c.deref.result.now [] c.scan.new.out.items
rows c =
    let shape = shape_of c.args.read.now.spec.now c.args.read.now.edge in
    let has : HasShape c.args.fragment.now.table c.args.read.now.edge shape = subst (λ t. HasShape t c.args.read.now.edge shape) (sym c.requires.read.table) (number_has_shape c.args.read.now.spec.now c.args.read.now.edge c.requires.read.known) in
    subst (λ z. HasScanned shape c.args.fragment.now.now c.args.read.now.edge c.deref.result.now z c.scan.new.out.items) c.clear-2.ensures.items (c.in_ok-scan.ensures.ok shape has)

pub scan-requires : goal.scan-requires
scan-requires c = read_known c.args.fragment.now.table c.args.read.now c.requires.read

pub push_rows-requires-clause-takes : goal.push_rows-requires-clause-takes
push_rows-requires-clause-takes c =
    let takes = takes_rows c.args.read.now.spec.now c.requires.read.sealed c.args.read.now.edge c.requires.read.known c.args.binding.now c.args.found.now c.requires.takes c.requires.own Scan c.requires.reader in
    subst (λ k. TakesRows c.args.binding.now k c.args.read.now.resolved.now.extra c.args.found.now) (sym c.requires.read.resolved.edge.key)
    (subst (λ x. TakesRows c.args.binding.now (edge_at c.args.read.now.spec.now c.args.read.now.edge).key x c.args.found.now) (sym c.requires.read.resolved.edge.extra) takes)

pub push_rows-requires-clause-few : goal.push_rows-requires-clause-few
push_rows-requires-clause-few c = c.requires.read.resolved.edge.few

-- what is added of the rows that the scan told
added : (c : After-push_rows) (found : HasScanned (shape_of c.args.read.now.spec.now c.args.read.now.edge) c.args.fragment.now.now c.args.read.now.edge c.deref.result.now [] c.scan.new.out.items)
    → c.deref.result.now ≡ values_at (bound c.args.read.now.spec.now (edge_at c.args.read.now.spec.now c.args.read.now.edge).from) c.args.binding.now.tuple
    → c.args.read.now.resolved.now.extra ≡ extra_columns (shape_of c.args.read.now.spec.now c.args.read.now.edge)
    → OnOk c.push_rows.result (c.push_rows.new.self ≡ with_tuples c.args.found.now (c.args.found.now.tuples ++ merges_of c.args.binding.now.tuple found.0))
added c found by_source extra_is =
    let b = c.args.binding.now.tuple in
    let edge : Edge = edge_at c.args.read.now.spec.now c.args.read.now.edge in
    let extras = extra_columns (shape_of c.args.read.now.spec.now c.args.read.now.edge) in
    let key_is : c.args.read.now.resolved.now.key ≡ edge.key = c.requires.read.resolved.edge.key in
    let told : c.deref-2.result.now ≡ flat_map (key_and_extra c.args.read.now.resolved.now.key c.args.read.now.resolved.now.extra) found.0 =
    c.deref-2.ensures.value ∙ found.1 ∙ ap (λ k. flat_map (key_and_extra k extras) found.0) (sym key_is)
    ∙ ap (λ x. flat_map (key_and_extra c.args.read.now.resolved.now.key x) found.0) (sym extra_is) in
    let given : (row : Pairs) → In row found.0 → IsGivenBy b c.args.read.now.resolved.now.key c.args.read.now.resolved.now.extra row =
    λ row m.
    let is = found.2.only row m in
    subst (λ k. IsGivenBy b k c.args.read.now.resolved.now.extra row) (sym key_is) (subst (λ x. IsGivenBy b edge.key x row) (sym extra_is)
    (row_scanned c.args.read.now.spec.now c.requires.read.sealed c.args.read.now.edge c.requires.read.known b row c.requires.tuple (c.requires.columns (c.args.read.now.edge, row, is.0.0) is.0.1) c.requires.reader.source (is.1 ∙ by_source))) in
    on_ok c.push_rows.result (λ f. f found.0 told given) c.push_rows.ensures.ok

pub returns-clause-merged : goal.returns-clause-merged
returns-clause-merged c =
    let at = goal.at.returns-clause-merged c in
    let found = rows at.In_ok-scan in
    let by_source = source at.After-deref in
    let merged = scanned c.args.read.now.spec.now c.requires.read.sealed c.args.read.now.edge c.requires.read.known c.args.binding.now.tuple c.requires.tuple c.args.fragment.now.now c.requires.columns c.args.found.now.tuples found.0
    c.deref.result.now by_source c.requires.reader found.2 in
    on_ok c.push_rows.result (λ e. subst (λ (z : BindingList). HasMerged c.args.binding.now.tuple c.args.read.now.edge c.args.fragment.now.now c.args.found.now.tuples z.tuples) (sym e) merged)
    (added at.After-push_rows found by_source c.requires.read.resolved.edge.extra)

pub returns-clause-same : goal.returns-clause-same
returns-clause-same c =
    let at = goal.at.returns-clause-same c in
    on_ok c.push_rows.result (λ e. e ∙ ap (with_tuples c.args.found.now) (sym (ap (λ (z : BindingList). z.tuples) e)))
    (added at.After-push_rows (rows at.In_ok-scan) (source at.After-deref) c.requires.read.resolved.edge.extra)
