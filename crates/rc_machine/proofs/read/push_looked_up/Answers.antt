use Rattle.std.proofs.Common.{◌≡◌, ◌++◌, [], length, subst, sym, ap, ◌∙◌}
use Rattle.rc_machine.proofs.Imports.{bound, edge_at, BindingList, IsRowWith, TakesRows, given, HasShape, shape_of, extra_columns, values_at, Lookup, HasMerged, number_has_shape}
use Rattle.rc_machine.proofs.ReadLemmas.{looked_up_none, looked_up_some, on_ok, read_known}
use Rattle.rc_machine.proofs.SeekLemmas.{length_extra, row_looked_up, takes_extra}
use Rattle.rc_machine.proofs.read.push_looked_up.Goals as goal
use Rattle.rc_machine.proofs.read.push_looked_up.Goals.{After-lookup}

-- the values of source and key by which the row is looked up
source : (c : After-lookup) → c.deref.result.now ≡ values_at (bound c.args.read.now.spec.now (edge_at c.args.read.now.spec.now c.args.read.now.edge).from) c.args.binding.now.tuple
source c =
    c.deref.ensures.value ∙ c.in_ok-push_values.ensures ∙ ap (λ l. l ++ values_at c.args.read.now.resolved.now.source c.args.binding.now.tuple) c.clear.ensures.items
    ∙ ap (λ xs. values_at xs c.args.binding.now.tuple) c.requires.read.resolved.edge.source

key : (c : After-lookup) → c.deref-2.result.now ≡ values_at (edge_at c.args.read.now.spec.now c.args.read.now.edge).key c.args.binding.now.tuple
key c =
    c.deref-2.ensures.value ∙ c.in_ok-push_values-2.ensures ∙ ap (λ l. l ++ values_at c.args.read.now.resolved.now.key c.args.binding.now.tuple) c.clear-2.ensures.items
    ∙ ap (λ k. values_at k c.args.binding.now.tuple) c.requires.read.resolved.edge.key

-- the edge's shape in the fragment's table
shape : (c : After-lookup) → HasShape c.args.fragment.now.table c.args.read.now.edge (shape_of c.args.read.now.spec.now c.args.read.now.edge)
shape c = subst (λ t. HasShape t c.args.read.now.edge (shape_of c.args.read.now.spec.now c.args.read.now.edge)) (sym c.requires.read.table) (number_has_shape c.args.read.now.spec.now c.args.read.now.edge c.requires.read.known)

pub lookup-requires : goal.lookup-requires
lookup-requires c = read_known c.args.fragment.now.table c.args.read.now c.requires.read

pub push_row-requires-clause-takes : goal.push_row-requires-clause-takes
push_row-requires-clause-takes c =
    let takes = takes_extra c.args.read.now.spec.now c.requires.read.sealed c.args.read.now.edge c.requires.read.known c.args.binding.now c.args.found.now c.requires.takes c.requires.own Lookup c.requires.reader c.requires.reader.key in
    subst (λ k. TakesRows c.args.binding.now k c.args.read.now.resolved.now.extra c.args.found.now) (sym c.empty.ensures)
    (subst (λ x. TakesRows c.args.binding.now [] x c.args.found.now) (sym c.requires.read.resolved.edge.extra) takes)

pub push_row-requires-clause-extras : goal.push_row-requires-clause-extras
push_row-requires-clause-extras c =
    let at = goal.at.push_row-requires-clause-extras c in
    let row = c.in-Some.ensures (shape_of c.args.read.now.spec.now c.args.read.now.edge) (shape at.After-lookup) in
    let there = row.1.there in
    sym (ap length row.2) ∙ length_extra c.args.read.now.spec.now c.requires.read.sealed c.args.read.now.edge c.requires.read.known row.0 (c.requires.columns (c.args.read.now.edge, row.0, there.0) there.1)
    ∙ ap length (sym c.requires.read.resolved.edge.extra)

pub returns-in-Some-clause-merged : goal.returns-in-Some-clause-merged
returns-in-Some-clause-merged c =
    let at = goal.at.returns-in-Some-clause-merged c in
    let b = c.args.binding.now.tuple in
    let values = c.in-Some.values.now in
    let row = c.in-Some.ensures (shape_of c.args.read.now.spec.now c.args.read.now.edge) (shape at.After-lookup) in
    let there = row.1.there in
    let by_source = source at.After-lookup in
    let by_key = key at.After-lookup in
    let with = row_looked_up c.args.read.now.spec.now c.requires.read.sealed c.args.read.now.edge c.requires.read.known b row.0 c.requires.tuple (c.requires.columns (c.args.read.now.edge, row.0, there.0) there.1) c.requires.reader.source
    (row.1.source_is ∙ by_source) c.requires.reader.key (row.1.key_is ∙ by_key) in
    let is : IsRowWith b (given c.empty.result [] c.args.read.now.resolved.now.extra values) row.0 =
    subst (λ k. IsRowWith b (given k [] c.args.read.now.resolved.now.extra values) row.0) (sym c.empty.ensures)
    (subst (λ x. IsRowWith b (given [] [] x values) row.0) (sym c.requires.read.resolved.edge.extra)
    (subst (λ v. IsRowWith b (given [] [] (extra_columns (shape_of c.args.read.now.spec.now c.args.read.now.edge)) v) row.0) row.2 with)) in
    let merged = looked_up_some c.args.read.now.spec.now c.requires.read.sealed c.args.read.now.edge c.requires.read.known b c.requires.tuple c.args.fragment.now.now c.requires.columns c.args.found.now.tuples values
    c.deref.result.now c.deref-2.result.now by_source by_key c.requires.reader row in
    on_ok c.push_row.result (λ e. subst (λ (z : BindingList). HasMerged b c.args.read.now.edge c.args.fragment.now.now c.args.found.now.tuples z.tuples) (sym (e row.0 is)) merged) c.push_row.ensures.ok

pub returns-in-None-clause-merged : goal.returns-in-None-clause-merged
returns-in-None-clause-merged c =
    let at = (goal.at.returns-in-None-clause-merged c).After-lookup in
    looked_up_none c.args.read.now.spec.now c.requires.read.sealed c.args.read.now.edge c.requires.read.known c.args.binding.now.tuple c.requires.tuple c.args.fragment.now.now c.requires.columns c.args.found.now.tuples
    c.deref.result.now c.deref-2.result.now (source at) (key at) c.requires.reader (c.in-None.ensures (shape_of c.args.read.now.spec.now c.args.read.now.edge) (shape at))
