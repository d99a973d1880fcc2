use Rattle.std.proofs.Common.{◌≡◌, ◌∙◌, List, ℕ, Some, ap, length, subst, sym}
use Rattle.rc_machine.proofs.Imports.{zip, option_copied, union, in_minus, In, cols_of, merge, project, bound, edge_at, source_and_key, IsThereWith, shape_of, values_at, IsRowFound}
use Rattle.rc_machine.proofs.EdgeRowLemmas.{completed_is}
use Rattle.rc_machine.proofs.SeekLemmas.{length_extra}
use Rattle.rc_machine.proofs.edge_row.find_tuple.Goals.{After-union-kept, In-Some}
use Rattle.rc_machine.proofs.edge_row.find_tuple.Goals as goal

-- the row that was found, by its extra values
found : (c : In-Some) → IsRowFound (shape_of c.args.read.now.spec.now c.args.read.now.edge) c.args.fragment.now.now c.args.read.now.edge c.args.tuple.now (Some c.in-Some.values.now)
found c =
    let read = c.args.read.now in
    subst (λ o. IsRowFound (shape_of read.spec.now read.edge) c.args.fragment.now.now read.edge c.args.tuple.now (option_copied o)) c.in-Some.is c.in_ok-values.ensures

-- and its columns
over : (c : In-Some) → cols_of (found c).0 ≡ (shape_of c.args.read.now.spec.now c.args.read.now.edge).target
over c = let there = (found c).1.there in c.requires.columns (c.args.read.now.edge, (found c).0, there.0) there.1

-- the columns of which it takes the tuple's values
kept_is : (c : After-union-kept) → c.union-kept.result ≡ source_and_key c.args.read.now.spec.now (edge_at c.args.read.now.spec.now c.args.read.now.edge)
kept_is c =
    let edge = c.requires.read.resolved.edge in
    c.union-kept.ensures.value ∙ (λ i. union (edge.source i) (edge.key i))

pub refill_with-requires-clause-fits : goal.refill_with-requires-clause-fits
refill_with-requires-clause-fits c =
    let at = (goal.at.refill_with-requires-clause-fits c).In-Some in
    sym (ap length (found at).2) ∙ length_extra c.args.read.now.spec.now c.requires.read.sealed c.args.read.now.edge c.requires.read.known (found at).0 (over at)
    ∙ ap length (sym c.requires.read.resolved.edge.extra)

pub refill_with-requires-clause-apart : goal.refill_with-requires-clause-apart
refill_with-requires-clause-apart c k kept extra =
    let at = (goal.at.refill_with-requires-clause-apart c).After-union-kept in
    let spec = c.args.read.now.spec.now in
    let edge = edge_at spec c.args.read.now.edge in
    (in_minus (bound spec edge.to) (source_and_key spec edge) k (subst (In k) c.requires.read.resolved.edge.extra extra)).1 (subst (In k) (kept_is at) kept)

pub returns : goal.returns
returns c =
    let at = (goal.at.returns c).In-Some in
    let spec = c.args.read.now.spec.now in
    let edge = c.args.read.now.edge in
    let shape = shape_of spec edge in
    let rows = c.args.fragment.now.now in
    let tuple = c.args.tuple.now in
    let values : List ℕ = c.in-Some.values.now in
    let look = found at in
    let kept = kept_is (goal.at.returns c).After-union-kept in
    let is : c.replace.result ≡ look.0 =
    c.replace.ensures.value ∙ c.in_ok-refill_with.ensures.ok
    ∙ (λ i. merge (project (kept i) tuple) (zip (c.requires.read.resolved.edge.extra i) values))
    ∙ completed_is spec c.requires.read.sealed edge c.requires.read.known tuple c.requires.tuple c.requires.given rows look.0 look.1 (over at) values look.2 in (
      subst (IsThereWith shape rows edge (values_at shape.source tuple) (values_at shape.key tuple)) (sym is) look.1,
      λ u there. look.3 u there ∙ sym is,
    )
