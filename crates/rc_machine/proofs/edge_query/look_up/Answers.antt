use Rattle.std.proofs.Common.{◌≡◌, ◌++◌, ◌∷◌, [], List, Some, ℕ, length, subst, sym, ap, ◌∙◌}
use Rattle.rc_machine.proofs.Imports.{zip, option_copied, pick, Rows, shape_of, parted_edge, extra_columns, IsRowFound, extra_set}
use Rattle.rc_machine.proofs.PickLemmas.{pick_zip}
use Rattle.rc_machine.proofs.ReadLemmas.{on_ok}
use Rattle.rc_machine.proofs.SeekLemmas.{length_extra}
use Rattle.rc_machine.proofs.edge_query.look_up.Goals.{In_ok-values}
use Rattle.rc_machine.proofs.edge_query.look_up.Goals as goal

-- what was looked up, told by its extra values
looked : (c : In_ok-values) (values : List ℕ) → option_copied c.in_ok-values.field-0 ≡ Some values
    → IsRowFound (shape_of c.args.read.now.spec.now c.args.read.now.edge) c.args.fragment.now.now c.args.read.now.edge c.args.args.now (Some values)
looked c values is =
    let read = c.args.read.now in
    subst (IsRowFound (shape_of read.spec.now read.edge) c.args.fragment.now.now read.edge c.args.args.now) is c.in_ok-values.ensures

-- it has as many as there are extra columns
as_many : (c : In_ok-values) (values : List ℕ) → option_copied c.in_ok-values.field-0 ≡ Some values
    → length values ≡ length (extra_columns (shape_of c.args.read.now.spec.now c.args.read.now.edge))
as_many c values is =
    let read = c.args.read.now in
    let row = looked c values is in
    let there = row.1.there in
    sym (ap length row.2) ∙ length_extra read.spec.now c.requires.read.sealed read.edge c.requires.read.known row.0 (c.requires.columns (read.edge, row.0, there.0) there.1)

pub push_picked-requires : goal.push_picked-requires
push_picked-requires c =
    as_many (goal.at.push_picked-requires c).In_ok-values c.in-Some.values.now (ap option_copied c.in-Some.is)
    ∙ ap length (sym c.requires.read.resolved.edge.extra)

pub returns-then-alone-clause-answered : goal.returns-then-alone-clause-answered
returns-then-alone-clause-answered c =
    let read = c.args.read.now in
    let spec = read.spec.now in
    let values : List ℕ = c.in-Some.values.now in
    let extra = extra_columns (shape_of spec read.edge) in
    let at = (goal.at.returns-then-alone-clause-answered c).In_ok-values in
    let is = ap option_copied c.in-Some.is in
    let alone : c.args.outs.now ≡ extra = c.requires.alone c.if-alone.true in
    let rising = (extra_set (shape_of spec read.edge) (parted_edge spec c.requires.read.sealed read.edge c.requires.read.known)).rising in
    let row : pick c.args.outs.now (zip extra values ++ c.args.args.now) ≡ values =
    ap (λ outs. pick outs (zip extra values ++ c.args.args.now)) alone ∙ pick_zip extra values c.args.args.now rising (as_many at values is) in
    on_ok c.tell_row.result (λ told. (Some values, looked at values is, told ∙ ap (λ row. Rows (row ∷ [])) (sym row))) c.tell_row.ensures.told

pub returns-clause-answered : goal.returns-clause-answered
returns-clause-answered c =
    let values : List ℕ = c.in-Some.values.now in
    let outs : List ℕ = c.args.outs.now in
    let extra = c.args.read.now.resolved.now.extra in
    let row : c.deref.result.now ≡ pick outs (zip (extra_columns (shape_of c.args.read.now.spec.now c.args.read.now.edge)) values ++ c.args.args.now) =
    c.deref.ensures.value ∙ c.in_ok-push_picked.ensures
    ∙ ap (λ z. z ++ pick c.list.result.now (zip extra values ++ c.args.args.now)) c.clear.ensures.items
    ∙ ap (λ outs. pick outs (zip extra values ++ c.args.args.now)) c.list.ensures
    ∙ ap (λ extra. pick outs (zip extra values ++ c.args.args.now)) c.requires.read.resolved.edge.extra in
    on_ok c.tell_row-2.result
    (λ told. (
      Some values,
      looked (goal.at.returns-clause-answered c).In_ok-values values (ap option_copied c.in-Some.is),
      told ∙ ap (λ row. Rows (row ∷ [])) row,
    ))
    c.tell_row-2.ensures.told
