use Rattle.std.proofs.Common.{◌≡◌, Ok, length, sym, ap, subst, ◌∙◌}
use Rattle.rc_fragment.proofs.Imports.{true, false, raised, now_in, HasColumns, HasNoRowOf, HasRowOf, edge_row, seen_parts, FragmentRows, changed, listing, shapes, CanAddRow, IsNewRow, on_err, Parts}
use Rattle.rc_fragment.proofs.TupleLemmas.{less_one}
use Rattle.rc_fragment.proofs.stored.Stored.add_new_row.Goals as goal

pub add_new_noted-requires-clause-columns : goal.add_new_noted-requires-clause-columns
add_new_noted-requires-clause-columns c =
    subst (λ (p : Parts). HasColumns (shapes p.edges.items) c.args.edge (edge_row (shapes p.edges.items) c.args.edge c.args.tuple.now)) (sym c.deref_mut-parts.ensures.value)
    (subst (λ (z : FragmentRows). HasColumns z.table c.args.edge (edge_row z.table c.args.edge c.args.tuple.now)) (sym c.self.view_is) c.requires.columns)

pub add_new_noted-requires-clause-can : goal.add_new_noted-requires-clause-can
add_new_noted-requires-clause-can c =
    subst (λ (p : Parts). HasNoRowOf (shapes p.edges.items) (listing now_in p.edges.items) c.args.edge c.args.tuple.now → CanAddRow (shapes p.edges.items) (listing now_in p.edges.items) c.args.edge (edge_row (shapes p.edges.items) c.args.edge c.args.tuple.now)) (sym c.deref_mut-parts.ensures.value)
    (subst (λ (z : FragmentRows). HasNoRowOf z.table z.now c.args.edge c.args.tuple.now → CanAddRow z.table z.now c.args.edge (edge_row z.table c.args.edge c.args.tuple.now)) (sym c.self.view_is) c.requires.can)

pub returns-in_err-added-clause-err : goal.returns-in_err-added-clause-err
returns-in_err-added-clause-err c =
    let lent : seen_parts c.deref_mut-parts.result.now ≡ c.args.self.now = ap seen_parts c.deref_mut-parts.ensures.value ∙ c.self.view_is in
    let same = c.in_err-added.ensures.same (λ h. let q = h in cc) in
    on_err c.from_residual.result
    ((λ i. record { table = c.in_err-added.ensures.shapes i; now = c.in_err-added.ensures.err i; taken = c.in_err-added.ensures.taken i; room = c.deref_mut-parts.result.now.room; changes = length (same.0 i) }) ∙ lent)

pub returns-then-added-clause-ok : goal.returns-then-added-clause-ok
returns-then-added-clause-ok c =
    let e = c.args.edge in
    let t = c.args.tuple.now in
    let p : Parts = c.deref_mut-parts.result.now in
    let lent : seen_parts p ≡ c.args.self.now = ap seen_parts c.deref_mut-parts.ensures.value ∙ c.self.view_is in
    let added : IsNewRow (shapes p.edges.items) (listing now_in p.edges.items) (listing now_in c.add_new_noted.new.edges.items) e t true =
    subst (IsNewRow (shapes p.edges.items) (listing now_in p.edges.items) (listing now_in c.add_new_noted.new.edges.items) e t) c.if-added.true c.in_ok-added.ensures.ok in
    let noted = c.in_ok-added.ensures.noted (ap Ok c.if-added.true) in (
      subst (λ (z : FragmentRows). HasNoRowOf z.table z.now e t) lent added.0,
      (λ i. record { table = c.in_ok-added.ensures.shapes i; now = added.1 i; taken = c.in_ok-added.ensures.taken i; room = less_one p.room i; changes = noted i })
          ∙ ap (λ (f : FragmentRows). changed (raised e (edge_row f.table e t)) f) lent,
    )

pub returns-clause-ok : goal.returns-clause-ok
returns-clause-ok c =
    let e = c.args.edge in
    let t = c.args.tuple.now in
    let p : Parts = c.deref_mut-parts.result.now in
    let lent : seen_parts p ≡ c.args.self.now = ap seen_parts c.deref_mut-parts.ensures.value ∙ c.self.view_is in
    let there : IsNewRow (shapes p.edges.items) (listing now_in p.edges.items) (listing now_in c.add_new_noted.new.edges.items) e t false =
    subst (IsNewRow (shapes p.edges.items) (listing now_in p.edges.items) (listing now_in c.add_new_noted.new.edges.items) e t) c.if-added.false c.in_ok-added.ensures.ok in
    let same = c.in_ok-added.ensures.same (λ h. let n = c.if-added.false in let q = h in cc) in (
      subst (λ (z : FragmentRows). HasRowOf z.table z.now e t) lent there.0,
      (λ i. record { table = c.in_ok-added.ensures.shapes i; now = there.1 i; taken = c.in_ok-added.ensures.taken i; room = p.room; changes = length (same.0 i) }) ∙ lent,
    )
