use Rattle.std.proofs.Common.{◌≡◌, sym, ap, subst, ◌∙◌}
use Rattle.rc_fragment.proofs.Imports.{raised, now_in, edge_row, seen_parts, FragmentRows, changed, listing, shapes, CanAddRow, Parts}
use Rattle.rc_fragment.proofs.TupleLemmas.{less_one}
use Rattle.rc_fragment.proofs.stored.Stored.add_row.Goals as goal

pub add_noted-requires-clause-can : goal.add_noted-requires-clause-can
add_noted-requires-clause-can c =
    subst (λ (p : Parts). CanAddRow (shapes p.edges.items) (listing now_in p.edges.items) c.args.edge (edge_row (shapes p.edges.items) c.args.edge c.args.tuple.now)) (sym c.deref_mut-parts.ensures.value)
    (subst (λ (z : FragmentRows). CanAddRow z.table z.now c.args.edge (edge_row z.table c.args.edge c.args.tuple.now)) (sym c.self.view_is) c.requires.can)

pub returns-clause-ok : goal.returns-clause-ok
returns-clause-ok c =
    let lent : seen_parts c.deref_mut-parts.result.now ≡ c.args.self.now = ap seen_parts c.deref_mut-parts.ensures.value ∙ c.self.view_is in
    (λ i. record { table = c.in_ok-add_noted.ensures.shapes i; now = c.in_ok-add_noted.ensures.ok i; taken = c.in_ok-add_noted.ensures.taken i; room = less_one c.deref_mut-parts.result.now.room i; changes = c.in_ok-add_noted.ensures.noted i })
    ∙ ap (λ (f : FragmentRows). changed (raised c.args.edge (edge_row f.table c.args.edge c.args.tuple.now)) f) lent
