use Rattle.std.proofs.Common.{◌≡◌, sym, ap, subst, ◌∙◌}
use Rattle.rc_fragment.proofs.Imports.{lowered, now_in, IsThere, edge_row, seen_parts, FragmentRows, changed, listing, shapes, Parts}
use Rattle.rc_fragment.proofs.TupleLemmas.{less_one}
use Rattle.rc_fragment.proofs.stored.Stored.sub_row.Goals as goal

pub sub_noted-requires-clause-there : goal.sub_noted-requires-clause-there
sub_noted-requires-clause-there c =
    subst (λ (p : Parts). IsThere (listing now_in p.edges.items) c.args.edge (edge_row (shapes p.edges.items) c.args.edge c.args.tuple.now)) (sym c.deref_mut-parts.ensures.value)
    (subst (λ (z : FragmentRows). IsThere z.now c.args.edge (edge_row z.table c.args.edge c.args.tuple.now)) (sym c.self.view_is) c.requires.there)

pub returns : goal.returns
returns c =
    let lent : seen_parts c.deref_mut-parts.result.now ≡ c.args.self.now = ap seen_parts c.deref_mut-parts.ensures.value ∙ c.self.view_is in
    (λ i. record { table = c.sub_noted.ensures.shapes i; now = c.sub_noted.ensures.now i; taken = c.sub_noted.ensures.taken i; room = less_one c.deref_mut-parts.result.now.room i; changes = c.sub_noted.ensures.noted i })
    ∙ ap (λ (f : FragmentRows). changed (lowered c.args.edge (edge_row f.table c.args.edge c.args.tuple.now)) f) lent
