use Rattle.std.proofs.Common.{◌≡◌, sym, ap, subst, ◌∙◌}
use Rattle.rc_instance.proofs.Imports.{List, Option, In, IsSealed, represented_by, Mode, edge_table, FragmentRows, IsOfRelation, held_from, rows_of, rows_of_fragments, stripes_of, table_of, table_of_fragments, free_law}
use Rattle.rc_instance.proofs.StripeLemmas.{if_ok_from}
use Rattle.rc_instance.proofs.StripesOfLemmas.{fragments_have_one_table, stripes_of-rows, stripes_of-table}
use Rattle.rc_instance.proofs.instance.Instance.represents.Goals as goal

pub joined_rows-requires-clause-table : goal.joined_rows-requires-clause-table
joined_rows-requires-clause-table c f m =
    let fs : List FragmentRows = c.self.inside.fragments.items in
    let ms : List (Option Mode) = c.self.inside.held in
    let t : table_of_fragments fs ≡ edge_table c.spec.result.now = sym (stripes_of-table fs ms) ∙ ap table_of c.self.view_is ∙ c.requires ∙ ap edge_table (sym c.spec.ensures.value) in
    fragments_have_one_table fs ms c.self.invariant.stripes f (subst (In f) c.deref.ensures.value m) ∙ t

pub returns-clause-rows : goal.returns-clause-rows
returns-clause-rows c =
    let fs : List FragmentRows = c.self.inside.fragments.items in
    let rows : rows_of_fragments fs ≡ rows_of c.args.self.now = sym (stripes_of-rows fs c.self.inside.held) ∙ ap rows_of c.self.view_is in
    if_ok_from c.joined_rows.result c.joined_rows.ensures (λ tuples e.
    e ∙ (λ j. represented_by (c.spec.ensures.value j) (rows_of_fragments (c.deref.ensures.value j))) ∙ ap (represented_by c.args.accepted.now) rows)

pub returns-clause-relation : goal.returns-clause-relation
returns-clause-relation c =
    let fs : List FragmentRows = c.self.inside.fragments.items in
    let ms : List (Option Mode) = c.self.inside.held in
    let sealed : IsSealed c.args.accepted.now = c.spec.ensures.sealed in
    if_ok_from c.joined_rows.result c.joined_rows.ensures (λ tuples e r none o.
    e ∙ (λ j. represented_by (c.spec.ensures.value j) (rows_of_fragments (c.deref.ensures.value j)))
    ∙ ap (represented_by c.args.accepted.now) (sym (stripes_of-rows fs ms))
    ∙ free_law c.args.accepted.now sealed (stripes_of fs ms) c.self.invariant.stripes r (ap (held_from 0) c.self.view_is ∙ none) (subst (λ z. IsOfRelation c.args.accepted.now z r) (sym c.self.view_is) o))
