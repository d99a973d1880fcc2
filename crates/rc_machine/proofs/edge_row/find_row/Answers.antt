use Rattle.std.proofs.Common.{◌∙◌, ap, subst, sym}
use Rattle.rc_machine.proofs.Imports.{option_copied, HasShape, IsLookedUp, shape_of, values_at, number_has_shape}
use Rattle.rc_machine.proofs.ReadLemmas.{read_known}
use Rattle.rc_machine.proofs.edge_row.find_row.Goals as goal

pub lookup-requires : goal.lookup-requires
lookup-requires c = read_known c.args.fragment.now.table c.args.read.now c.requires

pub returns : goal.returns
returns c =
    let read = c.args.read.now in
    let spec = read.spec.now in
    let shape = shape_of spec read.edge in
    let rows = c.args.fragment.now.now in
    let tuple = c.args.tuple.now in
    let found = option_copied c.lookup.result in
    let source = c.deref.ensures.value ∙ c.in_ok-part_values.ensures.source ∙ ap (λ xs. values_at xs tuple) c.requires.resolved.edge.source in
    let key = c.deref-2.ensures.value ∙ c.in_ok-part_values.ensures.key ∙ ap (λ xs. values_at xs tuple) c.requires.resolved.edge.key in
    let has = subst (λ table. HasShape table read.edge shape) (sym c.requires.table) (number_has_shape spec read.edge c.requires.known) in
    subst (λ k. IsLookedUp shape rows read.edge (values_at shape.source tuple) k found) key
    (subst (λ s. IsLookedUp shape rows read.edge s c.deref-2.result.now found) source (c.lookup.ensures shape has))
