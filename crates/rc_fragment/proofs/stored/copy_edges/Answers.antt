use Rattle.std.proofs.Common.{◌≡◌, ◌+◌, ◌++◌, ◌∷◌, [], ℕ, take, sym, ap, subst, ◌∙◌}
use Rattle.rc_fragment.proofs.Imports.{List, take_more, take_all, In, get_or_in, EdgeRows}
use Rattle.rc_fragment.proofs.CopyLemmas.{AreSameEdges, same_push, same_emptied, same_shapes, same_found_kept, same_stored}
use Rattle.rc_fragment.proofs.stored.copy_edges.Goals as goal

pub copy-requires : goal.copy-requires
copy-requires c =
    let items : List EdgeRows = c.deref-edge-items.result.now in
    let x : EdgeRows = c.edge-item.result in
    let m : In x items = subst (λ z. In z items) (sym c.edge-item.is) (get_or_in items c.loop-edge.edge-index x c.loop-edge-test.true) in
    (c.requires x (subst (In x) c.deref-edge-items.ensures.value m)).forms

pub loop-edge-preserved : goal.loop-edge-preserved
loop-edge-preserved c =
    let items : List EdgeRows = c.deref-edge-items.result.now in
    let i : ℕ = c.loop-edge.edge-index in
    let x : EdgeRows = c.edge-item.result in
    let y : EdgeRows = c.in_ok-copy.field-0 in
    let more : take (i + 1) items ≡ take i items ++ x ∷ [] = take_more items i x c.loop-edge-test.true ∙ ap (λ (z : EdgeRows). take i items ++ z ∷ []) (sym c.edge-item.is) in
    let both : AreSameEdges (take i items ++ x ∷ []) (c.loop-edge.copy.items ++ y ∷ []) = same_push (take i items) c.loop-edge.copy.items x y c.loop-edge.invariant c.in_ok-copy.ensures in
    subst (λ z. AreSameEdges (take (i + 1) items) z) (sym c.in_ok-push.ensures.items) (subst (λ z. AreSameEdges z (c.loop-edge.copy.items ++ y ∷ [])) (sym more) both)

pub returns-clause-shapes : goal.returns-clause-shapes
returns-clause-shapes c =
    let items : List EdgeRows = c.deref-edge-items.result.now in
    let h : AreSameEdges c.args.edges.now.items c.loop-edge.copy.items =
    subst (λ z. AreSameEdges z c.loop-edge.copy.items) c.deref-edge-items.ensures.value (subst (λ z. AreSameEdges z c.loop-edge.copy.items) (take_all c.loop-edge.edge-index items c.loop-edge-test.false) c.loop-edge.invariant) in
    same_shapes c.args.edges.now.items c.loop-edge.copy.items h

pub returns-clause-stored : goal.returns-clause-stored
returns-clause-stored c =
    let items : List EdgeRows = c.deref-edge-items.result.now in
    let h : AreSameEdges c.args.edges.now.items c.loop-edge.copy.items =
    subst (λ z. AreSameEdges z c.loop-edge.copy.items) c.deref-edge-items.ensures.value (subst (λ z. AreSameEdges z c.loop-edge.copy.items) (take_all c.loop-edge.edge-index items c.loop-edge-test.false) c.loop-edge.invariant) in
    same_stored c.args.edges.now.items c.loop-edge.copy.items h c.requires

pub returns-clause-kept : goal.returns-clause-kept
returns-clause-kept c =
    let items : List EdgeRows = c.deref-edge-items.result.now in
    let h : AreSameEdges c.args.edges.now.items c.loop-edge.copy.items =
    subst (λ z. AreSameEdges z c.loop-edge.copy.items) c.deref-edge-items.ensures.value (subst (λ z. AreSameEdges z c.loop-edge.copy.items) (take_all c.loop-edge.edge-index items c.loop-edge-test.false) c.loop-edge.invariant) in
    same_found_kept c.args.edges.now.items c.loop-edge.copy.items h

pub returns-clause-emptied : goal.returns-clause-emptied
returns-clause-emptied c =
    let items : List EdgeRows = c.deref-edge-items.result.now in
    let h : AreSameEdges c.args.edges.now.items c.loop-edge.copy.items =
    subst (λ z. AreSameEdges z c.loop-edge.copy.items) c.deref-edge-items.ensures.value (subst (λ z. AreSameEdges z c.loop-edge.copy.items) (take_all c.loop-edge.edge-index items c.loop-edge-test.false) c.loop-edge.invariant) in
    same_emptied c.args.edges.now.items c.loop-edge.copy.items h
