use Rattle.std.proofs.Common.{◌≡◌, ◌<◌, ℕ, length, Some, sym, subst, arith, get_or}
use Rattle.rc_fragment.proofs.Imports.{List, slice_get, length-map, HasShape, HasScanned, FragmentRows, shapes, EdgeRows, Parts, EdgeShape}
use Rattle.rc_fragment.proofs.ChangeLemmas.{found_edge}
use Rattle.rc_fragment.proofs.LookupLemmas.{scan_law}
use Rattle.rc_fragment.proofs.SourcesLemmas.{on_ok_from}
use Rattle.rc_fragment.proofs.stored.Stored.scan.Goals as goal

pub returns-clause-ok : goal.returns-clause-ok
returns-clause-ok c =
    let edges : List EdgeRows = c.self.inside.parts.value.edges.items in
    let e : ℕ = c.args.edge in
    let x : EdgeRows = c.index-rows.result.now in
    let l : e < length (shapes edges) = subst (λ (z : FragmentRows). e < length z.table) (sym c.self.view_is) c.requires in
    let m : length (shapes edges) ≡ length edges = length-map edges (λ (z : EdgeRows). z.shape) in
    let n : slice_get edges e ≡ Some x = found_edge edges e x (omega arith) (subst (λ (p : Parts). x ≡ get_or p.edges.items e x) c.deref.ensures c.index-rows.ensures) in
    on_ok_from _ _ c.scan.result c.scan.ensures.ok (λ is.
    subst (λ (z : FragmentRows). (shape : EdgeShape) → HasShape z.table e shape → HasScanned shape z.now e c.args.source.now c.args.out.now.items c.scan.new.out.items) c.self.view_is
    (scan_law edges c.self.invariant.fragment.stored e x n c.args.source.now c.args.out.now.items c.scan.new.out.items is))
