use Rattle.std.proofs.Common.{◌≡◌, ◌<◌, ℕ, length, Some, sym, subst, arith, get_or}
use Rattle.rc_fragment.proofs.Imports.{List, slice_get, length-map, HasShape, FragmentRows, HasListed, shapes, EdgeRows, Parts, EdgeShape}
use Rattle.rc_fragment.proofs.ChangeLemmas.{found_edge}
use Rattle.rc_fragment.proofs.SourceReadLemmas.{clean_edge, none_noted, listed_law}
use Rattle.rc_fragment.proofs.SourcesLemmas.{on_ok_from}
use Rattle.rc_fragment.proofs.stored.Stored.push_sources.Goals as goal

pub returns-clause-ok : goal.returns-clause-ok
returns-clause-ok c =
    let edges : List EdgeRows = c.self.inside.parts.value.edges.items in
    let e : ℕ = c.args.edge in
    let x : EdgeRows = c.index-rows.result.now in
    let l : e < length (shapes edges) = subst (λ (z : FragmentRows). e < length z.table) (sym c.self.view_is) c.requires in
    let m : length (shapes edges) ≡ length edges = length-map edges (λ (z : EdgeRows). z.shape) in
    let n : slice_get edges e ≡ Some x = found_edge edges e x (omega arith) (subst (λ (p : Parts). x ≡ get_or p.edges.items e x) c.deref.ensures c.index-rows.ensures) in
    on_ok_from _ _ c.push_sources.result c.push_sources.ensures.ok (λ is.
    subst (λ (z : FragmentRows). (shape : EdgeShape) → HasShape z.table e shape → HasListed shape z.now e c.args.out.now.items c.push_sources.new.out.items) c.self.view_is
    (listed_law edges c.self.invariant.fragment.stored e x n c.args.out.now.items c.push_sources.new.out.items is))

pub push_sources-requires : goal.push_sources-requires
push_sources-requires c =
    let edges : List EdgeRows = c.self.inside.parts.value.edges.items in
    let e : ℕ = c.args.edge in
    let x : EdgeRows = c.index-rows.result.now in
    let l : e < length (shapes edges) = subst (λ (z : FragmentRows). e < length z.table) (sym c.self.view_is) c.requires in
    let m : length (shapes edges) ≡ length edges = length-map edges (λ (z : EdgeRows). z.shape) in
    let n : slice_get edges e ≡ Some x = found_edge edges e x (omega arith) (subst (λ (p : Parts). x ≡ get_or p.edges.items e x) c.deref.ensures c.index-rows.ensures) in
    record {
      clean = λ h. clean_edge edges c.self.invariant.fragment.stored e x n c.self.inside.parts.value.notes.items c.self.inside.parts.value.noted.items c.self.invariant.fragment
          (none_noted c.deref-2.result.now c.self.inside.parts.value c.deref-2.ensures c.is_empty.result c.is_empty.ensures h);
    }
