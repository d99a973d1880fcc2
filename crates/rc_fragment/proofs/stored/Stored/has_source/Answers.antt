use Rattle.std.proofs.Common.{◌≡◌, ◌<◌, ℕ, length, Some, sym, subst, arith, get_or}
use Rattle.std.specs.Prelude.{List, IsTrue, ◌↔◌}
use Rattle.rc_fragment.proofs.Imports.{slice_get, length-map, HasShape, FragmentRows, HasSource, shapes, EdgeRows, Parts, EdgeShape}
use Rattle.rc_fragment.proofs.ChangeLemmas.{found_edge}
use Rattle.rc_fragment.proofs.SourceReadLemmas.{clean_edge, none_noted, source_law}
use Rattle.rc_fragment.proofs.stored.Stored.has_source.Goals as goal

pub returns : goal.returns
returns c =
    let edges : List EdgeRows = c.self.inside.parts.value.edges.items in
    let e : ℕ = c.args.edge in
    let x : EdgeRows = c.index-rows.result.now in
    let l : e < length (shapes edges) = subst (λ (z : FragmentRows). e < length z.table) (sym c.self.view_is) c.requires in
    let m : length (shapes edges) ≡ length edges = length-map edges (λ (z : EdgeRows). z.shape) in
    let n : slice_get edges e ≡ Some x = found_edge edges e x (omega arith) (subst (λ (p : Parts). x ≡ get_or p.edges.items e x) c.deref.ensures c.index-rows.ensures) in
    subst (λ (z : FragmentRows). (shape : EdgeShape) → HasShape z.table e shape → (IsTrue c.has_source.result ↔ HasSource shape z.now e c.args.source.now)) c.self.view_is
    (source_law edges c.self.invariant.fragment.stored e x n c.args.source.now c.has_source.result c.has_source.ensures)

pub has_source-requires : goal.has_source-requires
has_source-requires c =
    let edges : List EdgeRows = c.self.inside.parts.value.edges.items in
    let e : ℕ = c.args.edge in
    let x : EdgeRows = c.index-rows.result.now in
    let l : e < length (shapes edges) = subst (λ (z : FragmentRows). e < length z.table) (sym c.self.view_is) c.requires in
    let m : length (shapes edges) ≡ length edges = length-map edges (λ (z : EdgeRows). z.shape) in
    let n : slice_get edges e ≡ Some x = found_edge edges e x (omega arith) (subst (λ (p : Parts). x ≡ get_or p.edges.items e x) c.deref.ensures c.index-rows.ensures) in
    record {
      clean = λ h. clean_edge edges c.self.invariant.fragment.stored e x n c.self.inside.parts.value.notes.items c.self.inside.parts.value.noted.items c.self.invariant.fragment
          (none_noted c.deref-2.result.now c.self.inside.parts.value c.deref-2.ensures c.is_empty.result c.is_empty.ensures h);
    }
