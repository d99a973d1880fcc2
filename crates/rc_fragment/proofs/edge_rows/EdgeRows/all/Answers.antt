use Rattle.std.proofs.Common.{◌≡◌, ◌++◌, sym, ap, subst, ◌∙◌}
use Rattle.rc_fragment.proofs.Imports.{List, map, append-nil, drop_all, In, get_or_in, map_in, Pairs, Values, pair_of, Keyed, Container, EdgeRows}
use Rattle.rc_fragment.proofs.WalkLemmas.{filed_here, kept_walked, rows_walked, walked_kept}
use Rattle.rc_fragment.proofs.edge_rows.EdgeRows.all.Goals as goal

pub push_rows-requires-clause-filed : goal.push_rows-requires-clause-filed
push_rows-requires-clause-filed c =
    let all : List (Keyed Container) = c.in_ok-sources.sources.items in
    let item : Keyed Container = c.source-item.result in
    let n : In item all = subst (In item) c.deref-source-items.ensures.value
    (subst (λ z. In z c.deref-source-items.result.now) (sym c.source-item.is) (get_or_in c.deref-source-items.result.now c.loop-source.source-index item c.loop-source-test.true)) in
    let es : List (Values × Container) = map pair_of all in
    filed_here c.args.self.now es c.in_ok-sources.ensures.entries c.in_ok-sources.ensures.apart c.requires.filed (pair_of item) (map_in pair_of item all n)

pub returns-clause-only : goal.returns-clause-only
returns-clause-only c =
    let x : EdgeRows = c.args.self.now in
    let rows : List Pairs = c.loop-source.rows in
    let all : List (Keyed Container) = c.in_ok-sources.sources.items in
    let q : rows ≡ rows_walked x.shape (map pair_of all) =
    sym (append-nil rows) ∙ ap (λ z. rows ++ rows_walked x.shape (map pair_of z)) (sym (drop_all c.loop-source.source-index c.deref-source-items.result.now c.loop-source-test.false)) ∙ c.loop-source.invariant
    ∙ ap (λ z. rows_walked x.shape (map pair_of z)) c.deref-source-items.ensures.value in
    λ t m. walked_kept x (map pair_of all) c.in_ok-sources.ensures.entries c.in_ok-sources.ensures.apart t (subst (In t) q m)

pub returns-clause-each : goal.returns-clause-each
returns-clause-each c =
    let x : EdgeRows = c.args.self.now in
    let rows : List Pairs = c.loop-source.rows in
    let all : List (Keyed Container) = c.in_ok-sources.sources.items in
    let q : rows ≡ rows_walked x.shape (map pair_of all) =
    sym (append-nil rows) ∙ ap (λ z. rows ++ rows_walked x.shape (map pair_of z)) (sym (drop_all c.loop-source.source-index c.deref-source-items.result.now c.loop-source-test.false)) ∙ c.loop-source.invariant
    ∙ ap (λ z. rows_walked x.shape (map pair_of z)) c.deref-source-items.ensures.value in
    λ t k. subst (In t) (sym q) (kept_walked x (map pair_of all) c.in_ok-sources.ensures.entries t k)
