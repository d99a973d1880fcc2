use Rattle.std.proofs.Common.{◌≡◌, ◌+◌, ◌<◌, ◌∷◌, drop, map, length, slice_index_or, refl, sym, ap, subst, ◌∙◌, arith}
use Rattle.rc_maps.proofs.Imports.{All, drop_all, drop_more, get_or-map, length-map, Values, Counted, HasWidth, AreApart, pair_of, IsCopied, IsCopied-none, IsCopied-more, IsCopied-all}
use Rattle.std.specs.FinMap as fin
use Rattle.rc_maps.proofs.table_edge.copy_of.Goals as goal

pub loop-keyed-init : goal.loop-keyed-init
loop-keyed-init g c =
    let all = map pair_of c.deref-keyed-items.result.now in (
      IsCopied-none all all (g.T.EntryTable.entries c.another-copy.result) refl c.another-copy.ensures.empty
          (subst (λ z. AreApart (map pair_of z)) (sym c.deref-keyed-items.ensures.value) c.in_ok-all.ensures.apart),
      c.another-copy.ensures.width,
    )

pub put-requires : goal.put-requires
put-requires g c =
    let one = g.T.EntryTable.one_column in
    let w : All (λ k. HasWidth (one c.args.table.now) k.key.now) c.deref-keyed-items.result.now =
    subst (λ z. All (λ k. HasWidth (one c.args.table.now) k.key.now) z) (sym c.deref-keyed-items.ensures.value) c.in_ok-all.ensures.widths in
    subst (λ z. HasWidth z c.keyed-item.result.key.now) (sym c.loop-keyed.invariant.1)
    (subst (λ k. HasWidth (one c.args.table.now) k.key.now) (sym c.keyed-item.is)
    (w c.loop-keyed.keyed-index c.keyed-item.result c.loop-keyed-test.true))

pub loop-keyed-preserved : goal.loop-keyed-preserved
loop-keyed-preserved g c =
    let items = c.deref-keyed-items.result.now in
    let all = map pair_of items in
    let n = c.loop-keyed.keyed-index in
    let e : Values × Counted = pair_of c.keyed-item.result in
    let at : e ≡ slice_index_or all n e =
    ap pair_of c.keyed-item.is ∙ sym (get_or-map pair_of items n c.keyed-item.result e c.loop-keyed-test.true) in
    let l : n < length all = subst (λ z. n < z) (sym (length-map items pair_of)) c.loop-keyed-test.true in
    let left : drop n all ≡ e ∷ drop (n + 1) all = drop_more all n e l ∙ ap (λ z. z ∷ drop (n + 1) all) (sym at) in (
      IsCopied-more all (drop (n + 1) all) (g.T.EntryTable.entries c.loop-keyed.copy) (g.T.EntryTable.entries c.put.new.self) e
          (subst (λ z. IsCopied all z (g.T.EntryTable.entries c.loop-keyed.copy)) left c.loop-keyed.invariant.0)
          (c.in_ok-put.ensures.ok ∙ ap (λ z. fin.insert (g.T.EntryTable.entries c.loop-keyed.copy) e.0 z) c.in_ok-copy.ensures),
      c.put.ensures.width ∙ c.loop-keyed.invariant.1,
    )

pub returns-clause-entries : goal.returns-clause-entries
returns-clause-entries g c =
    let items = c.deref-keyed-items.result.now in
    let all = map pair_of items in
    let n = c.loop-keyed.keyed-index in
    let e : length all ≡ length items = length-map items pair_of in
    IsCopied-all all (g.T.EntryTable.entries c.loop-keyed.copy)
    (subst (λ z. IsCopied all z (g.T.EntryTable.entries c.loop-keyed.copy)) (drop_all n all (omega arith)) c.loop-keyed.invariant.0)
    ∙ ap (λ z. fin.from_entries (map pair_of z)) c.deref-keyed-items.ensures.value ∙ c.in_ok-all.ensures.entries

pub returns-clause-width : goal.returns-clause-width
returns-clause-width g c = c.loop-keyed.invariant.1
