use Rattle.std.proofs.Common.{◌≡◌, ℕ, ◌+◌, ◌∷◌, [], drop, refl, sym, ap, subst, ◌∙◌, arith}
use Rattle.std.specs.FinMap as fin
use Rattle.rc_maps.proofs.Imports.{drop_all, drop_more, Values, Counted, Items, item_of, items_of, entries_of, IsCopied, IsCopied-all, IsCopied-more, IsCopied-none, apart_rising}
use Rattle.rc_maps.proofs.block.table_of.Goals as goal

pub loop-row-init : goal.loop-row-init
loop-row-init g c =
    let items : Items = items_of c.args.rows.now in
    record {
      copied = IsCopied-none items items (entries_of c.new-table.result) refl c.new-table.ensures.empty (apart_rising items c.requires);
      width = c.new-table.ensures.width;
    }

pub loop-row-preserved : goal.loop-row-preserved
loop-row-preserved g c =
    let rows = c.args.rows.now in
    let n : ℕ = c.loop-row.row-index in
    let row = c.row-item.result in
    let e : Values × Counted = item_of row in
    let left : items_of (drop n rows) ≡ e ∷ items_of (drop (n + 1) rows) =
    ap items_of (drop_more rows n row c.loop-row-test.true ∙ ap (λ z. z ∷ drop (n + 1) rows) (sym c.row-item.is)) in
    record {
      copied =
          IsCopied-more (items_of rows) (items_of (drop (n + 1) rows)) (entries_of c.loop-row.table) (entries_of c.insert.new.self) e
          (subst (λ z. IsCopied (items_of rows) z (entries_of c.loop-row.table)) left c.loop-row.invariant.copied)
          (c.in_ok-insert.ensures.ok ∙ ap (λ k. fin.insert (entries_of c.loop-row.table) k c.in_ok-entry.entry) c.from_ref.ensures.value
          ∙ ap (fin.insert (entries_of c.loop-row.table) (row.key ∷ [])) c.in_ok-entry.ensures);
      width = c.insert.ensures.width ∙ c.loop-row.invariant.width;
    }

pub returns-clause-rows : goal.returns-clause-rows
returns-clause-rows g c =
    let items : Items = items_of c.args.rows.now in
    IsCopied-all items (entries_of c.loop-row.table)
    (subst (λ z. IsCopied items (items_of z) (entries_of c.loop-row.table)) (drop_all c.loop-row.row-index c.args.rows.now (omega arith))
    c.loop-row.invariant.copied)
