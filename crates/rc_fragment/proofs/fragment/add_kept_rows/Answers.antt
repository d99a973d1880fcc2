use Rattle.std.proofs.Common.{◌≡◌, ◌<◌, ◌≤◌, ℕ, true, length, sym, ap, subst, ◌∙◌}
use Rattle.rc_fragment.proofs.Imports.{Pairs, raised, HasShape, edge_row, FragmentRows, changed, raised_all, is_kept_of_class, CanAddRow, IsPartlyAdded, full_fragment, before_next, before_other, can_before, changed_before, partly_added, raised_last, raised_tuple, room_before, rows_before, on_err, EdgeShape}
use Rattle.rc_fragment.proofs.fragment.add_kept_rows.Goals as goal
use Rattle.rc_fragment.proofs.fragment.add_kept_rows.Goals.{then-is_kept_of+in_ok-add_row, else-is_kept_of}

pub add_row-requires-clause-owned : goal.add_row-requires-clause-owned
add_row-requires-clause-owned c =
    let f : FragmentRows = c.args.stored.now in
    let t : Pairs = c.args.tuple.now in
    let k : ℕ = c.loop-edge.edge in
    let s : EdgeShape = c.shape.result in
    let inv : c.loop-edge.stored ≡ changed_before raised_all c.args.class t k f = c.loop-edge.invariant in
    let has : HasShape f.table k s = subst (λ (g : FragmentRows). HasShape g.table k s) inv c.shape.ensures in
    let yes : is_kept_of_class c.args.class s ≡ true = sym c.is_kept_of.ensures ∙ c.if-is_kept_of.true in
    subst (λ (g : FragmentRows). 0 < g.room) (sym inv) (room_before f c.args.class t k s has yes c.requires.owned)

pub add_row-requires-clause-can : goal.add_row-requires-clause-can
add_row-requires-clause-can c =
    let f : FragmentRows = c.args.stored.now in
    let t : Pairs = c.args.tuple.now in
    let k : ℕ = c.loop-edge.edge in
    let s : EdgeShape = c.shape.result in
    let inv : c.loop-edge.stored ≡ changed_before raised_all c.args.class t k f = c.loop-edge.invariant in
    let has : HasShape f.table k s = subst (λ (g : FragmentRows). HasShape g.table k s) inv c.shape.ensures in
    let yes : is_kept_of_class c.args.class s ≡ true = sym c.is_kept_of.ensures ∙ c.if-is_kept_of.true in
    subst (λ (g : FragmentRows). CanAddRow g.table g.now k (edge_row g.table k t)) (sym inv)
    (can_before f c.args.class t k s has yes c.requires.table c.rows_fit_the_table.ensures.now c.requires.can)

pub loop-edge-preserved : goal.loop-edge-preserved
loop-edge-preserved c =
    let f : FragmentRows = c.args.stored.now in
    let t : Pairs = c.args.tuple.now in
    let k : ℕ = c.loop-edge.edge in
    let s : EdgeShape = c.shape.result in
    let inv : c.loop-edge.stored ≡ changed_before raised_all c.args.class t k f = c.loop-edge.invariant in
    let has : HasShape f.table k s = subst (λ (g : FragmentRows). HasShape g.table k s) inv c.shape.ensures in
    elim c.if-is_kept_of.branch [
      | then-is_kept_of+in_ok-add_row w ↦
          w.stored-is ∙ w.in_ok-add_row.ensures.ok ∙ ap (λ (g : FragmentRows). changed (raised k (edge_row g.table k t)) g) inv
          ∙ before_next f c.args.class t k s has (sym c.is_kept_of.ensures ∙ w.if-is_kept_of.true) raised_all (raised k (edge_row f.table k t)) (raised_last (rows_before f.table c.args.class t k) (k, edge_row f.table k t) f.now)
      | else-is_kept_of w ↦ w.stored-is ∙ inv ∙ before_other f c.args.class t k s has raised_all (sym c.is_kept_of.ensures ∙ w.if-is_kept_of.false)
    ]

pub returns-clause-ok : goal.returns-clause-ok
returns-clause-ok c =
    let f : FragmentRows = c.args.stored.now in
    let end : length f.table ≤ c.loop-edge.edge = subst (λ n. n ≤ c.loop-edge.edge) c.edge_count-edge-end.ensures c.loop-edge-test.false in
    ap full_fragment c.loop-edge.invariant ∙ raised_tuple f c.args.class c.args.tuple.now c.requires.table c.rows_fit_the_table.ensures.now c.loop-edge.edge end

pub returns-in_err-add_row-clause-err : goal.returns-in_err-add_row-clause-err
returns-in_err-add_row-clause-err c =
    let f : FragmentRows = c.args.stored.now in
    on_err c.from_residual.result
    (subst (λ (g : FragmentRows). IsPartlyAdded c.args.class c.args.tuple.now (full_fragment f) (full_fragment g)) (sym (c.in_err-add_row.ensures.err ∙ c.loop-edge.invariant))
    (partly_added f c.args.class c.args.tuple.now c.requires.table c.rows_fit_the_table.ensures.now c.loop-edge.edge))
