use Rattle.std.proofs.Common.{◌≡◌, ◌<◌, ◌≤◌, ℕ, true, length, sym, ap, subst, ◌∙◌}
use Rattle.rc_fragment.proofs.Imports.{Pairs, lowered, HasShape, IsThere, edge_row, FragmentRows, changed, lowered_all, is_kept_of_class, full_fragment, before_next, before_other, there_before, changed_before, lowered_last, lowered_tuple, room_before, rows_before, EdgeShape}
use Rattle.rc_fragment.proofs.fragment.sub_kept_rows.Goals as goal
use Rattle.rc_fragment.proofs.fragment.sub_kept_rows.Goals.{then-is_kept_of, else-is_kept_of}

pub sub_row-requires-clause-owned : goal.sub_row-requires-clause-owned
sub_row-requires-clause-owned c =
    let f : FragmentRows = c.args.stored.now in
    let t : Pairs = c.args.tuple.now in
    let k : ℕ = c.loop-edge.edge in
    let s : EdgeShape = c.shape.result in
    let inv : c.loop-edge.stored ≡ changed_before lowered_all c.args.class t k f = c.loop-edge.invariant in
    let has : HasShape f.table k s = subst (λ (g : FragmentRows). HasShape g.table k s) inv c.shape.ensures in
    let yes : is_kept_of_class c.args.class s ≡ true = sym c.is_kept_of.ensures ∙ c.if-is_kept_of.true in
    subst (λ (g : FragmentRows). 0 < g.room) (sym inv) (room_before f c.args.class t k s has yes c.requires.owned)

pub sub_row-requires-clause-there : goal.sub_row-requires-clause-there
sub_row-requires-clause-there c =
    let f : FragmentRows = c.args.stored.now in
    let t : Pairs = c.args.tuple.now in
    let k : ℕ = c.loop-edge.edge in
    let s : EdgeShape = c.shape.result in
    let inv : c.loop-edge.stored ≡ changed_before lowered_all c.args.class t k f = c.loop-edge.invariant in
    let has : HasShape f.table k s = subst (λ (g : FragmentRows). HasShape g.table k s) inv c.shape.ensures in
    let yes : is_kept_of_class c.args.class s ≡ true = sym c.is_kept_of.ensures ∙ c.if-is_kept_of.true in
    subst (λ (g : FragmentRows). IsThere g.now k (edge_row g.table k t)) (sym inv) (there_before f c.args.class t k s has yes c.requires.table c.rows_fit_the_table.ensures.now c.requires.there)

pub loop-edge-preserved : goal.loop-edge-preserved
loop-edge-preserved c =
    let f : FragmentRows = c.args.stored.now in
    let t : Pairs = c.args.tuple.now in
    let k : ℕ = c.loop-edge.edge in
    let s : EdgeShape = c.shape.result in
    let inv : c.loop-edge.stored ≡ changed_before lowered_all c.args.class t k f = c.loop-edge.invariant in
    let has : HasShape f.table k s = subst (λ (g : FragmentRows). HasShape g.table k s) inv c.shape.ensures in
    elim c.if-is_kept_of.branch [
      | then-is_kept_of w ↦
          w.stored-is ∙ w.sub_row.ensures ∙ ap (λ (g : FragmentRows). changed (lowered k (edge_row g.table k t)) g) inv
          ∙ before_next f c.args.class t k s has (sym c.is_kept_of.ensures ∙ w.if-is_kept_of.true) lowered_all (lowered k (edge_row f.table k t)) (lowered_last (rows_before f.table c.args.class t k) (k, edge_row f.table k t) f.now)
      | else-is_kept_of w ↦ w.stored-is ∙ inv ∙ before_other f c.args.class t k s has lowered_all (sym c.is_kept_of.ensures ∙ w.if-is_kept_of.false)
    ]

pub returns-clause-value : goal.returns-clause-value
returns-clause-value c =
    let f : FragmentRows = c.args.stored.now in
    let end : length f.table ≤ c.loop-edge.edge = subst (λ n. n ≤ c.loop-edge.edge) c.edge_count-edge-end.ensures c.loop-edge-test.false in
    ap full_fragment c.loop-edge.invariant ∙ lowered_tuple f c.args.class c.args.tuple.now c.requires.table c.rows_fit_the_table.ensures.now c.requires.there c.loop-edge.edge end
