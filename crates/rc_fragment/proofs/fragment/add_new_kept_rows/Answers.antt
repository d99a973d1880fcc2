use Rattle.std.proofs.Common.{◌≡◌, ◌<◌, ◌≤◌, ℕ, None, true, false, length, sym, ap, subst, ◌∙◌}
use Rattle.rc_fragment.proofs.Imports.{Pairs, raised, HasShape, edge_row, FragmentRows, changed, raised_all, full_rows, is_kept_of_class, CanAddRow, CanAddTuple, IsNewRowIn, IsPartlyAdded, full_fragment, before_next, before_other, can_before, changed_before, partly_added, raised_last, raised_tuple, room_before, rows_before, EdgeShape}
use Rattle.rc_fragment.proofs.FirstLemmas.{first_can, first_next, first_room, first_there, full_look, none_added}
use Rattle.rc_fragment.proofs.fragment.add_new_kept_rows.Goals as goal
use Rattle.rc_fragment.proofs.fragment.add_new_kept_rows.Goals.{In-Ok, then-is_kept_of+in-Ok-add_row, else-is_kept_of}

pub add_new_row-requires-clause-owned : goal.add_new_row-requires-clause-owned
add_new_row-requires-clause-owned c = first_room c.args.stored.now c.args.class c.args.tuple.now c.args.first c.requires.known c.requires.first c.requires.owned

pub add_new_row-requires-clause-can : goal.add_new_row-requires-clause-can
add_new_row-requires-clause-can c = first_can c.args.stored.now c.args.class c.args.tuple.now c.args.first c.requires.known c.requires.first c.requires.table c.rows_fit_the_table.ensures.now c.requires.can

-- what was done, where the row was added and where it wasn't
done : (c : In-Ok) (b : _) → c.in-Ok.added ≡ b → IsNewRowIn c.args.stored.now c.add_new_row.new.self c.args.first c.args.tuple.now b
done c b h = subst (IsNewRowIn c.args.stored.now c.add_new_row.new.self c.args.first c.args.tuple.now) h c.in-Ok.ensures.ok

-- where it was none of the edge's rows had its source and key, and the tuple can be added
may : (c : In-Ok) → c.in-Ok.added ≡ true → CanAddTuple c.args.stored.now.table (full_rows c.args.stored.now.table c.args.stored.now.now) c.args.class c.args.tuple.now
may c h =
    c.requires.can (full_look c.args.stored.now c.args.class c.args.tuple.now c.args.first c.requires.known c.requires.first c.requires.table c.rows_fit_the_table.ensures.now None (done c true h).0)

pub returns-in_default-clause-err : goal.returns-in_default-clause-err
returns-in_default-clause-err c =
    let f : FragmentRows = c.args.stored.now in
    subst (λ (g : FragmentRows). IsPartlyAdded c.args.class c.args.tuple.now (full_fragment f) (full_fragment g)) (sym c.in_default.ensures.err)
    (none_added f c.args.class c.args.tuple.now c.args.first c.requires.known c.requires.first c.requires.table c.rows_fit_the_table.ensures.now)

pub returns-then-not-added-clause-err : goal.returns-then-not-added-clause-err
returns-then-not-added-clause-err c =
    let f : FragmentRows = c.args.stored.now in
    subst (λ (g : FragmentRows). IsPartlyAdded c.args.class c.args.tuple.now (full_fragment f) (full_fragment g)) (sym (done (goal.at.returns-then-not-added-clause-err c).In-Ok false c.if-not-added.true).1)
    (none_added f c.args.class c.args.tuple.now c.args.first c.requires.known c.requires.first c.requires.table c.rows_fit_the_table.ensures.now)

pub returns-then-not-added-clause-there : goal.returns-then-not-added-clause-there
returns-then-not-added-clause-there c e =
    let there = done (goal.at.returns-then-not-added-clause-there c).In-Ok false c.if-not-added.true in
    (first_there c.args.stored.now c.args.class c.args.tuple.now c.args.first c.requires.known c.requires.first c.requires.table c.rows_fit_the_table.ensures.now there.0, ap full_fragment there.1)

pub loop-edge-init : goal.loop-edge-init
loop-edge-init c =
    (done (goal.at.loop-edge-init c).In-Ok true c.if-not-added.false).1
    ∙ first_next c.args.stored.now c.args.class c.args.tuple.now c.args.first c.requires.known c.requires.first

pub add_row-requires-clause-owned : goal.add_row-requires-clause-owned
add_row-requires-clause-owned c =
    let f : FragmentRows = c.args.stored.now in
    let t : Pairs = c.args.tuple.now in
    let k : ℕ = c.loop-edge.edge in
    let s : EdgeShape = c.shape.result in
    let inv : c.loop-edge.stored ≡ changed_before raised_all c.args.class t k f = c.loop-edge.invariant in
    let has : HasShape f.table k s = subst (λ (g : FragmentRows). HasShape g.table k s) inv c.shape.ensures in
    let yes : is_kept_of_class c.args.class s ≡ true = sym c.is_kept_of.ensures ∙ c.if-is_kept_of.true in
    subst (λ (g : FragmentRows). 0 < g.room) (sym inv) (room_before f c.args.class t k s has yes c.requires.owned)

pub add_row-requires-clause-can : goal.add_row-requires-clause-can
add_row-requires-clause-can c =
    let f : FragmentRows = c.args.stored.now in
    let t : Pairs = c.args.tuple.now in
    let k : ℕ = c.loop-edge.edge in
    let s : EdgeShape = c.shape.result in
    let inv : c.loop-edge.stored ≡ changed_before raised_all c.args.class t k f = c.loop-edge.invariant in
    let has : HasShape f.table k s = subst (λ (g : FragmentRows). HasShape g.table k s) inv c.shape.ensures in
    let yes : is_kept_of_class c.args.class s ≡ true = sym c.is_kept_of.ensures ∙ c.if-is_kept_of.true in
    subst (λ (g : FragmentRows). CanAddRow g.table g.now k (edge_row g.table k t)) (sym inv)
    (can_before f c.args.class t k s has yes c.requires.table c.rows_fit_the_table.ensures.now (may (goal.at.add_row-requires-clause-can c).In-Ok c.if-not-added.false))

pub returns-clause-ok : goal.returns-clause-ok
returns-clause-ok c =
    let f : FragmentRows = c.args.stored.now in
    let end : length f.table ≤ c.loop-edge.edge = subst (λ n. n ≤ c.loop-edge.edge) (c.edge_count-edge-end.ensures ∙ ap (λ (g : FragmentRows). length g.table) (done (goal.at.returns-clause-ok c).In-Ok true c.if-not-added.false).1) c.loop-edge-test.false in
    ap full_fragment c.loop-edge.invariant ∙ raised_tuple f c.args.class c.args.tuple.now c.requires.table c.rows_fit_the_table.ensures.now c.loop-edge.edge end

pub returns-clause-none : goal.returns-clause-none
returns-clause-none c =
    full_look c.args.stored.now c.args.class c.args.tuple.now c.args.first c.requires.known c.requires.first c.requires.table c.rows_fit_the_table.ensures.now None
    (done (goal.at.returns-clause-none c).In-Ok true c.if-not-added.false).0

pub loop-edge-preserved : goal.loop-edge-preserved
loop-edge-preserved c =
    let f : FragmentRows = c.args.stored.now in
    let t : Pairs = c.args.tuple.now in
    let k : ℕ = c.loop-edge.edge in
    let s : EdgeShape = c.shape.result in
    let inv : c.loop-edge.stored ≡ changed_before raised_all c.args.class t k f = c.loop-edge.invariant in
    let has : HasShape f.table k s = subst (λ (g : FragmentRows). HasShape g.table k s) inv c.shape.ensures in
    elim c.if-is_kept_of.branch [
      | then-is_kept_of+in-Ok-add_row w ↦
          w.stored-is ∙ w.in-Ok-add_row.ensures.ok ∙ ap (λ (g : FragmentRows). changed (raised k (edge_row g.table k t)) g) inv
          ∙ before_next f c.args.class t k s has (sym c.is_kept_of.ensures ∙ w.if-is_kept_of.true) raised_all (raised k (edge_row f.table k t)) (raised_last (rows_before f.table c.args.class t k) (k, edge_row f.table k t) f.now)
      | else-is_kept_of w ↦ w.stored-is ∙ inv ∙ before_other f c.args.class t k s has raised_all (sym c.is_kept_of.ensures ∙ w.if-is_kept_of.false)
    ]

pub returns-in_default-add_row-clause-err : goal.returns-in_default-add_row-clause-err
returns-in_default-add_row-clause-err c =
    let f : FragmentRows = c.args.stored.now in
    subst (λ (g : FragmentRows). IsPartlyAdded c.args.class c.args.tuple.now (full_fragment f) (full_fragment g)) (sym (c.in_default-add_row.ensures.err ∙ c.loop-edge.invariant))
    (partly_added f c.args.class c.args.tuple.now c.requires.table c.rows_fit_the_table.ensures.now c.loop-edge.edge)
