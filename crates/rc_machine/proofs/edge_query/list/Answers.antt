use Rattle.std.proofs.Common.{◌≡◌, ◌<◌, ◌*◌, ◌/◌, ◌++◌, [], ℕ, List, length, map, subst, sym, ap, ◌∙◌, arith}
use Rattle.rc_machine.proofs.Imports.{mul-div_cancel, length-map, flat_map, Pairs, pick, value, Many, Rows, bound, edge_at, rows_of_width, length-flat_map_width, rows_of_width-flat_map, HasScanned, HasShape, IsScan, key_and_extra, shape_of, extra_columns, values_at, EdgeShape, number_has_shape}
use Rattle.rc_machine.proofs.AccessLemmas.{flat_map_alike, picked_parts, some_length}
use Rattle.rc_machine.proofs.EmitLemmas.{few_rows, many_rows}
use Rattle.rc_machine.proofs.ReadLemmas.{read_known}
use Rattle.rc_machine.proofs.edge_query.list.Goals as goal
use Rattle.rc_machine.proofs.edge_query.list.Goals.{After-as_slice}

pub scan-requires : goal.scan-requires
scan-requires c = read_known c.args.fragment.now.table c.args.read.now c.requires.read

-- the edge's shape
abbrev edge_shape : After-as_slice → EdgeShape
edge_shape c = shape_of c.args.read.now.spec.now c.args.read.now.edge

-- the values of the source by which rows are scanned
source : (c : After-as_slice) → c.deref.result.now ≡ values_at (bound c.args.read.now.spec.now (edge_at c.args.read.now.spec.now c.args.read.now.edge).from) c.args.args.now
source c =
    c.deref.ensures.value ∙ c.in_ok-push_values.ensures ∙ ap (λ l. l ++ values_at c.args.read.now.resolved.now.source c.args.args.now) c.clear.ensures.items
    ∙ ap (λ xs. values_at xs c.args.args.now) c.requires.read.resolved.edge.source

-- what the scan told
record Told (c : After-as_slice) : Type 0 where
  rows : List Pairs
  scanned : IsScan (edge_shape c) c.args.fragment.now.now c.args.read.now.edge (values_at (bound c.args.read.now.spec.now (edge_at c.args.read.now.spec.now c.args.read.now.edge).from) c.args.args.now) rows
  values : c.scan.new.out.items ≡ flat_map (pick c.args.outs.now) rows

told : (c : After-as_slice) → Told c
told c =
    let spec = c.args.read.now.spec.now in
    let e : ℕ = c.args.read.now.edge in
    let has : HasShape c.args.fragment.now.table e (edge_shape c) = subst (λ t. HasShape t e (edge_shape c)) (sym c.requires.read.table) (number_has_shape spec e c.requires.read.known) in
    let all : HasScanned (edge_shape c) c.args.fragment.now.now e c.deref.result.now [] c.scan.new.out.items =
    subst (λ z. HasScanned (edge_shape c) c.args.fragment.now.now e c.deref.result.now z c.scan.new.out.items) c.clear-2.ensures.items (c.in_ok-scan.ensures.ok (edge_shape c) has) in
    let alike : flat_map (key_and_extra (edge_shape c)) all.0 ≡ flat_map (pick c.args.outs.now) all.0 =
    flat_map_alike (key_and_extra (edge_shape c)) (pick c.args.outs.now) all.0
    (λ u m. let there = (all.2.only u m).0 in
    sym (ap (λ outs. pick outs u) c.requires.outs ∙ picked_parts spec c.requires.read.sealed e c.requires.read.known u (c.requires.columns (e, u, there.0) there.1))) in
    record {
      rows = all.0;
      scanned = subst (λ s. IsScan (edge_shape c) c.args.fragment.now.now e s all.0) (source c) all.2;
      values = all.1 ∙ alike;
    }

-- each row has a value for each output
wide : (outs : List ℕ) (t : Pairs) → length (pick outs t) ≡ length outs
wide outs t = length-map outs (value t)

-- and so many rows are there
count : (c : After-as_slice) (t : Told c) → length c.as_slice.result.now / length c.list-width.result.now ≡ length t.rows
count c t =
    let outs : List ℕ = c.args.outs.now in
    let many : length c.as_slice.result.now ≡ length t.rows * length outs = ap length (c.as_slice.ensures.value ∙ t.values) ∙ length-flat_map_width (pick outs) (length outs) (wide outs) t.rows in
    let some : 0 < length outs = subst (λ (z : List ℕ). 0 < length z) (sym c.requires.outs) (some_length (edge_at c.args.read.now.spec.now c.args.read.now.edge).key (extra_columns (edge_shape c)) c.requires.keyed) in
    ap (λ n. n / length c.list-width.result.now) many ∙ ap (λ (l : List ℕ). length t.rows * length outs / length l) c.list-width.ensures ∙ mul-div_cancel (length t.rows) some

pub returns-then-rows-read : goal.returns-then-rows-read
returns-then-rows-read c =
    let at = (goal.at.returns-then-rows-read c).After-as_slice in
    let t : Told at = told at in
    let rows : List (List ℕ) = map (pick c.args.outs.now) t.rows in
    let all : length rows ≡ length t.rows = length-map t.rows (pick c.args.outs.now) in
    let is = count at t in
    let l = c.if-rows-read.true in
    (t.rows, t.scanned, ap Many (is ∙ sym all) ∙ sym (many_rows c.args.read.now.spec.now.most_rows rows (omega (arith, all, is, l))))

pub of_width-requires : goal.of_width-requires
of_width-requires c =
    let at = (goal.at.of_width-requires c).After-as_slice in
    let t : Told at = told at in
    let outs : List ℕ = c.args.outs.now in
    ap length t.values ∙ length-flat_map_width (pick outs) (length outs) (wide outs) t.rows ∙ ap (λ n. n * length outs) (sym (count at t)) ∙ ap (λ (l : List ℕ). (length c.as_slice.result.now / length c.list-width.result.now) * length l) (sym c.list-width.ensures)

pub returns : goal.returns
returns c =
    let at = (goal.at.returns c).After-as_slice in
    let t : Told at = told at in
    let outs : List ℕ = c.args.outs.now in
    let rows : List (List ℕ) = map (pick outs) t.rows in
    let all : length rows ≡ length t.rows = length-map t.rows (pick outs) in
    let is = count at t in
    let l = c.if-rows-read.false in
    let listed : rows_of_width (length c.list-width.result.now) (length c.as_slice.result.now / length c.list-width.result.now) c.scan.new.out.items ≡ rows =
    ap (rows_of_width (length c.list-width.result.now) (length c.as_slice.result.now / length c.list-width.result.now)) t.values
    ∙ ap (λ (l : List ℕ). rows_of_width (length l) (length c.as_slice.result.now / length c.list-width.result.now) (flat_map (pick outs) t.rows)) c.list-width.ensures
    ∙ ap (λ n. rows_of_width (length outs) n (flat_map (pick outs) t.rows)) is
    ∙ rows_of_width-flat_map (pick outs) (length outs) (wide outs) t.rows in
    (t.rows, t.scanned, ap Rows (c.of_width.ensures ∙ listed) ∙ sym (few_rows c.args.read.now.spec.now.most_rows rows (omega (arith, all, is, l))))
