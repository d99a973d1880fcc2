use Rattle.std.proofs.Common.{◌≡◌, ◌+◌, ◌<◌, ◌≤◌, ◌++◌, ◌∷◌, [], ℕ, length, take, drop, sym, ap, subst, ◌∙◌, arith}
use Rattle.rc_fragment.proofs.Imports.{List, len-entries, append_assoc, append-nil, drop_all, Pairs, Values, Counted, Rows, now_in, rows_with, HasValues, extra_columns, row_from, EdgeShape}
use Rattle.std.specs.FinMap as fin
use Rattle.rc_fragment.proofs.WalkLemmas.{behind_key, entry_here, entry_next, entry_values, extra_behind, extra_cut, extra_fits, key_behind, key_cut, key_fits}
use Rattle.rc_fragment.proofs.rows.push_rows.Goals as goal

pub split_at-requires : goal.split_at-requires
split_at-requires c =
    let shape : EdgeShape = c.args.shape.now in
    let source : Values = c.args.source.now in
    let m : Rows = now_in c.args.container.now in
    let i : ℕ = c.loop-row.row in
    let rest : Values = c.loop-row.rest.now in
    let l : i < length (fin.entries m) = omega (arith, c.loop-row-test.true, c.len-row-end.ensures, len-entries m) in
    omega (arith, key_fits shape c.requires.parted source m c.requires.filed rest i l c.loop-row.invariant.rest, c.len-key_width.ensures.value)

pub split_at-requires-in-loop-row : goal.split_at-requires-in-loop-row
split_at-requires-in-loop-row c =
    let shape : EdgeShape = c.args.shape.now in
    let source : Values = c.args.source.now in
    let m : Rows = now_in c.args.container.now in
    let i : ℕ = c.loop-row.row in
    let rest : Values = c.loop-row.rest.now in
    let l : i < length (fin.entries m) = omega (arith, c.loop-row-test.true, c.len-row-end.ensures, len-entries m) in
    let e : Values × Counted = entry_here shape c.requires.parted source m c.requires.filed rest i l c.loop-row.invariant.rest in
    let k : c.split_at.result.0.now ≡ e.0 = c.split_at.ensures.front ∙ ap (λ n. take n rest) c.len-key_width.ensures.value ∙ key_cut shape c.requires.parted source m c.requires.filed rest i l c.loop-row.invariant.rest in
    let behind : Values = behind_key shape c.requires.parted source m c.requires.filed rest i l c.loop-row.invariant.rest in
    let b : c.split_at.result.1.now ≡ behind = c.split_at.ensures.back ∙ ap (λ n. drop n rest) c.len-key_width.ensures.value ∙ key_behind shape c.requires.parted source m c.requires.filed rest i l c.loop-row.invariant.rest in
    let w : c.len-extra_width.result ≡ length (extra_columns shape) = c.len-extra_width.ensures.value ∙ ap length c.extra.ensures.columns in
    let d : length c.split_at.result.1.now ≡ length behind = ap length b in
    omega (arith, extra_fits shape c.requires.parted source m c.requires.filed rest i l c.loop-row.invariant.rest, d, w)

pub row_of-requires-clause-values : goal.row_of-requires-clause-values
row_of-requires-clause-values c =
    let shape : EdgeShape = c.args.shape.now in
    let source : Values = c.args.source.now in
    let m : Rows = now_in c.args.container.now in
    let i : ℕ = c.loop-row.row in
    let rest : Values = c.loop-row.rest.now in
    let l : i < length (fin.entries m) = omega (arith, c.loop-row-test.true, c.len-row-end.ensures, len-entries m) in
    let e : Values × Counted = entry_here shape c.requires.parted source m c.requires.filed rest i l c.loop-row.invariant.rest in
    let k : c.split_at.result.0.now ≡ e.0 = c.split_at.ensures.front ∙ ap (λ n. take n rest) c.len-key_width.ensures.value ∙ key_cut shape c.requires.parted source m c.requires.filed rest i l c.loop-row.invariant.rest in
    let behind : Values = behind_key shape c.requires.parted source m c.requires.filed rest i l c.loop-row.invariant.rest in
    let b : c.split_at.result.1.now ≡ behind = c.split_at.ensures.back ∙ ap (λ n. drop n rest) c.len-key_width.ensures.value ∙ key_behind shape c.requires.parted source m c.requires.filed rest i l c.loop-row.invariant.rest in
    let w : c.len-extra_width.result ≡ length (extra_columns shape) = c.len-extra_width.ensures.value ∙ ap length c.extra.ensures.columns in
    let x : c.split_at-in-loop-row.result.0.now ≡ e.1.0 = c.split_at-in-loop-row.ensures.front ∙ (λ j. take (w j) (b j)) ∙ extra_cut shape c.requires.parted source m c.requires.filed rest i l c.loop-row.invariant.rest in
    subst (λ (z : Values × Values). HasValues shape (row_from shape source z.0 z.1) source z.0 z.1) (λ j. (sym k j, sym x j)) (entry_values shape c.requires.parted source m c.requires.filed rest i l c.loop-row.invariant.rest)

pub loop-row-preserved : goal.loop-row-preserved
loop-row-preserved c =
    let shape : EdgeShape = c.args.shape.now in
    let source : Values = c.args.source.now in
    let m : Rows = now_in c.args.container.now in
    let i : ℕ = c.loop-row.row in
    let rest : Values = c.loop-row.rest.now in
    let l : i < length (fin.entries m) = omega (arith, c.loop-row-test.true, c.len-row-end.ensures, len-entries m) in
    let e : Values × Counted = entry_here shape c.requires.parted source m c.requires.filed rest i l c.loop-row.invariant.rest in
    let k : c.split_at.result.0.now ≡ e.0 = c.split_at.ensures.front ∙ ap (λ n. take n rest) c.len-key_width.ensures.value ∙ key_cut shape c.requires.parted source m c.requires.filed rest i l c.loop-row.invariant.rest in
    let behind : Values = behind_key shape c.requires.parted source m c.requires.filed rest i l c.loop-row.invariant.rest in
    let b : c.split_at.result.1.now ≡ behind = c.split_at.ensures.back ∙ ap (λ n. drop n rest) c.len-key_width.ensures.value ∙ key_behind shape c.requires.parted source m c.requires.filed rest i l c.loop-row.invariant.rest in
    let w : c.len-extra_width.result ≡ length (extra_columns shape) = c.len-extra_width.ensures.value ∙ ap length c.extra.ensures.columns in
    let x : c.split_at-in-loop-row.result.0.now ≡ e.1.0 = c.split_at-in-loop-row.ensures.front ∙ (λ j. take (w j) (b j)) ∙ extra_cut shape c.requires.parted source m c.requires.filed rest i l c.loop-row.invariant.rest in
    let rows : List Pairs = c.loop-row.rows in
    let later : List Pairs = rows_with shape source (drop (i + 1) (fin.entries m)) in
    let r : c.in_ok-row_of.field-0 ≡ row_from shape source e.0 e.1.0 = c.in_ok-row_of.ensures ∙ (λ j. row_from shape source (k j) (x j)) in
    record {
      rest = c.split_at-in-loop-row.ensures.back ∙ (λ j. drop (w j) (b j)) ∙ extra_behind shape c.requires.parted source m c.requires.filed rest i l c.loop-row.invariant.rest;
      rows = (λ j. c.in_ok-push.ensures.ok j ++ later) ∙ (λ j. (rows ++ r j ∷ []) ++ later) ∙ append_assoc rows (row_from shape source e.0 e.1.0 ∷ []) later
          ∙ ap (λ z. rows ++ rows_with shape source z) (sym (entry_next shape c.requires.parted source m c.requires.filed rest i l c.loop-row.invariant.rest)) ∙ c.loop-row.invariant.rows;
    }

pub returns : goal.returns
returns c =
    let m : Rows = now_in c.args.container.now in
    let rows : List Pairs = c.loop-row.rows in
    let l : length (fin.entries m) ≤ c.loop-row.row = omega (arith, c.loop-row-test.false, c.len-row-end.ensures, len-entries m) in
    sym (append-nil rows) ∙ ap (λ z. rows ++ rows_with c.args.shape.now c.args.source.now z) (sym (drop_all c.loop-row.row (fin.entries m) l)) ∙ c.loop-row.invariant.rows
