use Rattle.std.proofs.Common.{◌≡◌, ◌+◌, ◌∷◌, ◌==◌, [], Bool, cond, get_or, length, not, true, false, refl, sym, ap, subst, ◌∙◌, arith, inl, inr}
use Rattle.rc_bindings.proofs.Imports.{and_from, eq-eqb, eqb-true, false≢true, or_cases, or_left, or_right, zip, has, inter, slice_get-rank, In, list_all_in, cols_of-zip, columns_below, fits, fits_all, register, fits_all-append, fits_apart, length-columns_below_more, none_shared, pairs_below, pairs_below_all, pairs_below_out, pairs_below_there, place_within, zip_there}
use Rattle.rc_bindings.proofs.binding.fits_values.Goals as goal
use Rattle.rc_bindings.proofs.binding.fits_values.Goals.{else-has-via-then-has+else-registers-col, else-has-via-else-has}

pub returns-then-is_empty-clause-value : goal.returns-then-is_empty-clause-value
returns-then-is_empty-clause-value c =
    let none : length (inter c.args.held c.args.cols) ≡ 0 = ap length (sym c.inter.ensures.value) ∙ eqb-true (length c.inter.result) 0 (sym c.is_empty.ensures ∙ c.if-is_empty.true) in
    sym (fits_apart c.args.held c.args.registers.now (zip c.args.cols c.args.values.now)
    (λ k m. none_shared c.args.held c.args.cols k none (subst (In k) (cols_of-zip c.args.cols c.args.values.now c.requires.count) m)))

pub loop-col-preserved-then-not-has : goal.loop-col-preserved-then-not-has
loop-col-preserved-then-not-has c =
    let h : has c.args.cols c.loop-col.col ≡ false = sym c.has.ensures.found ∙ c.if-not-has.true in
    record {
      place = c.loop-col.invariant.place ∙ sym (length-columns_below_more c.args.cols c.loop-col.col ∙ ap (λ b. length (columns_below c.args.cols c.loop-col.col) + cond b 1 0) h
          ∙ (let e : length (columns_below c.args.cols c.loop-col.col) + 0 ≡ length (columns_below c.args.cols c.loop-col.col) = omega arith in e));
      low = let low = c.loop-col.invariant.low in omega (arith, low);
      fit = ap (fits_all c.args.held c.args.registers.now) (pairs_below_out c.args.cols c.args.values.now c.loop-col.col h) ∙ c.loop-col.invariant.fit;
    }

pub offset_bounds-values-place : goal.offset_bounds-values-place
offset_bounds-values-place c = let low = c.loop-col.invariant.low in let l = c.loop-col-test.true in let w = c.requires.few in omega (arith, low, l, w)

pub bounds-values-place : goal.bounds-values-place
bounds-values-place c =
    let l = place_within c.args.cols c.loop-col.col c.within.ensures.set (sym c.has.ensures.found ∙ c.if-not-has.false) in
    let is = c.loop-col.invariant.place in
    let n = c.requires.count in
    omega (arith, l, is, n)

pub overflow_add-place : goal.overflow_add-place
overflow_add-place c = let low = c.loop-col.invariant.low in let l = c.loop-col-test.true in let w = c.requires.few in omega (arith, low, l, w)

pub returns-then-registers-col-clause-value : goal.returns-then-registers-col-clause-value
returns-then-registers-col-clause-value c = go (fits_all c.args.held c.args.registers.now (zip c.args.cols c.args.values.now)) refl
  where
    go : (b : Bool) → fits_all c.args.held c.args.registers.now (zip c.args.cols c.args.values.now) ≡ b → false ≡ b
    go false e = refl
    go true e =
        let n = c.loop-col.col in
        let h : has c.args.cols n ≡ true = sym c.has.ensures.found ∙ c.if-not-has.false in
        let v = get_or c.args.values.now (length (columns_below c.args.cols n)) 0 in
        let l = place_within c.args.cols n c.within.ensures.set h in
        let count = c.requires.count in
        let m : In (n, v) (zip c.args.cols c.args.values.now) = zip_there c.args.cols c.args.values.now (length (columns_below c.args.cols n)) n (slice_get-rank c.args.cols n c.within.ensures.set h) (omega (arith, l, count)) in
        elim (or_cases (not (has c.args.held n)) (register c.args.registers.now n == v) (list_all_in (fits c.args.held c.args.registers.now) (zip c.args.cols c.args.values.now) e (n, v) m)) [
          | inl out ↦ absurd (false≢true (sym (ap not (sym c.has-in-loop-col.ensures.found ∙ c.if-has.true)) ∙ out))
          | inr same ↦ absurd (c.if-registers-col.true (eqb-true (register c.args.registers.now n) v same ∙ ap (λ k. get_or c.args.values.now k 0) (sym c.loop-col.invariant.place)))
        ]

pub loop-col-preserved : goal.loop-col-preserved
loop-col-preserved c =
    let cols = c.args.cols in
    let values = c.args.values.now in
    let n = c.loop-col.col in
    let h : has cols n ≡ true = sym c.has.ensures.found ∙ c.if-not-has.false in
    let v = get_or values (length (columns_below cols n)) 0 in
    let fit : fits c.args.held c.args.registers.now (n, v) ≡ true = elim c.else-has.branch [
      | else-has-via-then-has+else-registers-col w ↦ or_right (not (has c.args.held n)) (register c.args.registers.now n == v)
          (eq-eqb (register c.args.registers.now n) v (w.if-registers-col.false ∙ ap (λ k. get_or values k 0) c.loop-col.invariant.place))
      | else-has-via-else-has w ↦ or_left (not (has c.args.held n)) (register c.args.registers.now n == v) (ap not (sym c.has-in-loop-col.ensures.found ∙ w.if-has.false))
    ] in
    record {
      place = ap (λ k. k + 1) c.loop-col.invariant.place ∙ sym (length-columns_below_more cols n ∙ ap (λ b. length (columns_below cols n) + cond b 1 0) h);
      low = let low = c.loop-col.invariant.low in omega (arith, low);
      fit = ap (fits_all c.args.held c.args.registers.now) (pairs_below_there cols values n c.within.ensures.set c.requires.count h)
          ∙ fits_all-append c.args.held c.args.registers.now (pairs_below cols values n) ((n, v) ∷ [])
          ∙ and_from (fits_all c.args.held c.args.registers.now (pairs_below cols values n)) (fits_all c.args.held c.args.registers.now ((n, v) ∷ [])) c.loop-col.invariant.fit (and_from (fits c.args.held c.args.registers.now (n, v)) true fit refl);
    }

pub returns-clause-value : goal.returns-clause-value
returns-clause-value c =
    let width : c.loop-col.col ≡ length c.args.registers.now = let l = c.loop-col-test.false in let e = c.loop-col.auto.col-end in omega (arith, l, e) in
    sym (ap (fits_all c.args.held c.args.registers.now) (sym (pairs_below_all (length c.args.registers.now) c.args.cols c.args.values.now (record { set = c.within.ensures.set; below = c.requires.below }) c.requires.count)
    ∙ ap (pairs_below c.args.cols c.args.values.now) (sym width)) ∙ c.loop-col.invariant.fit)
