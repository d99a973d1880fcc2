use Rattle.std.proofs.Common.{◌≡◌, ◌+◌, ◌<◌, List, ap, get_or, length, set, subst, sym, ◌∙◌, arith}
use Rattle.rc_bindings.proofs.Imports.{get_or_default, FiltersInPlace, FiltersInPlace-more_no, FiltersInPlace-more_set, Pairs, in_ranges, BindingList, with_tuples}
use Rattle.rc_bindings.proofs.bindings.Bindings.keep_in_ranges.Goals as goal
use Rattle.rc_bindings.proofs.bindings.Bindings.keep_in_ranges.Goals.{else-is_in_ranges, then-is_in_ranges}

-- bindings that are others' with other tuples
tuples_of : (a b : BindingList) (ts : List Pairs) → a ≡ with_tuples b ts → a.tuples ≡ ts
tuples_of a b ts e = ap (λ (z : BindingList). z.tuples) e

still_same : (a b first : BindingList) (ts : List Pairs) → a ≡ with_tuples b ts → b ≡ with_tuples first b.tuples → a ≡ with_tuples first a.tuples
still_same a b first ts e f = e ∙ ap (λ z. with_tuples z ts) f ∙ ap (with_tuples first) (sym (tuples_of a b ts e))

pub loop-at-preserved : goal.loop-at-preserved
loop-at-preserved c =
    let first = c.args.self.now in
    let old = c.loop-at.self in
    let ts = old.tuples in
    let i = c.loop-at.at in
    let x = c.get.result.tuple in
    let p = in_ranges c.args.ranges.now in
    let h = c.loop-at.invariant.kept in
    let l : i < length ts = let test = c.loop-at-test.true in let len = c.len-at-end.ensures in let long = h.long in omega (arith, test, len, long) in
    let is : x ≡ get_or ts i x = c.get.ensures.tuple ∙ get_or_default ts i _ x l in
    elim c.if-is_in_ranges.branch [
      | then-is_in_ranges w ↦
          let e : c.if-is_in_ranges.self ≡ with_tuples old (set ts c.loop-at.kept x) = w.self-is ∙ w.copy_row.ensures ∙ ap (λ t. with_tuples old (set ts c.loop-at.kept t)) (sym c.get.ensures.tuple) in
          let more : FiltersInPlace p first.tuples (set ts c.loop-at.kept x) (c.loop-at.kept + 1) (i + 1) = FiltersInPlace-more_set h l (sym c.is_in_ranges.ensures ∙ w.if-is_in_ranges.true) is in
          record {
            same = still_same c.if-is_in_ranges.self old first (set ts c.loop-at.kept x) e c.loop-at.invariant.same;
            kept = subst (λ k. FiltersInPlace p first.tuples c.if-is_in_ranges.self.tuples k (i + 1)) (sym w.kept-is)
                (subst (λ us. FiltersInPlace p first.tuples us (c.loop-at.kept + 1) (i + 1)) (sym (tuples_of c.if-is_in_ranges.self old (set ts c.loop-at.kept x) e)) more);
          }
      | else-is_in_ranges w ↦
          let more : FiltersInPlace p first.tuples ts c.loop-at.kept (i + 1) = FiltersInPlace-more_no h l (sym c.is_in_ranges.ensures ∙ w.if-is_in_ranges.false) is in
          record {
            same = still_same c.if-is_in_ranges.self old first ts w.self-is c.loop-at.invariant.same;
            kept = subst (λ k. FiltersInPlace p first.tuples c.if-is_in_ranges.self.tuples k (i + 1)) (sym w.kept-is)
                (subst (λ us. FiltersInPlace p first.tuples us c.loop-at.kept (i + 1)) (sym (ap (λ (z : BindingList). z.tuples) w.self-is)) more);
          }
    ]
