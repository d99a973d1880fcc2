use Rattle.std.proofs.Common.{◌≡◌, ◌+◌, ◌<◌, ◌++◌, ◌∷◌, [], List, suc, get_or, length, subst, sym, ap, take, ◌∙◌, arith}
use Rattle.rc_bindings.proofs.Imports.{take-suc, take_all, project_all, In, IsRising, gather, gather-rising, get_or_in, in_gather, Pairs, cols_of, pair_cmp, project, tuple_cmp, tuple_order, BindingList, with_tuples, in_tuples_in, rising_tuples_in}
use Rattle.rc_bindings.proofs.bindings.Bindings.sort.Goals as goal
use Rattle.rc_bindings.proofs.bindings.Bindings.sort.Goals.{In-loop-tuple, Joined-then-len-lt2, then-len-lt2-via-else-len-lt2+then-rises, then-len-lt2-via-then-len-lt2}

-- one tuple rises, and none
rising_short : (ts : List Pairs) → length ts < 2 → IsRising tuple_cmp ts
rising_short [] short = tt
rising_short (t ∷ []) short = ((λ u m. absurd m), tt)
rising_short (t ∷ u ∷ ts) short = absurd (omega (arith, short))

-- they rise, being few or tested
rise : (c : Joined-then-len-lt2) → IsRising tuple_cmp c.args.self.now.tuples
rise c =
    elim c.then-len-lt2.branch [
      | then-len-lt2-via-then-len-lt2 w ↦ rising_short c.args.self.now.tuples (subst (λ n. n < 2) c.len.ensures w.if-len-lt2.true)
      | then-len-lt2-via-else-len-lt2+then-rises w ↦ w.rises.ensures.0 w.if-rises.true
    ]

pub returns-then-len-lt2-clause-ok : goal.returns-then-len-lt2-clause-ok
returns-then-len-lt2-clause-ok c = ap (with_tuples c.args.self.now) (sym (gather-rising tuple_cmp tuple_order c.args.self.now.tuples (rise c)))

-- the tuples that are put back
items : (c : In-loop-tuple) → c.deref-tuple-items.result.now ≡ gather tuple_cmp c.args.self.now.tuples
items c = c.deref-tuple-items.ensures.value ∙ c.distinct-tuples.ensures ∙ ap (gather tuple_cmp) c.in_ok-tuples.ensures

there : (c : In-loop-tuple) (t : Pairs) → t ≡ get_or c.deref-tuple-items.result.now c.loop-tuple.tuple-index t → In t c.args.self.now.tuples
there c t is =
    in_gather tuple_cmp tuple_order t c.args.self.now.tuples (subst (In t) (items c)
    (subst (λ z. In z c.deref-tuple-items.result.now) (sym is) (get_or_in c.deref-tuple-items.result.now c.loop-tuple.tuple-index t c.loop-tuple-test.true)))

columns : (c : In-loop-tuple) (t : Pairs) → In t c.args.self.now.tuples → cols_of t ≡ c.args.self.now.columns
columns c = subst (λ (z : BindingList). (t : Pairs) → In t z.tuples → cols_of t ≡ z.columns) c.begin.view_is (in_tuples_in c.begin.inside.cols c.begin.inside.width c.begin.inside.count c.begin.inside.registers.items)

rising : (c : In-loop-tuple) (t : Pairs) → In t c.args.self.now.tuples → IsRising pair_cmp t
rising c =
    subst (λ (z : BindingList). (t : Pairs) → In t z.tuples → IsRising pair_cmp t) c.begin.view_is
    (rising_tuples_in c.begin.inside.cols c.begin.inside.width c.begin.inside.count c.begin.inside.registers.items c.begin.invariant.columns.set.rising)

pub push_projection-requires : goal.push_projection-requires
push_projection-requires c k m =
    let at = (goal.at.push_projection-requires c).In-loop-tuple in
    subst (In k) (sym (columns at c.tuple-item.result (there at c.tuple-item.result c.tuple-item.is))) (subst (λ (z : BindingList). In k z.columns) c.loop-tuple.invariant m)

pub loop-tuple-init : goal.loop-tuple-init
loop-tuple-init c = c.begin-2.ensures ∙ ap (λ (z : BindingList). record { columns = z.columns; width = c.args.self.now.width; tuples = [] }) c.begin.view_is

pub loop-tuple-preserved : goal.loop-tuple-preserved
loop-tuple-preserved c =
    let at = (goal.at.loop-tuple-preserved c).In-loop-tuple in
    let t = c.tuple-item.result in
    let old = c.loop-tuple.self in
    let i = c.loop-tuple.tuple-index in
    let all = c.deref-tuple-items.result.now in
    let m = there at t c.tuple-item.is in
    let cols : cols_of t ≡ old.columns = columns at t m ∙ sym (ap (λ (z : BindingList). z.columns) c.loop-tuple.invariant) in
    let whole : project old.columns t ≡ t = project_all old.columns t (rising at t m) (λ k n. subst (In k) cols n) in
    let more : suc i ≡ i + 1 = omega arith in
    let next : take i all ++ t ∷ [] ≡ take (i + 1) all = ap (λ z. take i all ++ z ∷ []) c.tuple-item.is ∙ sym (take-suc all i t c.loop-tuple-test.true) ∙ ap (λ k. take k all) more in
    c.in_ok-push_projection.ensures.ok ∙ ap (λ z. with_tuples old (old.tuples ++ z ∷ [])) whole ∙ ap (λ (z : BindingList). with_tuples z (z.tuples ++ t ∷ [])) c.loop-tuple.invariant
    ∙ ap (with_tuples c.args.self.now) next

pub returns-clause-ok : goal.returns-clause-ok
returns-clause-ok c =
    let all = c.deref-tuple-items.result.now in
    let l = c.loop-tuple-test.false in
    c.loop-tuple.invariant ∙ ap (with_tuples c.args.self.now) (take_all c.loop-tuple.tuple-index all (omega (arith, l))
    ∙ c.deref-tuple-items.ensures.value ∙ c.distinct-tuples.ensures ∙ ap (gather tuple_cmp) c.in_ok-tuples.ensures)

pub begin-requires : goal.begin-requires
begin-requires c n m = subst (λ (z : BindingList). n < z.width) c.begin.view_is (c.begin.invariant.columns.below n m)
