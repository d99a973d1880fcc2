use Rattle.std.proofs.Common.{◌≡◌, ◌+◌, ◌-◌, ◌<◌, ◌≤◌, ℕ, [], inl, inr, get_or, is_lt, length, refl, true, map, sym, ap, ◌∙◌, arith}
use Rattle.rc_machine.proofs.Imports.{eq-or-lt_of_le, get_or-map, length-map, false≢true, Ordering, Less, Equal, Greater, IsRising, number_lists_order, pick, row_cmp}
use Rattle.rc_machine.proofs.EmitLemmas.{rising_by_steps, steps_rise}
use Rattle.rc_machine.proofs.emit.rows_rise.Goals.{After-loop-at}
use Rattle.rc_machine.proofs.emit.rows_rise.Goals as goal

pub loop-at-preserved : goal.loop-at-preserved
loop-at-preserved c i l =
    elim (eq-or-lt_of_le (let k : i + 1 ≤ c.loop-at.at = omega (arith, l) in k)) [
      | inl e ↦
          let outs = c.args.outs.now in
          let ts = c.args.bindings.now.tuples in
          let before : i ≡ c.loop-at.at - 1 = omega (arith, e) in
          ap (λ n. row_cmp (pick outs (get_or ts n [])) (pick outs (get_or ts (i + 1) []))) before
          ∙ ap (λ n. row_cmp (pick outs (get_or ts (c.loop-at.at - 1) [])) (pick outs (get_or ts n []))) e
          ∙ ap (λ t. row_cmp (pick outs t) (pick outs (get_or ts c.loop-at.at []))) (sym c.get.ensures.tuple)
          ∙ ap (λ t. row_cmp (pick outs c.get.result.tuple) (pick outs t)) (sym c.get-in-loop-at.ensures.tuple)
          ∙ sym c.order_by.ensures ∙ less_from c.order_by.result (sym c.is_lt.ensures ∙ c.if-not-is_lt.false)
      | inr less ↦ c.loop-at.invariant i less
    ]
  where
    less_from : (o : Ordering) → is_lt o ≡ true → o ≡ Less
    less_from Less h = refl
    less_from Equal h = absurd (false≢true h)
    less_from Greater h = absurd (false≢true h)

pub returns-then-not-is_lt : goal.returns-then-not-is_lt
returns-then-not-is_lt c =
    let outs = c.args.outs.now in
    let ts = c.args.bindings.now.tuples in
    let rows = map (pick outs) ts in
    let n = length-map ts (pick outs) in
    let at : ℕ = c.loop-at.at in
    let some = c.loop-at.auto.at in
    let before : at - 1 + 1 ≡ at = omega (arith, some) in
    let within : at - 1 + 1 < length rows = omega (arith, before, n, c.loop-at-test.true, c.len-at-end.ensures) in
    let less : IsRising row_cmp rows → c.order_by.result ≡ Less = λ r.
    c.order_by.ensures ∙ (λ i. row_cmp (pick outs (c.get.ensures.tuple i)) (pick outs (c.get-in-loop-at.ensures.tuple i)))
    ∙ ap (λ k. row_cmp (pick outs (get_or ts (at - 1) [])) (pick outs (get_or ts k []))) (sym before)
    ∙ (λ i. row_cmp (sym (get_or-map (pick outs) ts (at - 1) []) i) (sym (get_or-map (pick outs) ts (at - 1 + 1) []) i))
    ∙ steps_rise row_cmp (pick outs []) rows r (at - 1) within in
    ((λ t. absurd (false≢true t)), λ r. absurd (false≢true (sym c.if-not-is_lt.true ∙ c.is_lt.ensures ∙ ap is_lt (less r))))

-- where each row is below the next, all rise
risen : (c : After-loop-at) → IsRising row_cmp (map (pick c.args.outs.now) c.args.bindings.now.tuples)
risen c =
    let outs = c.args.outs.now in
    let ts = c.args.bindings.now.tuples in
    let n = length-map ts (pick outs) in
    let l = c.loop-at-test.false in
    let len = c.len-at-end.ensures in
    rising_by_steps row_cmp number_lists_order (pick outs []) (map (pick outs) ts) (λ i k.
    ap (λ z. row_cmp z (get_or (map (pick outs) ts) (i + 1) (pick outs []))) (get_or-map (pick outs) ts i [])
    ∙ ap (row_cmp (pick outs (get_or ts i []))) (get_or-map (pick outs) ts (i + 1) []) ∙ c.loop-at.invariant i (omega (arith, n, l, len, k)))

pub returns : goal.returns
returns c = ((λ _. risen c), λ _. refl)
