use Rattle.std.proofs.Common.{◌≡◌, ◌+◌, ◌<◌, ℕ, [], drop, subst, sym, ◌∙◌, get_or, length, ap}
use Rattle.rc_machine.proofs.Imports.{drop_all, length-map, In, get_or_in, Pairs, agree_on, cols_of}
use Rattle.rc_machine.proofs.DifferLemmas.{is_same_yet, next_differs, next_same, none_left}
use Rattle.rc_machine.proofs.differing.differing.Goals.{then-pair-others, else-pair-others}
use Rattle.rc_machine.proofs.differing.differing.Goals as goal

-- tuples over the same columns have as many pairs
as_long : (t u : Pairs) → cols_of t ≡ cols_of u → length t ≡ length u
as_long t u e = sym (length-map t (λ (p : ℕ × ℕ). p.0)) ∙ ap length e ∙ length-map u (λ (p : ℕ × ℕ). p.0)

pub with-cols-requires : goal.with-cols-requires
with-cols-requires c =
    let pair = get_or c.pairs-pairs.result.now c.loop-at.at (0, 0) in
    c.pairs-pairs.ensures.tuple.columns pair (subst (In pair) c.pairs-pairs.ensures.pairs (get_or_in c.pairs-pairs.result.now c.loop-at.at (0, 0) c.loop-at-test.true))

pub loop-at-preserved : goal.loop-at-preserved
loop-at-preserved c cols =
    let t = c.pairs-pairs.result.now in
    let u = c.pairs-others.result.now in
    let at = c.loop-at.at in
    let long : length t ≡ length u = as_long t u (ap cols_of c.pairs-pairs.ensures.pairs ∙ c.requires ∙ sym (ap cols_of c.pairs-others.ensures.pairs)) in
    let also : at < length u = subst (λ n. at < n) long c.loop-at-test.true in
    elim c.if-pair-others.branch [
      | then-pair-others w ↦ ap (is_same_yet cols (drop (at + 1) t) (drop (at + 1) u)) (w.cols-is ∙ w.with-cols.ensures.value) ∙ next_differs t u at (0, 0) c.loop-at-test.true also cols c.loop-at.cols w.if-pair-others.true ∙ c.loop-at.invariant cols
      | else-pair-others w ↦ ap (is_same_yet cols (drop (at + 1) t) (drop (at + 1) u)) w.cols-is ∙ next_same t u at (0, 0) c.loop-at-test.true also cols c.loop-at.cols w.if-pair-others.false ∙ c.loop-at.invariant cols
    ]

pub returns : goal.returns
returns c cols =
    let t = c.pairs-pairs.result.now in
    let u = c.pairs-others.result.now in
    let same : cols_of t ≡ cols_of u = ap cols_of c.pairs-pairs.ensures.pairs ∙ c.requires ∙ sym (ap cols_of c.pairs-others.ensures.pairs) in
    let none : drop c.loop-at.at t ≡ [] = drop_all c.loop-at.at t c.loop-at-test.false in
    let left = none_left cols c.loop-at.cols t u (drop c.loop-at.at u) same (sym (ap (λ z. is_same_yet cols z (drop c.loop-at.at u) c.loop-at.cols) none) ∙ c.loop-at.invariant cols) in
    sym (ap (λ z. agree_on cols z u) c.pairs-pairs.ensures.pairs ∙ ap (agree_on cols c.args.tuple.now) c.pairs-others.ensures.pairs) ∙ left
