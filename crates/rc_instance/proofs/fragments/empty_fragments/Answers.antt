use Rattle.std.proofs.Common.{◌≡◌, ◌+◌, ◌++◌, ◌∷◌, [], length, inl, inr, sym, ap, subst, ◌∙◌, arith}
use Rattle.rc_instance.proofs.Imports.{List, length-append, In, in_append, IsSealed, placed_total, stripe_total, edge_table, FragmentRows, no_rows, at_rest, kept_rows, IsEmptyFragment}
use Rattle.rc_instance.proofs.EmptyLemmas.{empty_table}
use Rattle.rc_instance.proofs.fragments.empty_fragments.Goals as goal

pub stripe_total-end-requires : goal.stripe_total-end-requires
stripe_total-end-requires c =
    let sealed : IsSealed c.spec.result.now = subst IsSealed (sym c.spec.ensures.value) c.spec.ensures.sealed in
    record { few = placed_total c.spec.result.now sealed.accepted.placed }

pub loop-preserved : goal.loop-preserved
loop-preserved c =
    let old : List FragmentRows = c.loop.fragments.items in
    let f : FragmentRows = c.alone_or_kept.result in
    let pushed : c.push.new.self.items ≡ old ++ f ∷ [] = c.in_ok-push.ensures.items in
    let e : f ≡ no_rows (edge_table c.args.accepted.now) = c.alone_or_kept.ensures ∙ ap at_rest (c.of.ensures ∙ ap kept_rows c.in_ok-fragment.ensures) in
    record {
      count = ap length pushed ∙ (let l : length (old ++ f ∷ []) ≡ length old + 1 = length-append old (f ∷ []) in omega (arith, l, c.loop.invariant.count));
      empty = λ z m. elim (in_append z old (f ∷ []) (subst (In z) pushed m)) [
        | inl a ↦ c.loop.invariant.empty z a
        | inr (inl p) ↦ subst (IsEmptyFragment (edge_table c.args.accepted.now)) (sym p) e
        | inr (inr q) ↦ absurd q
      ];
    }

pub returns-clause-few : goal.returns-clause-few
returns-clause-few c =
    let sealed : IsSealed c.args.accepted.now = c.spec.ensures.sealed in
    let t : stripe_total c.spec.result.now ≡ stripe_total c.args.accepted.now = ap stripe_total c.spec.ensures.value in
    omega (arith, placed_total c.args.accepted.now sealed.accepted.placed, c.loop.invariant.count, c.loop-test.false, c.loop.auto.counter-end, c.stripe_total-end.ensures, t)

pub returns-clause-table : goal.returns-clause-table
returns-clause-table c =
    let sealed : IsSealed c.args.accepted.now = c.spec.ensures.sealed in
    let t : stripe_total c.spec.result.now ≡ stripe_total c.args.accepted.now = ap stripe_total c.spec.ensures.value in
    let l : length c.loop.fragments.items ≡ stripe_total c.args.accepted.now = omega (arith, c.loop.invariant.count, c.loop-test.false, c.loop.auto.counter-end, c.stripe_total-end.ensures, t) in
    empty_table c.args.accepted.now c.loop.fragments.items sealed l c.loop.invariant.empty
