use Rattle.std.proofs.Common.{[], ◌++◌, sym, subst, ◌∙◌}
use Rattle.rc_route.proofs.Imports.{append-nil, false≢true, within_from_test, test_from_within, IsGoodFrom}
use Rattle.rc_route.proofs.good.is_good.Goals as goal

pub returns-in_default-after_edges : goal.returns-in_default-after_edges
returns-in_default-after_edges c = (
  (λ h. absurd (false≢true h)),
  λ g.
      let spec = c.args.spec.now in
      let from = subst (λ z. IsGoodFrom spec c.args.need z [] (c.args.first.now ++ c.args.second.now)) (sym c.empty.ensures) g in
      let start = subst (λ z. IsGoodFrom spec c.args.need c.empty.result z (c.args.first.now ++ c.args.second.now)) (sym c.empty-2.ensures) from in
      let middle = (c.in-Some.ensures.some c.args.need c.args.second.now).0 start in
      let whole = subst (IsGoodFrom spec c.args.need c.in-Some.middle.reached c.in-Some.middle.visited) (sym (append-nil c.args.second.now)) middle in
      absurd (c.in_default-after_edges.ensures.none c.args.need [] whole),
)

pub returns : goal.returns
returns c =
    let spec = c.args.spec.now in
    let first = c.in-Some.ensures.some c.args.need c.args.second.now in
    let second = c.in-Some-after_edges.ensures.some c.args.need [] in (
      (λ h. let middle = subst (IsGoodFrom spec c.args.need c.in-Some.middle.reached c.in-Some.middle.visited) (append-nil c.args.second.now)
          (second.1 (within_from_test c.args.need c.in-Some-after_edges.end.visited (sym c.within.ensures.found ∙ h))) in
          subst (λ z. IsGoodFrom spec c.args.need z [] (c.args.first.now ++ c.args.second.now)) c.empty.ensures
          (subst (λ z. IsGoodFrom spec c.args.need c.empty.result z (c.args.first.now ++ c.args.second.now)) c.empty-2.ensures (first.1 middle))),
      λ g.
          let from = subst (λ z. IsGoodFrom spec c.args.need z [] (c.args.first.now ++ c.args.second.now)) (sym c.empty.ensures) g in
          let start = subst (λ z. IsGoodFrom spec c.args.need c.empty.result z (c.args.first.now ++ c.args.second.now)) (sym c.empty-2.ensures) from in
          let whole = subst (IsGoodFrom spec c.args.need c.in-Some.middle.reached c.in-Some.middle.visited) (sym (append-nil c.args.second.now)) (first.0 start) in
          c.within.ensures.found ∙ test_from_within c.args.need c.in-Some-after_edges.end.visited (second.0 whole),
    )
