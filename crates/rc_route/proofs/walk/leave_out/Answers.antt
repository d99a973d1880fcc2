use Rattle.std.proofs.Common.{◌≡◌, ◌<◌, ◌-◌, ◌++◌, ℕ, suc, List, length, take, drop, arith, ap, sym, subst, ◌∙◌}
use Rattle.rc_route.proofs.Imports.{true≢false, false≢true, IsGoodRoute}
use Rattle.rc_route.proofs.PassLemmas.{IsLeftAt, left_out, left_kept, one_up, pieces, shorter, fewer_now}
use Rattle.rc_route.proofs.walk.leave_out.Goals as goal

pub loop-place-preserved-then-is_good : goal.loop-place-preserved-then-is_good
loop-place-preserved-then-is_good c =
    let items : List ℕ = c.loop-place.edges.items in
    let j : ℕ = c.loop-place.place - 1 in
    let l : j < length items = omega arith in
    let split = pieces items c.deref.result.now c.deref-in-loop-place.result.now j c.deref.ensures.value c.deref-in-loop-place.ensures.value in
    let good : IsGoodRoute c.args.spec.now c.args.need (take j items ++ drop (suc j) items) = subst (IsGoodRoute c.args.spec.now c.args.need) split (c.is_good.ensures.0 c.if-is_good.true) in
    let less : suc (length c.remove.new.self.items) ≡ length items = shorter items c.remove.new.self.items j l c.remove.ensures.items in
    record {
      within = omega arith;
      rest = λ left h. c.loop-place.invariant.rest left
          (subst (λ i. IsLeftAt (IsGoodRoute c.args.spec.now c.args.need) items i left) (one_up c.loop-place.place c.loop-place-test.true)
          (left_out (IsGoodRoute c.args.spec.now c.args.need) items c.remove.new.self.items left j l c.remove.ensures.items good h));
      same = λ e. absurd (true≢false e);
      less = λ _. fewer_now c.loop-place.fewer (length c.remove.new.self.items) (length items) (length c.args.edges.now.items) less (λ e. ap length (c.loop-place.invariant.same e)) c.loop-place.invariant.less;
    }

pub loop-place-preserved : goal.loop-place-preserved
loop-place-preserved c =
    let items : List ℕ = c.loop-place.edges.items in
    let j : ℕ = c.loop-place.place - 1 in
    let l : j < length items = omega arith in
    let split = pieces items c.deref.result.now c.deref-in-loop-place.result.now j c.deref.ensures.value c.deref-in-loop-place.ensures.value in
    record {
      within = omega arith;
      rest = λ left h. c.loop-place.invariant.rest left
          (subst (λ i. IsLeftAt (IsGoodRoute c.args.spec.now c.args.need) items i left) (one_up c.loop-place.place c.loop-place-test.true)
          (left_kept (IsGoodRoute c.args.spec.now c.args.need) items left j l
          (λ g. false≢true (sym c.if-is_good.false ∙ c.is_good.ensures.1 (subst (IsGoodRoute c.args.spec.now c.args.need) (sym split) g))) h));
      same = c.loop-place.invariant.same;
      less = c.loop-place.invariant.less;
    }
