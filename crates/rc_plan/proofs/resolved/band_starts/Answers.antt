use Rattle.std.proofs.Common.{◌≡◌, length, ap, subst, sym, ◌∙◌, arith}
use Rattle.rc_plan.proofs.Imports.{length-set, IsSealed, placed_total, band_start, Spec}
use Rattle.rc_plan.proofs.ResolvedLemmas.{one_more}
use Rattle.rc_plan.proofs.resolved.band_starts.Goals as goal

pub band_start-requires-clause-few : goal.band_start-requires-clause-few
band_start-requires-clause-few c = placed_total c.spec-spec.result.now (subst IsSealed (sym c.spec-spec.ensures.value) c.spec-spec.ensures.sealed).accepted.placed

pub loop-class-preserved : goal.loop-class-preserved
loop-class-preserved c =
    let starts = c.loop-class.starts in
    let class = c.loop-class.class in
    let room = c.loop-class.invariant.room in
    let test = c.loop-class-test.true in
    let few = c.spec-spec.ensures.sealed.in_range.classes in
    let all = ap length c.list.ensures ∙ ap (λ (s : Spec). length s.classes) c.spec-spec.ensures.value in
    record {
      room = length-set starts class c.band_start.result ∙ room;
      stand = one_more (λ n start. start ≡ band_start c.args.accepted.now n) starts class c.band_start.result (omega (arith, test, all, few, room)) c.loop-class.invariant.stand
          (c.band_start.ensures ∙ ap (λ (s : Spec). band_start s class) c.spec-spec.ensures.value);
    }
