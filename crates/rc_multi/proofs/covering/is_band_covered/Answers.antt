use Rattle.std.proofs.Common.{ℕ, ◌+◌, Some, arith, rules, tests}
use Rattle.rc_multi.proofs.Imports.{YieldsList-from_range, class_at, band_start, MayTake, band_of_class}
use Rattle.rc_multi.proofs.AnswerLemmas.{all_said}
use Rattle.rc_multi.proofs.covering.is_band_covered.Goals as goal

pub returns : goal.returns
returns c =
    let spec = c.args.compiled.now.spec in
    let start : ℕ = band_start spec c.args.class in
    let stripes : ℕ = (class_at spec c.args.class).stripes in
    let all = all_said (λ (stripe : ℕ). MayTake (Some c.args.locks.now) stripe c.args.mode) _ _ c.all.result c.all.ensures.ran
    (YieldsList-from_range start (start + stripes) stripes (cc) (omega arith)) (λ x b q k. search (rules, tests)) in
    (λ t stripe of. all.0 t stripe ((band_of_class spec stripe c.args.class).1 of), λ band. all.1 (λ stripe m. band stripe ((band_of_class spec stripe c.args.class).0 m)))
