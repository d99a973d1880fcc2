use Rattle.std.proofs.Common.{◌≡◌, ◌≤◌, ◌∙◌, ◌+◌, ◌-◌, ◌++◌, ◌∷◌, ◌<◌, ℕ, [], Some, length, arith, ap, sym, map, reverse, drop}
use Rattle.rc_query.proofs.Imports.{slice_get, Release, releases_more}
use Rattle.rc_query.proofs.statements.push_ending.Goals as goal

back : (place : ℕ) → 0 < place → place ≡ place - 1 + 1
back place l = omega arith

pub loop-place-preserved : goal.loop-place-preserved
loop-place-preserved c =
    let place : ℕ = c.loop-place.place - 1 in
    let class : ℕ = c.unwrap-class.result in
    let found : slice_get c.args.classes place ≡ Some class = sym c.nth.ensures.value ∙ c.unwrap-class.ensures in
    record {
      within = (let most : c.loop-place.place ≤ length c.args.classes = c.loop-place.invariant.within in omega arith);
      plan = c.in_ok-push-3.ensures.ok ∙ ap (λ l. l ++ Release class ∷ []) c.loop-place.invariant.plan
          ∙ ap (λ n. (c.push-2.new.self ++ map Release (reverse (drop n c.args.classes))) ++ Release class ∷ []) (back c.loop-place.place (omega arith))
          ∙ releases_more c.push-2.new.self c.args.classes place class found;
    }
