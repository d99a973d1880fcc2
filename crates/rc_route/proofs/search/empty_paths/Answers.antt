use Rattle.std.proofs.Common.{◌≡◌, List, ℕ, [], ◌∷◌, length, sym, subst, arith, ap, length-append}
use Rattle.rc_route.proofs.Imports.{EachHolds, each_append, each_one}
use Rattle.rc_route.proofs.search.empty_paths.Goals as goal

pub loop-preserved : goal.loop-preserved
loop-preserved c = record {
  count = omega (arith, ap length c.in_ok-push.ensures.items, length-append {A = List ℕ});
  empty = subst (EachHolds (λ (path : List ℕ). path ≡ [])) (sym c.in_ok-push.ensures.items)
      (each_append (λ (path : List ℕ). path ≡ []) c.loop.paths.items (c.new.result ∷ []) c.loop.invariant.empty (each_one (λ (path : List ℕ). path ≡ []) c.new.result c.new.ensures));
}
