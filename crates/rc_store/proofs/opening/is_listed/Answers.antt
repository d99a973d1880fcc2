use Rattle.std.proofs.Common.{ℕ, ◌==◌, rules, subst, sym, tests, ◌∙◌}
use Rattle.rc_store.proofs.Imports.{eq-eqb, eqb-true, YieldsList-from_slice, any_from_yields_List, in_list_any, list_any_in, In, in_map, map_in, StripeLock, stripes_of}
use Rattle.rc_store.proofs.opening.is_listed.Goals as goal

pub returns : goal.returns
returns c =
    let locks = c.args.locks.now in
    let test = λ (l : StripeLock). l.0 == c.args.stripe in
    let is = any_from_yields_List test _ _ c.any.result c.any.ensures.ran (YieldsList-from_slice locks c.iter.ensures.rest) (λ x b q k. search (rules, tests)) in (
      (λ t. let w = in_list_any test locks (sym is ∙ t) in subst (λ (p : ℕ). In p (stripes_of locks)) (eqb-true w.0.0 c.args.stripe w.2) (map_in (λ (x : StripeLock). x.0) w.0 locks w.1)),
      (λ m. let w = in_map (λ (x : StripeLock). x.0) c.args.stripe locks m in is ∙ list_any_in test locks w.0 w.1 (eq-eqb w.0.0 c.args.stripe (sym w.2))),
    )
