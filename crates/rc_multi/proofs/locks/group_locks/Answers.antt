use Rattle.std.proofs.Common.{ℕ, ◌∷◌, ◌++◌, [], zero-add, sym, ap, ◌∙◌}
use Rattle.rc_multi.proofs.Imports.{flat_map, range_with_len, append-nil, flat_map-append, range_with_len_more, with_plans, class_locks}
use Rattle.rc_multi.proofs.locks.group_locks.Goals as goal

pub loop-class-preserved : goal.loop-class-preserved
loop-class-preserved c =
    let class : ℕ = c.loop-class.class in
    let of_class = class_locks c.args.compiled.now.spec (with_plans c.args.compiled.now.plans c.args.calls.now) in
    c.in_ok-push_class.ensures
    ∙ ap (λ ls. ls ++ of_class class) c.loop-class.invariant
    ∙ ap (λ ls. flat_map of_class (range_with_len 0 class) ++ ls) (sym (append-nil (of_class class)))
    ∙ sym (flat_map-append of_class (range_with_len 0 class) (class ∷ []))
    ∙ ap (flat_map of_class) (ap (λ n. range_with_len 0 class ++ n ∷ []) (sym (zero-add class)) ∙ sym (range_with_len_more 0 class))
