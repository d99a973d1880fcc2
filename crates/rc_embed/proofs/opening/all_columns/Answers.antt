use Rattle.std.proofs.Common.{ℕ, List, [], ◌∷◌, ◌++◌, map, sym, ap, ◌∙◌, arith}
use Rattle.rc_embed.proofs.Imports.{range_with_len, map-range_with_len_more, written_columns_at}
use Rattle.rc_embed.proofs.opening.all_columns.Goals as goal

pub loop-op-preserved : goal.loop-op-preserved
loop-op-preserved c =
    c.in_ok-push.ensures.items
    ∙ ap (λ (cs : List (List ℕ)). cs ++ c.in_ok-written_columns_at.field-0 ∷ []) c.loop-op.invariant
    ∙ ap (λ (cols : List ℕ). map (written_columns_at c.args.spec.now) (range_with_len 0 c.loop-op.op) ++ cols ∷ []) c.in_ok-written_columns_at.ensures
    ∙ sym (map-range_with_len_more (written_columns_at c.args.spec.now) 0 c.loop-op.op c.loop-op.op (omega arith))
