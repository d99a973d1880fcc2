-- The lines of operations are the same over the specification that has these operations.
use Rattle.std.proofs.Common.{◌≡◌, ℕ, List, [], ◌∷◌, ◌++◌, codes, drop, length, refl, ap, ◌∙◌}
use Rattle.rc_spec.specs.declared.items.Op.{Op}
use Rattle.rc_spec.specs.declared.items.OpKind.{OpKind}
use Rattle.rc_spec.specs.declared.items.OpKind.TheVariants.{Query, Insert, Remove, Update}
use Rattle.rc_spec.specs.declared.spec.Spec.{Spec}
use Rattle.rc_work.specs.Shapes.{with_operations}
use Rattle.rc_open.specs.ShapeText.{behind_text, columns_text, kind_text, ranges_text, shape_text, shapes_text}

module _ (spec : Spec) (shapes : List Op) where
  ranges_over : (ranges : List ℕ) → ranges_text (with_operations spec shapes) ranges ≡ ranges_text spec ranges
  ranges_over [] = refl
  ranges_over (col ∷ cols) = refl

  behind_over : (kind : OpKind) → behind_text (with_operations spec shapes) kind ≡ behind_text spec kind
  behind_over (Query outs ranges) = ap (λ (l : List ℕ). l ++ codes " ->" ++ columns_text spec outs) (ranges_over ranges)
  behind_over Insert = refl
  behind_over Remove = refl
  behind_over Update = refl

  shape_over : (op : Op) → shape_text (with_operations spec shapes) op ≡ shape_text spec op
  shape_over op =
      ap (λ (l : List ℕ). codes "shape " ++ op.name ++ kind_text op.kind ++ columns_text spec op.pattern ++ l ++ 10 ∷ []) (behind_over op.kind)

  pub shapes_over : (printed : List Op) → shapes_text (with_operations spec shapes) printed ≡ shapes_text spec printed
  shapes_over [] = refl
  shapes_over (op ∷ printed) =
      ap (λ (l : List ℕ). l ++ shapes_text (with_operations spec shapes) printed) (shape_over op)
      ∙ ap (λ (l : List ℕ). shape_text spec op ++ l) (shapes_over printed)

-- the operations behind the first ones
pub drop_first : (first others : List Op) → drop (length first) (first ++ others) ≡ others
drop_first [] others = refl
drop_first (op ∷ first) others = drop_first first others

-- so the operations behind those that were declared are printed, over the specification that has them
pub further_text : (spec extended : Spec) (shapes : List Op) → extended ≡ with_operations spec shapes
    → shapes_text extended (drop (length spec.ops) extended.ops) ≡ shapes_text spec shapes
further_text spec extended shapes same =
    ap (λ (s : Spec). shapes_text s (drop (length spec.ops) s.ops)) same
    ∙ ap (shapes_text (with_operations spec shapes)) (drop_first spec.ops shapes)
    ∙ shapes_over spec shapes shapes
