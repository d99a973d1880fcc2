-- Further operations of a specification that is embedded.
use Rattle.std.proofs.Common.{◌≡◌, ◌+◌, ◌≤◌, List, [], ◌∷◌, ◌++◌, length, sym, ap, ◌∙◌, subst, arith}
use Rattle.rc_embed.proofs.Imports.{AllByRecursion, range_with_len, nat_cmp, length-append, gather, Follows, Dep, Column, Op, Spec, IsInRange, IsOpAmong, IsWellNamed, embedded_apart, with_ops, HasItsSchema, embedded, embedded_named, embedded_schema, known_over, Hand, AreHands, HasKnownColumns, IsShapeOf, with_operations, HasKnownColumns-over}

-- an operation's columns and the rules that it keeps are those of the schema
shape_same : (spec other : Spec) → HasItsSchema spec other → (op : Op) → IsShapeOf spec op → IsShapeOf other op
shape_same spec other same op is = record {
  among = subst (λ (columns : List Column). IsOpAmong (length columns) op) (sym same.columns) is.among;
  distinct = is.distinct;
  keeps = record {
    o1 = is.keeps.o1;
    o2 = λ finds.
        subst (λ (columns : List Column). Follows other.deps (gather nat_cmp op.pattern) (range_with_len 0 (length columns))) (sym same.columns)
        (subst (λ (deps : List Dep). Follows deps (gather nat_cmp op.pattern) (range_with_len 0 (length spec.columns))) (sym same.deps)
        (is.keeps.o2 finds));
    o3 = is.keeps.o3;
  };
}

shapes_same : (spec other : Spec) → HasItsSchema spec other → (shapes : List Op) → AllByRecursion (IsShapeOf spec) shapes
    → AllByRecursion (IsShapeOf other) shapes
shapes_same spec other same [] all = tt
shapes_same spec other same (op ∷ shapes) all = (shape_same spec other same op all.0, shapes_same spec other same shapes all.1)

module _ (spec : Spec) (further : List Op) where
  -- they may stand behind the operations of the specification before it is embedded, or of what is then made of it
  pub embedded_over : with_operations (embedded spec) further ≡ embedded (with_operations spec further)
  embedded_over =
      ap (λ (ops : List Op). with_ops (embedded spec) (ops ++ further)) (embedded_schema spec).ops
      ∙ sym (embedded_apart spec (spec.ops ++ further))

  pub embedded_shapes : (own : Spec) → own ≡ embedded spec → AllByRecursion (IsShapeOf spec) further → AllByRecursion (IsShapeOf own) further
  embedded_shapes own is shapes =
      subst (λ (s : Spec). AllByRecursion (IsShapeOf s) further) (sym is) (shapes_same spec (embedded spec) (embedded_schema spec) further shapes)

  pub embedded_few : (own : Spec) → own ≡ embedded spec → length spec.ops ≤ 32 → length further ≤ 32 → length own.ops + length further ≤ 64
  embedded_few own is declared few =
      let same = ap (λ (s : Spec). length s.ops) is ∙ ap (λ (ops : List Op). length ops) (embedded_schema spec).ops in omega (arith, same, declared, few)

  pub embedded_columns : (own extended : Spec) → own ≡ embedded spec → extended ≡ with_operations own further → IsInRange own → IsWellNamed spec
      → AllByRecursion (IsShapeOf spec) further → HasKnownColumns extended
  embedded_columns own extended is over range named shapes =
      subst HasKnownColumns (sym over)
      (HasKnownColumns-over own further range (subst IsWellNamed (sym is) (embedded_named spec named)) (embedded_shapes own is shapes))

  -- plans of its own operations are plans of the longer one
  pub hands_over : (own extended : Spec) (hands : List Hand) → extended ≡ with_operations own further → AreHands own hands → AreHands extended hands
  hands_over own extended hands over are =
      subst (λ (s : Spec). AreHands s hands) (sym over) (record {
        ops = λ hand m. let below = are.ops hand m in omega (arith, below, length-append own.ops further);
        once = are.once;
        known = λ hand m. known_over own further hand.plan (are.known hand m);
        short = are.short;
      })
