-- Laws of a text of shapes: what it gives are shapes of the specification, and what its lines mean.
use Rattle.std.proofs.Common.{◌≡◌, ◌↔◌, ℕ, ◌≤◌, false, not, cond, List, [], ◌∷◌, length, Option, Some, None, Result, Ok, Err, refl, subst, arith}
use Rattle.rc_work.specs.Imports.{AllByRecursion, read_keeps, ContentLine, content_from, past_end_of, start_of, Op, Spec, Broken, IsOverColumns, unnamed_operation, unnamed_over, LineRule, S6, W4, Version}
use Rattle.std.proofs.lemmas.Bool.{leb-false, not-false}
use Rattle.std.proofs.lemmas.List.{length-append}
use Rattle.rc_text.specs.LanguageLaws as laws
use Rattle.rc_work.specs.Determined.{keeps_rules}
use Rattle.rc_work.specs.DeterminedLaws.{operation_test_is_exact}
use Rattle.rc_work.specs.LineRulesLaws.{ok, unrefused}
use Rattle.rc_work.specs.OpenLaws.{IsShapeOf-called, all_push}
use Rattle.rc_work.specs.ShapeRules.{is_one_shape_more, shape_name, shape_place, with_shape}
use Rattle.rc_work.specs.Shapes.{IsShapeOf}
use Rattle.rc_work.specs.ShapesGrammar.{ShapesMean, after_shape_line, shapes_by, shapes_from, shapes_language, shapes_of, shapes_with}

-- at most 32 shapes of the specification
pub record AreShapesOf (spec : Spec) (shapes : List Op) : Type 0 where
  pub few : length shapes ≤ 32
  pub each : AllByRecursion (IsShapeOf spec) shapes

abbrev ok_of : {E : Type 0} → List Op → Result (List Op) E
ok_of shapes = Ok shapes

same_shapes : {E : Type 0} (shapes next : List Op) → ok_of {E = E} shapes ≡ Ok next → shapes ≡ next
same_shapes shapes next e = cc

module _ (spec : Spec) where
  one_more : (shapes : List Op) (op : Op) (place : Option ℕ) → AreShapesOf spec shapes → IsShapeOf spec op
      → is_one_shape_more shapes place ≡ false → AreShapesOf spec (with_shape shapes op place)
  one_more shapes op None are shape limit =
      let more = record op { name = shape_name (length shapes) } ∷ [] in
      record {
        few = omega (arith, leb-false 32 (length shapes) limit, length-append shapes more);
        each = all_push (IsShapeOf spec) shapes _ are.each (IsShapeOf-called spec op (shape_name (length shapes)) shape);
      }
  one_more shapes op (Some place) are shape limit = are

  op_keeps : (shapes : List Op) (op : Op) (next : List Op) → AreShapesOf spec shapes → IsOverColumns spec op
      → shapes_with spec shapes op ≡ Ok next → AreShapesOf spec next
  op_keeps shapes op next are over e =
      let keeps_test = cond (not (keeps_rules spec op)) (Err W4) (ok (with_shape shapes op (shape_place shapes op))) in
      let limit = unrefused (is_one_shape_more shapes (shape_place shapes op)) S6 keeps_test next e in
      let keeps = unrefused (not (keeps_rules spec op)) W4 (ok (with_shape shapes op (shape_place shapes op))) next limit.1 in
      subst (AreShapesOf spec) (same_shapes {E = LineRule} (with_shape shapes op (shape_place shapes op)) next keeps.1)
      (one_more shapes op (shape_place shapes op) are (record {
        among = over.among;
        distinct = over.distinct;
        keeps = (operation_test_is_exact spec op).0 (not-false (keeps_rules spec op) keeps.0);
      }) limit.0)

  line_keeps : (version : Version) (shapes : List Op) (bytes : List ℕ) (found : Result Op LineRule) (next : List Op) → AreShapesOf spec shapes
      → unnamed_operation version spec bytes ≡ found → shapes_by spec shapes found ≡ Ok next → AreShapesOf spec next
  line_keeps version shapes bytes (Err rule) next are is e = absurd cc
  line_keeps version shapes bytes (Ok op) next are is e = op_keeps shapes op next are (unnamed_over spec version bytes op is) e

  after_keeps : (version : Version) (shapes : List Op) (bytes : List ℕ) (next : List Op) → AreShapesOf spec shapes
      → after_shape_line version spec shapes bytes ≡ Ok next → AreShapesOf spec next
  unfolding after_shape_line
  after_keeps version shapes bytes next are e = line_keeps version shapes bytes (unnamed_operation version spec bytes) next are refl e

  read_so : (version : Version) (past_end : ℕ) (lines : List ContentLine) (shapes : List Op)
      → shapes_from version spec past_end [] lines ≡ Ok shapes → AreShapesOf spec shapes
  unfolding shapes_from
  read_so version past_end lines shapes e =
      read_keeps (shapes_language version spec) (AreShapesOf spec) (AreShapesOf spec)
      (λ before bytes next are given. after_keeps version before bytes next are given) (λ next line others are. are)
      (λ at next found are out. subst (AreShapesOf spec) (same_shapes {E = Broken} next found out) are) past_end [] lines shapes
      (record { few = omega arith; each = tt }) e

  -- what a text of shapes gives
  pub shapes_of-are : (version : Version) (text : List ℕ) (shapes : List Op) → shapes_of version spec text ≡ Ok shapes → AreShapesOf spec shapes
  shapes_of-are version text shapes e = read_so version (past_end_of text) (content_from (start_of text)) shapes e

-- ---- what the lines mean

-- what is read is what the lines mean, and nothing else is
pub shapes_mean : (version : Version) (spec : Spec) (text : List ℕ) (gives : Result (List Op) Broken)
    → (shapes_of version spec text ≡ gives) ↔ ShapesMean version spec text gives
unfolding shapes_from
shapes_mean version spec text gives =
    let meant = laws.means-reading (shapes_language version spec) (past_end_of text) [] (content_from (start_of text)) in (
      (λ e. subst (ShapesMean version spec text) e meant),
      (λ means. laws.reading-means (shapes_language version spec) (past_end_of text) [] (content_from (start_of text)) gives means),
    )

-- ---- a text without a line

-- it gives none
pub no_shapes : (version : Version) (spec : Spec) → shapes_of version spec [] ≡ Ok []
unfolding shapes_from
no_shapes version spec = refl
