-- The plans of all operations are read again where they are printed with `end` behind them, and are then the chosen ones.
use Rattle.std.proofs.Common.{◌≡◌, ℕ, ◌<◌, ◌≤◌, true, false, cond, eqb, List, [], ◌∷◌, ◌++◌, length, map, Option, Some, Ok, refl, sym, ap, ◌∙◌, subst, inl, inr, arith, codes}
use Rattle.rc_text_laws.specs.Imports.{AllByRecursion, flat_map, range_with_len, in_range_below, in_range_bounds, rising_range, In, AreDistinct, in_map, ContentLine, IsPrintable, bytes_of_content, content_from, printed_lines, start_of, content-printed, IsInRange, IsWellNamed, op_at, Spec, plain_words_of, ArePlansOf, plan_at, KeepsPlanRules, Statement, AllKeepRules, AreChosen, IsChosenBy, plan_for, alone_by, are_end, closed_by, plans_of, says_end, AreHands, HaveSets, ops_of, OpsHaveSets, plans_alone, BeginsEnd, start_is_first, Hand}
use Rattle.std.proofs.lemmas.Bool.{eqb-true, eq-eqb}
use Rattle.std.proofs.lemmas.Grind.{flat_map-append}
use Rattle.rc_handplan.specs.PlansText.{op_text}
use Rattle.rc_handplan.specs.declared.starts.Closing.TheVariants as closings
use Rattle.rc_text_laws.specs.NumberedLaws.{distinct_rising}
use Rattle.rc_text_laws.specs.PlansLaws.{all_plans_are_read_back, plan_lines_are_printed}
use Rattle.rc_text_laws.specs.PlansRead.{OpsAreShort, PrintedPlansAreChosen, PrintedPlansAreTaken, all_hands, hand_at, plan_lines}
use Rattle.rc_text_laws.specs.PrintedRunLaws.{printable_append, printable_plan}
use Rattle.rc_text_laws.specs.WordsLaws.{line_is_read}

-- ---- the line `end`

end_words : plain_words_of (codes "end") ≡ Some (codes "end" ∷ [])
end_words = line_is_read (codes "end" ∷ []) ((refl, refl), tt)

begins_end : BeginsEnd (codes "end")
begins_end = start_is_first (codes "end") (codes "end") [] end_words

closed : (hands : List Hand) (others : List ContentLine) → bytes_of_content others ≡ codes "end" ∷ []
    → closed_by hands others ≡ Ok hands
closed hands [] e = absurd cc
closed hands (line ∷ []) e =
    let bytes : line.bytes ≡ codes "end" = cc in
    let says : says_end line.bytes ≡ true = ap says_end bytes ∙ ap are_end end_words in
    rw says refl
closed hands (line ∷ next ∷ others) e = absurd cc

-- ---- each operation with its plan

module _ (plans : List (List Statement)) where
  -- what holds of each of some operations
  each_hand : (P : Hand → Type 0) (ops : List ℕ) → ((op : ℕ) → In op ops → P (hand_at plans op))
      → (hand : Hand) → In hand (map (hand_at plans) ops) → P hand
  each_hand P ops each hand m =
      let found = in_map (hand_at plans) hand ops m in
      subst P (sym found.2) (each found.0 found.1)

  ops_are : (ops : List ℕ) → ops_of (map (hand_at plans) ops) ≡ ops
  ops_are [] = refl
  ops_are (op ∷ ops) = ap (λ (others : List ℕ). op ∷ others) (ops_are ops)

  -- the plan that is written for one of them
  plan_there : (ops : List ℕ) (op : ℕ) → In op ops → plan_for (map (hand_at plans) ops) op ≡ Some (plan_at plans op)
  plan_there [] op m = absurd m
  plan_there (first ∷ ops) op m =
      elim (eqb first op) as (λ v. eqb first op ≡ v → cond v (Some (plan_at plans first)) (plan_for (map (hand_at plans) ops) op) ≡ Some (plan_at plans op)) [
        | true ↦ λ same. ap (λ (n : ℕ). Some (plan_at plans n)) (eqb-true first op same)
        | false ↦ λ differs. plan_there ops op (later differs m)
      ] refl
    where
      later : eqb first op ≡ false → In op (first ∷ ops) → In op ops
      later differs (inl here) = let same = eq-eqb first op (sym here) in absurd cc
      later differs (inr there) = there

module _ (spec : Spec) (plans : List (List Statement)) (of : ArePlansOf spec plans) where
  all_ops : (P : Hand → Type 0) → ((op : ℕ) → op < length spec.ops → P (hand_at plans op))
      → (hand : Hand) → In hand (all_hands spec plans) → P hand
  all_ops P each =
      each_hand plans P (range_with_len 0 (length spec.ops))
      (λ op m. let bounds = in_range_bounds 0 (length spec.ops) op m in each op (omega (arith, bounds.1)))

  -- ---- they are chosen

  pub all_keep : AllKeepRules spec (all_hands spec plans)
  all_keep = all_ops (λ hand. KeepsPlanRules spec (op_at spec hand.op) hand.plan) (λ op below. (of.each op below).rules)

  pub they_are_chosen : (others : List (List Statement)) → AreChosen spec (all_hands spec plans) others
      → (op : ℕ) → op < length spec.ops → plan_at others op ≡ plan_at plans op
  they_are_chosen others chosen op below =
      subst (λ (found : Option (List Statement)). IsChosenBy spec op found (plan_at others op))
      (plan_there plans (range_with_len 0 (length spec.ops)) op (in_range_below (length spec.ops) op below))
      (chosen.each op below)

  -- ---- they are read

  module _ (range : IsInRange spec) (named : IsWellNamed spec) (sets : OpsHaveSets spec plans) (short : OpsAreShort spec plans) where
    are_hands : AreHands spec (all_hands spec plans)
    are_hands = record {
      ops = all_ops (λ hand. hand.op < length spec.ops) (λ op below. below);
      once = subst AreDistinct (sym (ops_are plans (range_with_len 0 (length spec.ops))))
          (distinct_rising (range_with_len 0 (length spec.ops)) (rising_range 0 (length spec.ops)));
      known = all_ops (λ hand. _) (λ op below. (of.each op below).known);
      short = all_ops (λ hand. length hand.plan ≤ 256) short;
    }

    -- the lines in which they are printed
    abbrev plans_lines : List ℕ → List (List ℕ)
    plans_lines ops = flat_map (plan_lines spec) (map (hand_at plans) ops)

    abbrev lines : List (List ℕ)
    lines = plans_lines (range_with_len 0 (length spec.ops)) ++ codes "end" ∷ []

    printed : (ops : List ℕ) → printed_lines (plans_lines ops) ≡ flat_map (op_text spec plans) ops
    printed [] = refl
    printed (op ∷ ops) =
        flat_map-append (λ line. line ++ 10 ∷ []) (plan_lines spec (hand_at plans op)) (plans_lines ops)
        ∙ (λ i. plan_lines_are_printed spec (hand_at plans op) i ++ printed ops i)

    text_is : printed_lines lines ≡ plans_alone spec plans
    text_is =
        flat_map-append (λ line. line ++ 10 ∷ []) (plans_lines (range_with_len 0 (length spec.ops))) (codes "end" ∷ [])
        ∙ ap (λ (text : List ℕ). text ++ printed_lines (codes "end" ∷ [])) (printed (range_with_len 0 (length spec.ops)))

    printable_ops : (ops : List ℕ) → ((op : ℕ) → In op ops → op < length spec.ops)
        → AllByRecursion IsPrintable (plans_lines ops)
    printable_ops [] below = tt
    printable_ops (op ∷ ops) below =
        printable_append (plan_lines spec (hand_at plans op)) (plans_lines ops)
        (printable_plan spec named range op (plan_at plans op) (of.each op (below op (inl refl))).known)
        (printable_ops ops (λ n m. below n (inr m)))

    printable_lines : AllByRecursion IsPrintable lines
    printable_lines =
        printable_append (plans_lines (range_with_len 0 (length spec.ops))) (codes "end" ∷ [])
        (printable_ops (range_with_len 0 (length spec.ops))
        (λ op m. let bounds = in_range_bounds 0 (length spec.ops) op m in omega (arith, bounds.1)))
        (record { bytes = refl; content = refl }, tt)

    content : bytes_of_content (content_from (start_of (plans_alone spec plans))) ≡ lines
    content =
        subst (λ (text : List ℕ). bytes_of_content (content_from (start_of text)) ≡ lines) text_is
        (content-printed 0 1 lines printable_lines)

    pub they_are_taken : plans_of spec (plans_alone spec plans) ≡ Ok (all_hands spec plans)
    they_are_taken =
        let read = all_plans_are_read_back closings.End spec (all_hands spec plans) (codes "end") []
        (start_of (plans_alone spec plans)) range named are_hands (all_ops (λ hand. HaveSets hand.plan) sets) begins_end content in
        ap alone_by read.read ∙ closed (all_hands spec plans) read.others read.left_are

pub printed_plans_are_taken : PrintedPlansAreTaken
printed_plans_are_taken spec plans range named of sets short = they_are_taken spec plans of range named sets short

pub printed_plans_are_chosen : PrintedPlansAreChosen
printed_plans_are_chosen spec plans of = (all_keep spec plans of, they_are_chosen spec plans of)
