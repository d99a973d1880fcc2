-- Plans that are read are plans of operations, each of its own, and name what the specification has.
use Rattle.std.proofs.Common.{◌≡◌, ℕ, ◌<◌, ◌≤◌, Bool, true, false, ◌||◌, nat_le, cond, eqb, List, [], ◌∷◌, length, Option, Some, None, Result, Ok, Err, refl, sym, ap, subst, inl, inr, arith}
use Rattle.std.specs.Prelude.{◌&&◌}
use Rattle.rc_handplan.specs.Imports.{list_any, option_map, option_and_then, ok_or, Within, in_range_below, Lock, Probe, Read, CheckAbsent, CheckFound, CheckDep, Apply, Emit, Commit, Release, nat_cmp, broken_at, Keeps, read_keeps, TextPlace, content_from, past_end_of, u64_of, NumFault, In, IsRising, AreDistinct, gather, nat_order, in_gather, rising_gather, all_columns, column_names, edge_names, class_names, op_names, Op, Class, Column, Edge, Spec, plain_words_of, each_push, distinct_push, numbers_of, has_unknown, names_twice, number_among-below, numbers_of-below, Statement, IsKnown, AreKnown}
use Rattle.std.proofs.lemmas.Option.{cond_some, same_Some, option_and_then_some}
use Rattle.rc_handplan.specs.declared.refusal.HandRule.TheVariants.{H1, H3, H4, S8}
use Rattle.std.proofs.lemmas.Bool.{and_parts, or_parts, leb-true, leb-false, eq-eqb}
use Rattle.std.proofs.lemmas.List.{length-map, length-append, map_push}
use Rattle.rc_handplan.specs.declared.hand.Hand.{Hand}
use Rattle.rc_handplan.specs.declared.refusal.HandRule.{HandRule}
use Rattle.rc_handplan.specs.declared.starts.Closing.{Closing}
use Rattle.rc_handplan.specs.declared.starts.LineStart.{LineStart}
use Rattle.rc_handplan.specs.declared.starts.LineStart.TheVariants as starts
use Rattle.rc_handplan.specs.Forms.{StatementForm, lock_form, probe_form, read_form, absent_form, found_form, check_form, apply_form, emit_form, commit_form, release_form, form_of}
use Rattle.rc_handplan.specs.HandGrammar.{After, HandReading, hand_language, hands_from, hands_reading_to, op_in_words, op_in_head, after_op, statement_by, statement_in, with_next, after_statement, after_start, after_line, going_on}
use Rattle.rc_handplan.specs.Hands.{is_of, ops_of, with_plan, with_statement, last_plan, onto_last, AreHands, HasSet, HaveSets, AllHaveSets}
use Rattle.rc_handplan.specs.Starts.{line_start, ends_plans}
use Rattle.rc_handplan.specs.Statements.{class_named, edge_named, columns_named, dependency_by, dependency_named, statement_of}

-- what a condition let through
cond_none : {A : Type 0} (b : Bool) (x y : A) → cond b None (Some x) ≡ Some y → x ≡ y
cond_none true x y e = absurd cc
cond_none false x y e = same_Some x y e

abbrev ok_of : {A E : Type 0} → A → Result A E
ok_of x = Ok x

same_Ok : {A E : Type 0} (x y : A) → ok_of {E = E} x ≡ Ok y → x ≡ y
same_Ok x y e = cc

-- what is made of what is found
mapped : {A B : Type 0} (P : B → Type 0) (f : A → B) (found : Option A) (y : B) → option_map f found ≡ Some y
    → ((x : A) → found ≡ Some x → P (f x)) → P y
mapped P f None y e h = absurd cc
mapped P f (Some x) y e h = subst P (same_Some (f x) y e) (h x refl)

-- ---- a statement

module _ (spec : Spec) where
  class_below : (name : List ℕ) (c : ℕ) → class_named spec name ≡ Some c → c < length spec.classes
  class_below name c e =
      let below = number_among-below (class_names spec.classes) name c e in
      omega (arith, length-map spec.classes (λ (class : Class). class.name))

  edge_below : (name : List ℕ) (n : ℕ) → edge_named spec name ≡ Some n → n < length spec.edges
  edge_below name n e =
      let below = number_among-below (edge_names spec.edges) name n e in
      omega (arith, length-map spec.edges (λ (edge : Edge). edge.name))

  columns_known : (words : List (List ℕ)) (columns : List ℕ) → columns_named spec words ≡ Some columns
      → Within columns (all_columns spec)
  columns_known words columns e c m =
      let names = column_names spec.columns in
      let set = cond_none (has_unknown names words || names_twice names words) (gather nat_cmp (numbers_of names words))
      columns e in
      let below = numbers_of-below names words c (in_gather nat_cmp nat_order c (numbers_of names words)
      (subst (In c) (sym set) m)) in
      in_range_below (length spec.columns) c (omega (arith, length-map spec.columns (λ (column : Column). column.name)))

  dependency_below : (found : Result ℕ NumFault) (n : ℕ) → dependency_by (length spec.deps) found ≡ Some n
      → (0 < n) × (n ≤ length spec.deps)
  dependency_below (Err fault) n e = absurd cc
  dependency_below (Ok number) n e =
      let both = cond_some (nat_le 1 number && nat_le number (length spec.deps)) number n e in
      let parts = and_parts (nat_le 1 number) (nat_le number (length spec.deps)) both.0 in
      let first = leb-true 1 number parts.0 in
      let last = leb-true number (length spec.deps) parts.1 in
      (omega (arith, both.1), omega (arith, both.1))

  -- a statement that is read names what the specification has
  known_statement : (form : StatementForm) (statement : Statement) → statement_of spec form ≡ Some statement
      → IsKnown spec statement
  known_statement (lock_form class choice mode) statement e =
      mapped (IsKnown spec) (λ number. Lock number choice mode) (class_named spec class) statement e (class_below class)
  known_statement (probe_form columns) statement e =
      mapped (IsKnown spec) Probe (columns_named spec columns) statement e (columns_known columns)
  known_statement (read_form edge mode) statement e =
      mapped (IsKnown spec) (λ number. Read number mode) (edge_named spec edge) statement e (edge_below edge)
  known_statement absent_form statement e = subst (IsKnown spec) (same_Some CheckAbsent statement e) tt
  known_statement found_form statement e = subst (IsKnown spec) (same_Some CheckFound statement e) tt
  known_statement (check_form digits) statement e =
      mapped (IsKnown spec) CheckDep (dependency_named spec digits) statement e (dependency_below (u64_of digits))
  known_statement apply_form statement e = subst (IsKnown spec) (same_Some Apply statement e) tt
  known_statement emit_form statement e = subst (IsKnown spec) (same_Some Emit statement e) tt
  known_statement commit_form statement e = subst (IsKnown spec) (same_Some Commit statement e) tt
  known_statement (release_form class) statement e =
      mapped (IsKnown spec) Release (class_named spec class) statement e (class_below class)

-- a statement that some line writes
abbrev pub IsReadFrom : Spec → Statement → Type 0
IsReadFrom spec statement = (form : StatementForm) × (statement_of spec form ≡ Some statement)

-- ---- the plans

-- the operations stay where the last plan grows
ops_of-onto_last : (hands : List Hand) (statement : Statement) → ops_of (onto_last hands statement) ≡ ops_of hands
ops_of-onto_last [] statement = refl
ops_of-onto_last (hand ∷ []) statement = refl
ops_of-onto_last (hand ∷ next ∷ hands) statement =
    ap (λ (ops : List ℕ). hand.op ∷ ops) (ops_of-onto_last (next ∷ hands) statement)

-- what holds of each plan, and of the last with one statement more
each_onto_last : (P : Hand → Type 0) (hands : List Hand) (statement : Statement) → ((hand : Hand) → In hand hands → P hand)
    → ((hand : Hand) → hand.plan ≡ last_plan hands → P hand → P (with_statement hand statement))
    → (hand : Hand) → In hand (onto_last hands statement) → P hand
each_onto_last P [] statement all more hand m = absurd m
each_onto_last P (only ∷ []) statement all more hand (inl e) = subst P (sym e) (more only refl (all only (inl refl)))
each_onto_last P (only ∷ []) statement all more hand (inr m) = absurd m
each_onto_last P (first ∷ next ∷ hands) statement all more hand (inl e) = all hand (inl e)
each_onto_last P (first ∷ next ∷ hands) statement all more hand (inr m) =
    each_onto_last P (next ∷ hands) statement (λ other n. all other (inr n)) more hand m

-- an operation that has no plan
new_op : (hands : List Hand) (op : ℕ) → list_any (is_of op) hands ≡ false → In op (ops_of hands) → ⊥
new_op [] op e m = m
new_op (hand ∷ hands) op e m =
    let parts = or_parts (is_of op hand) (list_any (is_of op) hands) e in
    elim m [
      | inl here ↦ (let same = eq-eqb hand.op op (sym here) in absurd cc)
      | inr later ↦ new_op hands op parts.1 later
    ]

-- ---- what each line keeps

-- a fact of plans that stays where one is begun behind them, and where the last gets one statement more
module _ (spec : Spec) (Q : List Hand → Type 0)
    (with_one : (hands : List Hand) (op : ℕ) → Q hands → op < length spec.ops → list_any (is_of op) hands ≡ false
    → Q (with_plan hands op))
    (with_more : (hands : List Hand) (statement : Statement) → Q hands → IsReadFrom spec statement
    → nat_le 256 (length (last_plan hands)) ≡ false → Q (onto_last hands statement))
  where
    told_statement : (found : Option Statement) (statement : Statement) → ok_or found H3 ≡ Ok statement
        → found ≡ Some statement
    told_statement None statement e = absurd cc
    told_statement (Some x) statement e = ap (λ (y : Statement). Some y) (same_Ok x statement e)

    read_by : (form : Option StatementForm) (statement : Statement) → statement_by spec form ≡ Ok statement
        → IsReadFrom spec statement
    read_by None statement e = absurd cc
    read_by (Some form) statement e = (form, told_statement (statement_of spec form) statement e)

    op_below : (words : List (List ℕ)) (op : ℕ) → op_in_words spec words ≡ Some op → op < length spec.ops
    op_below [] op e = absurd cc
    op_below (first ∷ []) op e = absurd cc
    op_below (first ∷ name ∷ []) op e =
        let below = number_among-below (op_names spec.ops) name op e in
        omega (arith, length-map spec.ops (λ (o : Op). o.name))
    op_below (first ∷ name ∷ third ∷ words) op e = absurd cc

    head_below : (bytes : List ℕ) (op : ℕ) → op_in_head spec bytes ≡ Some op → op < length spec.ops
    head_below bytes op e =
        option_and_then_some (op_in_words spec) (plain_words_of bytes) op e (λ words is found. op_below words op found)

    kept_by_op : (hands : List Hand) (op : Option ℕ) (next : List Hand) → Q hands
        → ((n : ℕ) → op ≡ Some n → n < length spec.ops) → after_op hands op ≡ Ok next → Q next
    kept_by_op hands None next are below e = absurd cc
    kept_by_op hands (Some op) next are below e =
        elim (list_any (is_of op) hands) as (λ v. list_any (is_of op) hands ≡ v → cond v (Err H1) (Ok (with_plan hands op)) ≡ Ok next → Q next) [
          | true ↦ λ _ h. absurd cc
          | false ↦ λ new h. subst Q (same_Ok (with_plan hands op) next h) (with_one hands op are (below op refl) new)
        ] refl e

    kept_by_statement : (hands : List Hand) (gives : Result Statement HandRule) (next : List Hand) → Q hands
        → ((statement : Statement) → gives ≡ Ok statement → IsReadFrom spec statement) → with_next hands gives ≡ Ok next
        → Q next
    kept_by_statement hands (Err rule) next are known e = absurd cc
    kept_by_statement hands (Ok statement) next are known e =
        elim (nat_le 256 (length (last_plan hands))) as (λ v. nat_le 256 (length (last_plan hands)) ≡ v → cond v (Err H4) (Ok (onto_last hands statement)) ≡ Ok next → Q next) [
          | true ↦ λ _ h. absurd cc
          | false ↦ λ free h. subst Q (same_Ok (onto_last hands statement) next h) (with_more hands statement are (known statement refl) free)
        ] refl e

    kept_statement : (hands : List Hand) (bytes : List ℕ) (next : List Hand) → Q hands
        → after_statement spec hands bytes ≡ Ok next → Q next
    kept_statement hands bytes next are e =
        kept_by_statement hands (statement_in spec bytes) next are
        (λ statement gives. read_by (option_and_then form_of (plain_words_of bytes)) statement gives) e

    kept_start : (hands : List Hand) (start : LineStart) (bytes : List ℕ) (next : List Hand) → Q hands
        → after_start spec hands start bytes ≡ Ok next → Q next
    kept_start hands starts.Plan bytes next are e =
        kept_by_op hands (op_in_head spec bytes) next are (head_below bytes) e
    kept_start hands starts.Work bytes next are e = kept_statement hands bytes next are e
    kept_start hands starts.End bytes next are e = kept_statement hands bytes next are e
    kept_start hands starts.Other bytes next are e = kept_statement hands bytes next are e

    kept_going : (gives : Result (List Hand) HandRule) (after : After) → going_on gives ≡ Ok after
        → gives ≡ Ok after.hands
    kept_going (Err rule) after e = absurd cc
    kept_going (Ok hands) after e = ap (λ (a : After). Ok a.hands) (same_Ok (record { ended = false; hands = hands }) after e)

    -- each line keeps it
    kept_line : (closing : Closing) → Keeps (hand_language closing spec) Q
    unfolding after_line
    kept_line closing hands bytes after are e =
        elim (ends_plans closing hands (line_start bytes)) as (λ v. cond v (Ok (record { ended = true; hands = hands })) (going_on (after_line spec hands bytes)) ≡ Ok after → Q after.hands) [
          | true ↦ λ h. subst Q (ap (λ (a : After). a.hands) (same_Ok (record { ended = true; hands = hands }) after h)) are
          | false ↦ λ h. kept_start hands (line_start bytes) bytes after.hands are (kept_going (after_line spec hands bytes) after h)
        ] e

    out_keeps : (closing : Closing) (past_end : ℕ) (hands : List Hand) (reading : HandReading) → Q hands
        → (hand_language closing spec).out past_end hands ≡ Ok reading → Q reading.hands
    out_keeps closing past_end hands reading are e =
        elim (eqb (length hands) 0) as (λ v. cond v (Ok (record { hands = hands; others = [] })) (broken_at S8 past_end) ≡ Ok reading → Q reading.hands) [
          | true ↦ λ h. subst Q (ap (λ (r : HandReading). r.hands) (same_Ok (record { hands = hands; others = [] }) reading h)) are
          | false ↦ λ h. absurd cc
        ] e

    -- so has what is read
    read_has : Q [] → (closing : Closing) (place : TextPlace) (reading : HandReading)
        → hands_reading_to closing spec place ≡ Ok reading → Q reading.hands
    unfolding hands_from
    read_has none_yet closing place reading e =
        read_keeps (hand_language closing spec) Q (λ (r : HandReading). Q r.hands) (kept_line closing)
        (λ hands last others are. are) (out_keeps closing) (past_end_of place.text) [] (content_from place) reading none_yet e

-- ---- plans that are read

module _ (spec : Spec) where
  with_hand : (hands : List Hand) (op : ℕ) → AreHands spec hands → op < length spec.ops
      → list_any (is_of op) hands ≡ false → AreHands spec (with_plan hands op)
  with_hand hands op are below new =
      let more : Hand = record { op = op; plan = [] } in record {
        ops = each_push (λ (hand : Hand). hand.op < length spec.ops) hands more are.ops below;
        once = subst AreDistinct (sym (map_push (λ (hand : Hand). hand.op) hands more))
            (distinct_push (ops_of hands) op are.once (new_op hands op new));
        known = each_push (λ (hand : Hand). AreKnown spec hand.plan) hands more are.known (λ x m. absurd m);
        short = each_push (λ (hand : Hand). length hand.plan ≤ 256) hands more are.short (omega arith);
      }

  with_more : (hands : List Hand) (statement : Statement) → AreHands spec hands → IsReadFrom spec statement
      → nat_le 256 (length (last_plan hands)) ≡ false → AreHands spec (onto_last hands statement)
  with_more hands statement are (form, e) short = record {
    ops = each_onto_last (λ (hand : Hand). hand.op < length spec.ops) hands statement are.ops (λ hand last below. below);
    once = subst AreDistinct (sym (ops_of-onto_last hands statement)) are.once;
    known = each_onto_last (λ (hand : Hand). AreKnown spec hand.plan) hands statement are.known
        (λ hand last all. each_push (IsKnown spec) hand.plan statement all (known_statement spec form statement e));
    short = each_onto_last (λ (hand : Hand). length hand.plan ≤ 256) hands statement are.short
        (λ hand last few.
        let free = leb-false 256 (length (last_plan hands)) short in
        let count = ap length last in
        omega (arith, length-append hand.plan (statement ∷ [])));
  }

  -- they are plans of operations
  pub read_hands : (closing : Closing) (place : TextPlace) (reading : HandReading)
      → hands_reading_to closing spec place ≡ Ok reading → AreHands spec reading.hands
  read_hands closing place reading e =
      read_has spec (AreHands spec) with_hand with_more
      (record { ops = λ hand m. absurd m; once = tt; known = λ hand m. absurd m; short = λ hand m. absurd m })
      closing place reading e

  set_by : (words : List (List ℕ)) (columns : List ℕ) → columns_named spec words ≡ Some columns → IsRising nat_cmp columns
  set_by words columns e =
      let names = column_names spec.columns in
      let set = cond_none (has_unknown names words || names_twice names words) (gather nat_cmp (numbers_of names words))
      columns e in
      subst (IsRising nat_cmp) set (rising_gather nat_cmp nat_order (numbers_of names words))

  has_set : (form : StatementForm) (statement : Statement) → statement_of spec form ≡ Some statement → HasSet statement
  has_set (lock_form class choice mode) statement e =
      mapped HasSet (λ number. Lock number choice mode) (class_named spec class) statement e (λ n is. tt)
  has_set (probe_form columns) statement e =
      mapped HasSet Probe (columns_named spec columns) statement e (set_by columns)
  has_set (read_form edge mode) statement e =
      mapped HasSet (λ number. Read number mode) (edge_named spec edge) statement e (λ n is. tt)
  has_set absent_form statement e = subst HasSet (same_Some CheckAbsent statement e) tt
  has_set found_form statement e = subst HasSet (same_Some CheckFound statement e) tt
  has_set (check_form digits) statement e =
      mapped HasSet CheckDep (dependency_named spec digits) statement e (λ n is. tt)
  has_set apply_form statement e = subst HasSet (same_Some Apply statement e) tt
  has_set emit_form statement e = subst HasSet (same_Some Emit statement e) tt
  has_set commit_form statement e = subst HasSet (same_Some Commit statement e) tt
  has_set (release_form class) statement e =
      mapped HasSet Release (class_named spec class) statement e (λ n is. tt)

  -- and the columns of their Probes are sets
  pub read_sets : (closing : Closing) (place : TextPlace) (reading : HandReading)
      → hands_reading_to closing spec place ≡ Ok reading → AllHaveSets reading.hands
  read_sets closing place reading e =
      read_has spec AllHaveSets
      (λ hands op are below new. each_push (λ (hand : Hand). HaveSets hand.plan) hands _ are (λ x m. absurd m))
      (λ hands statement are from free.
      each_onto_last (λ (hand : Hand). HaveSets hand.plan) hands statement are
      (λ hand last all. each_push HasSet hand.plan statement all (has_set from.0 statement from.1)))
      (λ hand m. absurd m) closing place reading e
