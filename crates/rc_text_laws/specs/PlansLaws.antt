-- Plans that are printed are read again.
use Rattle.std.proofs.Common.{◌≡◌, ℕ, ◌+◌, ◌<◌, ◌≤◌, false, nat_le, List, [], ◌∷◌, ◌++◌, length, map, Some, Ok, refl, sym, ap, ◌∙◌, subst, inl, inr, arith, append_assoc, append-nil, codes}
use Rattle.rc_text_laws.specs.Imports.{list_any, flat_map, option_and_then, In, AreDistinct, get_or_in, map_in, ContentLine, content_from, past_end_of, bytes_of_content, Op, Spec, IsInRange, op_names, IsWellNamed, no_op, op_at, plain_words_of, distinct_apart, number_among, Statement, IsKnown, AreKnown, statement_text, Hand, Closing, hands_from, op_in_words, op_in_head, after_op, after_head, with_next, after_statement, reads_head, reads_statement, ends_at, read_hands, read_sets, is_of, ops_of, with_plan, with_statement, last_plan, onto_last, HasSet, HaveSets, BeginsPlan, BeginsOtherwise, Closes, start_is_first}
use Rattle.std.proofs.Math.ListN.{get_or-map}
use Rattle.std.proofs.lemmas.Bool.{lt-leb, ne_eqb}
use Rattle.std.proofs.lemmas.List.Folds.{flat_map-map}
use Rattle.std.proofs.lemmas.List.{length-map, length-append, map-append}
use Rattle.rc_text_laws.specs.NumberedLaws.{number_of_name}
use Rattle.rc_text_laws.specs.PlansRead.{PlansAreReadAgain, plan_lines, AllPlansAreReadBack, PlansAreReadBack, PlanLinesArePrinted}
use Rattle.rc_text_laws.specs.PrintedStatementsLaws.{line_again, statement_begins}
use Rattle.rc_text_laws.specs.WordsLaws.{plain_name, line_is_read}

abbrev hand_of : ℕ → List Statement → Hand
hand_of op plan = record { op = op; plan = plan }

-- ---- the last plan, behind others

last_behind : (front : List Hand) (hand : Hand) → last_plan (front ++ hand ∷ []) ≡ hand.plan
last_behind [] hand = refl
last_behind (first ∷ []) hand = refl
last_behind (first ∷ next ∷ front) hand = last_behind (next ∷ front) hand

onto_behind : (front : List Hand) (hand : Hand) (x : Statement)
    → onto_last (front ++ hand ∷ []) x ≡ front ++ with_statement hand x ∷ []
onto_behind [] hand x = refl
onto_behind (first ∷ []) hand x = refl
onto_behind (first ∷ next ∷ front) hand x = ap (λ (hands : List Hand). first ∷ hands) (onto_behind (next ∷ front) hand x)

some_behind : (front : List Hand) (hand : Hand) → 0 < length (front ++ hand ∷ [])
some_behind front hand = omega (arith, length-append front (hand ∷ []))

-- ---- content lines that have these bytes

record BeginsWith (lines : List ContentLine) (bytes : List ℕ) (others : List (List ℕ)) : Type 0 where
  pub line : ContentLine
  pub behind : List ContentLine
  pub whole : lines ≡ line ∷ behind
  pub bytes_are : line.bytes ≡ bytes
  pub others_are : bytes_of_content behind ≡ others

begins_with : (lines : List ContentLine) (bytes : List ℕ) (others : List (List ℕ))
    → bytes_of_content lines ≡ bytes ∷ others → BeginsWith lines bytes others
begins_with [] bytes others e = absurd cc
begins_with (line ∷ behind) bytes others e =
    record { line = line; behind = behind; whole = refl; bytes_are = cc; others_are = cc }

module _ (closing : Closing) (spec : Spec) (range : IsInRange spec) (named : IsWellNamed spec) (past_end : ℕ) where
  -- ---- a statement

  takes_statement : (front : List Hand) (op : ℕ) (plan : List Statement) (x : Statement) → IsKnown spec x → HasSet x
      → length plan < 256 → after_statement spec (front ++ hand_of op plan ∷ []) (statement_text spec x)
      ≡ Ok (front ++ hand_of op (plan ++ x ∷ []) ∷ [])
  takes_statement front op plan x known set few =
      let hands = front ++ hand_of op plan ∷ [] in
      let free : nat_le 256 (length (last_plan hands)) ≡ false =
      ap (λ (p : List Statement). nat_le 256 (length p)) (last_behind front (hand_of op plan))
      ∙ lt-leb 256 (length plan) few in
      ap (with_next hands) (line_again spec range named x known set)
      ∙ rw free (ap (λ (h : List Hand). Ok h) (onto_behind front (hand_of op plan) x))

  -- what statements leave of lines that begin with theirs
  record ReadsOn (hands : List Hand) (lines : List ContentLine) (next : List Hand) (left : List (List ℕ)) : Type 0 where
    pub others : List ContentLine
    pub goes_on : hands_from closing spec past_end hands lines ≡ hands_from closing spec past_end next others
    pub left_are : bytes_of_content others ≡ left

  statements_read : (front : List Hand) (op : ℕ) (plan more : List Statement) (lines : List ContentLine)
      (left : List (List ℕ)) → AreKnown spec more → HaveSets more → length plan + length more ≤ 256
      → bytes_of_content lines ≡ map (statement_text spec) more ++ left
      → ReadsOn (front ++ hand_of op plan ∷ []) lines (front ++ hand_of op (plan ++ more) ∷ []) left
  statements_read front op plan [] lines left known sets few e = record {
    others = lines;
    goes_on = ap (λ (p : List Statement). hands_from closing spec past_end (front ++ hand_of op p ∷ []) lines) (sym (append-nil plan));
    left_are = e;
  }
  statements_read front op plan (x ∷ more) lines left known sets few e =
      let first = begins_with lines (statement_text spec x) (map (statement_text spec) more ++ left) e in
      let count = length-append plan (x ∷ []) in
      let rest = statements_read front op (plan ++ x ∷ []) more first.behind left (λ y m. known y (inr m))
      (λ y m. sets y (inr m)) (omega arith) first.others_are in
      let one = reads_statement closing spec past_end (front ++ hand_of op plan ∷ []) first.line first.behind
      (front ++ hand_of op (plan ++ x ∷ []) ∷ [])
      (subst BeginsOtherwise (sym first.bytes_are) (statement_begins spec range named x (known x (inl refl))))
      (some_behind front (hand_of op plan))
      (ap (after_statement spec (front ++ hand_of op plan ∷ [])) first.bytes_are
      ∙ takes_statement front op plan x (known x (inl refl)) (sets x (inl refl)) (omega arith)) in
      record {
        others = rest.others;
        goes_on = ap (hands_from closing spec past_end (front ++ hand_of op plan ∷ [])) first.whole ∙ one ∙ rest.goes_on
            ∙ ap (λ (p : List Statement). hands_from closing spec past_end (front ++ hand_of op p ∷ []) rest.others)
            (append_assoc plan (x ∷ []) more);
        left_are = rest.left_are;
      }

  -- ---- a head

  head_words : (op : ℕ) → op < length spec.ops
      → plain_words_of (codes "plan " ++ (op_at spec op).name) ≡ Some (codes "plan" ∷ (op_at spec op).name ∷ [])
  head_words op below =
      line_is_read (codes "plan" ∷ (op_at spec op).name ∷ []) (
        (refl, refl),
        (
          plain_name (op_at spec op).name (named.ops.each (op_at spec op).name
              (map_in (λ (o : Op). o.name) (op_at spec op) spec.ops (get_or_in spec.ops op no_op below))),
          tt,
        ),
      )

  head_op : (op : ℕ) → op < length spec.ops → op_in_head spec (codes "plan " ++ (op_at spec op).name) ≡ Some op
  head_op op below =
      ap (option_and_then (op_in_words spec)) (head_words op below)
      ∙ ap (number_among (op_names spec.ops)) (sym (get_or-map (λ (o : Op). o.name) spec.ops op no_op))
      ∙ number_of_name (op_names spec.ops) op named.ops.distinct (omega (arith, length-map spec.ops (λ (o : Op). o.name)))

  new_op : (hands : List Hand) (op : ℕ) → (In op (ops_of hands) → ⊥) → list_any (is_of op) hands ≡ false
  new_op [] op new = refl
  new_op (hand ∷ hands) op new =
      rw (ne_eqb hand.op op (λ e. new (inl (sym e)))) (new_op hands op (λ m. new (inr m)))

  takes_head : (front : List Hand) (op : ℕ) → op < length spec.ops → (In op (ops_of front) → ⊥)
      → after_head spec front (codes "plan " ++ (op_at spec op).name) ≡ Ok (with_plan front op)
  takes_head front op below new = ap (after_op front) (head_op op below) ∙ rw (new_op front op new) refl

  head_begins : (op : ℕ) → op < length spec.ops → BeginsPlan (codes "plan " ++ (op_at spec op).name)
  head_begins op below =
      start_is_first (codes "plan " ++ (op_at spec op).name) (codes "plan") ((op_at spec op).name ∷ []) (head_words op below)

  -- ---- plans

  -- a plan of an operation that can be printed
  record CanBePrinted (hand : Hand) : Type 0 where
    pub below : hand.op < length spec.ops
    pub known : AreKnown spec hand.plan
    pub sets : HaveSets hand.plan
    pub short : length hand.plan ≤ 256

  -- the lines of a plan are read
  plan_read : (front : List Hand) (hand : Hand) (lines : List ContentLine) (left : List (List ℕ)) → CanBePrinted hand
      → (In hand.op (ops_of front) → ⊥) → bytes_of_content lines ≡ plan_lines spec hand ++ left
      → ReadsOn front lines (front ++ hand ∷ []) left
  plan_read front hand lines left can new e =
      let first = begins_with lines (codes "plan " ++ (op_at spec hand.op).name)
      (map (statement_text spec) hand.plan ++ left) e in
      let head = reads_head closing spec past_end front first.line first.behind (with_plan front hand.op)
      (subst BeginsPlan (sym first.bytes_are) (head_begins hand.op can.below))
      (ap (after_head spec front) first.bytes_are ∙ takes_head front hand.op can.below new) in
      let rest = statements_read front hand.op [] hand.plan first.behind left can.known can.sets (omega (arith, can.short)) first.others_are in
      record {
        others = rest.others;
        goes_on = ap (hands_from closing spec past_end front) first.whole ∙ head ∙ rest.goes_on;
        left_are = rest.left_are;
      }

  -- what plans leave, of lines that begin with theirs and in which one that closes them comes next
  record ReadsAll (hands : List Hand) (lines : List ContentLine) (all : List Hand) (left : List (List ℕ)) : Type 0 where
    pub others : List ContentLine
    pub read : hands_from closing spec past_end hands lines ≡ Ok (record { hands = all; others = others })
    pub left_are : bytes_of_content others ≡ left

  plans_read : (front hands : List Hand) (lines : List ContentLine) (last : List ℕ) (others : List (List ℕ))
      → ((hand : Hand) → In hand hands → CanBePrinted hand) → AreDistinct (ops_of (front ++ hands)) → Closes closing last
      → bytes_of_content lines ≡ flat_map (plan_lines spec) hands ++ last ∷ others
      → ReadsAll front lines (front ++ hands) (last ∷ others)
  plans_read front [] lines last others can once closes e =
      let first = begins_with lines last others e in
      record {
        others = lines;
        read = ap (hands_from closing spec past_end front) first.whole
            ∙ ends_at closing spec past_end front first.line first.behind (subst (Closes closing) (sym first.bytes_are) closes)
            ∙ ap (λ (xs : List ContentLine). Ok (record { hands = front; others = xs })) (sym first.whole)
            ∙ ap (λ (h : List Hand). Ok (record { hands = h; others = lines })) (sym (append-nil front));
        left_are = e;
      }
  plans_read front (hand ∷ hands) lines last others can once closes e =
      let apart = subst AreDistinct (map-append (λ (h : Hand). h.op) front (hand ∷ hands)) once in
      let new : In hand.op (ops_of front) → ⊥ = λ m.
      distinct_apart (ops_of front) (ops_of (hand ∷ hands)) apart hand.op m (inl refl) in
      let one = plan_read front hand lines (flat_map (plan_lines spec) hands ++ last ∷ others) (can hand (inl refl)) new
      (e ∙ append_assoc (plan_lines spec hand) (flat_map (plan_lines spec) hands) (last ∷ others)) in
      let whole = append_assoc front (hand ∷ []) hands in
      let rest = plans_read (front ++ hand ∷ []) hands one.others last others (λ h m. can h (inr m))
      (subst (λ (h : List Hand). AreDistinct (ops_of h)) (sym whole) once) closes one.left_are in
      record {
        others = rest.others;
        read = one.goes_on ∙ rest.read
            ∙ ap (λ (h : List Hand). Ok (record { hands = h; others = rest.others })) whole;
        left_are = rest.left_are;
      }

pub all_plans_are_read_back : AllPlansAreReadBack
all_plans_are_read_back closing spec hands last others place range named are sets closes e =
    let read = plans_read closing spec range named (past_end_of place.text) [] hands (content_from place) last others
    (λ hand m. record {
      below = are.ops hand m;
      known = are.known hand m;
      sets = sets hand m;
      short = are.short hand m;
    }) are.once closes e in
    record { others = read.others; read = read.read; left_are = read.left_are }

pub plans_are_read_back : PlansAreReadBack
plans_are_read_back closing spec op plan last others place range named below known sets short closes e =
    let hand = hand_of op plan in
    let only : (P : Hand → Type 0) → P hand → (h : Hand) → In h (hand ∷ []) → P h = λ P here h m.
    elim m [ inl same ↦ subst P (sym same) here | inr none ↦ absurd none ] in
    all_plans_are_read_back closing spec (hand ∷ []) last others place range named
    (record {
      ops = only (λ (h : Hand). h.op < length spec.ops) below;
      once = ((λ m. m), tt);
      known = only (λ (h : Hand). AreKnown spec h.plan) known;
      short = only (λ (h : Hand). length h.plan ≤ 256) short;
    }) (only (λ (h : Hand). HaveSets h.plan) sets) closes
    (e ∙ ap (λ (lines : List (List ℕ)). lines ++ last ∷ others) (sym (append-nil (plan_lines spec hand))))

pub plans_are_read_again : PlansAreReadAgain
plans_are_read_again closing spec first reading last others place range named e closes lines =
    all_plans_are_read_back closing spec reading.hands last others place range named (read_hands spec closing first reading e)
    (read_sets spec closing first reading e) closes lines

pub plan_lines_are_printed : PlanLinesArePrinted
plan_lines_are_printed spec hand =
    let feed : List ℕ → List ℕ = λ line. line ++ 10 ∷ [] in
    ap (λ (lines : List ℕ). ((codes "plan " ++ (op_at spec hand.op).name) ++ 10 ∷ []) ++ lines)
    (flat_map-map feed (statement_text spec) hand.plan)
