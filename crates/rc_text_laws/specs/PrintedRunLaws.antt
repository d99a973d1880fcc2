-- Each line that is printed of a run is read again where it is printed.
use Rattle.std.proofs.Common.{◌≡◌, ℕ, zero, suc, ◌+◌, ◌<◌, ◌≤◌, ◌^◌, Bool, true, false, cond, leb, List, [], ◌∷◌, ◌++◌, length, map, get_or, refl, ap, subst, inl, inr, arith}
use Rattle.rc_text_laws.specs.Imports.{codes, nat_le, is_ascii_digit, decimal, AllByRecursion, enumerate_from, flat_map, list_all, In, Pairs, is_text_byte, IsPrintable, is_content, Mode, Shared, Exclusive, Class, Column, Edge, Op, Spec, edge_at, no_edge, IsInRange, IsWellNamed, is_name, class_at, no_class, no_op, op_at, no_column, ReadMode, Lookup, Scan, Statement, Lock, Probe, Read, CheckAbsent, CheckFound, CheckDep, Apply, Emit, Commit, Release, Which, AreKnown, IsKnown, column_text, lock_mode_text, read_mode_text, statement_text, which_text, Entry, Step, digits, row_text, spaced, step_words, entry_lines, final_lines, group_head, head_lines, journal_lines, step_line}
use Rattle.std.proofs.lemmas.Bool.{and_parts, leb-true, ne_eqb}
use Rattle.std.proofs.lemmas.Fmt.{decimal_nonempty}
use Rattle.rc_plan.specs.declared.statement.Which.TheVariants as which
use Rattle.rc_work.specs.Report.{report}
use Rattle.rc_text_laws.specs.TextsLaws.{AreText, text_append, text_decimal}
use Rattle.rc_text_laws.specs.WordsLaws.{plain_name, text_word}

-- ---- lines that begin with content

abbrev pub AreContent : List (List ℕ) → Type 0
AreContent lines = AllByRecursion (λ line. is_content line ≡ true) lines

content_append : (xs ys : List (List ℕ)) → AreContent xs → AreContent ys → AreContent (xs ++ ys)
content_append [] ys h k = k
content_append (x ∷ xs) ys h k = (h.0, content_append xs ys h.1 k)

-- a number in digits is no blank, and no `#`
content_digits : (n : ℕ) (rest : List ℕ) → n < 2 ^ 64 → is_content (decimal n ++ rest) ≡ true
content_digits n rest small = by (decimal n) refl
  where
    by : (ds : List ℕ) → decimal n ≡ ds → is_content (ds ++ rest) ≡ true
    by [] none = absurd (let some = decimal_nonempty n small in let none_there = ap length none in omega (arith, some, none_there))
    by (d ∷ ds) is =
        let all : list_all is_ascii_digit (d ∷ ds) ≡ true = subst (λ (l : List ℕ). list_all is_ascii_digit l ≡ true) is (digits n small) in
        let digit = and_parts (leb 48 d) (leb d 57) (and_parts (is_ascii_digit d) (list_all is_ascii_digit ds) all).0 in
        let low : 48 ≤ d = leb-true 48 d digit.0 in
        rw (ne_eqb d 32 (omega (arith, low)), ne_eqb d 9 (omega (arith, low)), ne_eqb d 35 (omega (arith, low))) refl

module _ (spec : Spec) (texts : List (List ℕ)) where
  content_steps : (place thread : ℕ) (steps : List Step) → place < 2 ^ 64 → AreContent (map (step_line spec texts place thread) steps)
  content_steps place thread [] small = tt
  content_steps place thread (step ∷ steps) small =
      (content_digits place (spaced (decimal thread ∷ step_words spec texts step)) small, content_steps place thread steps small)

  content_head : (place : ℕ) (e : Entry) (many : Bool) → place < 2 ^ 64 → AreContent (cond many (group_head place e.pass (length e.steps) ∷ []) [])
  content_head place e true small = (content_digits place (spaced (decimal e.pass ∷ codes "&" ∷ decimal (length e.steps) ∷ [])) small, tt)
  content_head place e false small = tt

  content_entries : (n : ℕ) (history : List Entry) → n + length history ≤ 2 ^ 64
      → AreContent (flat_map (λ e. entry_lines spec texts e.0 e.1) (enumerate_from n history))
  content_entries n [] small = tt
  content_entries n (e ∷ history) small =
      content_append (entry_lines spec texts n e) (flat_map (λ x. entry_lines spec texts x.0 x.1) (enumerate_from (n + 1) history))
      (content_append (head_lines n e) (map (step_line spec texts n e.pass) e.steps)
      (content_head n e (nat_le 2 (length e.steps)) (omega (arith, small))) (content_steps n e.pass e.steps (omega (arith, small))))
      (content_entries (n + 1) history (omega (arith, small)))

  content_rows : (rows : List Pairs) → AreContent (map (row_text spec texts) rows)
  content_rows [] = tt
  content_rows (row ∷ rows) = (refl, content_rows rows)

  pub content_report : (history : List Entry) (rows : List Pairs) → length history < 2 ^ 64 → AreContent (report spec texts history rows)
  unfolding report
  content_report history rows small = (
    refl,
    content_append (journal_lines spec texts history) (final_lines spec texts rows) (content_entries 0 history (omega (arith, small)))
        (refl, content_append (map (row_text spec texts) rows) (codes "end" ∷ []) (content_rows rows) (refl, tt)),
  )

-- ---- lines of plans

module _ (spec : Spec) (named : IsWellNamed spec) (ranged : IsInRange spec) where
  -- the name of an item, or of none
  named_at : {A : Type 0} (name_of : A → List ℕ) (items : List A) (none : A) (n : ℕ) → name_of none ≡ []
      → ((name : List ℕ) → In name (map name_of items) → is_name name ≡ true) → list_all is_text_byte (name_of (get_or items n none)) ≡ true
  named_at name_of [] none n empty each = ap (list_all is_text_byte) empty
  named_at name_of (x ∷ items) none zero empty each = text_word (name_of x) (plain_name (name_of x) (each (name_of x) (inl refl)))
  named_at name_of (x ∷ items) none (suc n) empty each = named_at name_of items none n empty (λ name m. each name (inr m))

  text_class : (c : ℕ) → list_all is_text_byte (class_at spec c).name ≡ true
  text_class c = named_at (λ (x : Class). x.name) spec.classes no_class c refl named.classes.each

  text_edge : (e : ℕ) → list_all is_text_byte (edge_at spec e).name ≡ true
  text_edge e = named_at (λ (x : Edge). x.name) spec.edges no_edge e refl named.edges.each

  text_column : (c : ℕ) → list_all is_text_byte (get_or spec.columns c no_column).name ≡ true
  text_column c = named_at (λ (x : Column). x.name) spec.columns no_column c refl named.columns.each

  text_op : (op : ℕ) → list_all is_text_byte (op_at spec op).name ≡ true
  text_op op = named_at (λ (x : Op). x.name) spec.ops no_op op refl named.ops.each

  text_columns : (cols : List ℕ) → list_all is_text_byte (flat_map (column_text spec) cols) ≡ true
  text_columns [] = refl
  text_columns (c ∷ cols) = text_append (column_text spec c) (flat_map (column_text spec) cols) (text_column c) (text_columns cols)

  text_which : (choice : Which) → list_all is_text_byte (which_text choice) ≡ true
  text_which which.Keyed = refl
  text_which which.All = refl

  text_mode : (mode : Mode) → list_all is_text_byte (lock_mode_text mode) ≡ true
  text_mode Shared = refl
  text_mode Exclusive = refl

  text_read : (mode : ReadMode) → list_all is_text_byte (read_mode_text mode) ≡ true
  text_read Lookup = refl
  text_read Scan = refl

  text_statement : (x : Statement) → IsKnown spec x → list_all is_text_byte (statement_text spec x) ≡ true
  text_statement (Lock c choice mode) known =
      text_append ((class_at spec c).name ++ which_text choice) (lock_mode_text mode)
      (text_append (class_at spec c).name (which_text choice) (text_class c) (text_which choice)) (text_mode mode)
  text_statement (Probe cols) known = text_columns cols
  text_statement (Read e mode) known = text_append (edge_at spec e).name (read_mode_text mode) (text_edge e) (text_read mode)
  text_statement CheckAbsent known = refl
  text_statement CheckFound known = refl
  text_statement (CheckDep dep) known = text_decimal dep (omega (arith, known.1, ranged.deps))
  text_statement Apply known = refl
  text_statement Emit known = refl
  text_statement Commit known = refl
  text_statement (Release c) known = text_class c

  content_statement : (x : Statement) → is_content (statement_text spec x) ≡ true
  content_statement (Lock c choice mode) = refl
  content_statement (Probe cols) = refl
  content_statement (Read e mode) = refl
  content_statement CheckAbsent = refl
  content_statement CheckFound = refl
  content_statement (CheckDep dep) = refl
  content_statement Apply = refl
  content_statement Emit = refl
  content_statement Commit = refl
  content_statement (Release c) = refl

  printable_statements : (plan : List Statement) → ((x : Statement) → In x plan → IsKnown spec x) → AllByRecursion IsPrintable (map (statement_text spec) plan)
  printable_statements [] known = tt
  printable_statements (x ∷ plan) known = (
    record { bytes = text_statement x (known x (inl refl)); content = content_statement x },
    printable_statements plan (λ y m. known y (inr m)),
  )

  -- the lines of an operation's plan
  pub printable_plan : (op : ℕ) (plan : List Statement) → AreKnown spec plan
      → AllByRecursion IsPrintable ((codes "plan " ++ (op_at spec op).name) ∷ map (statement_text spec) plan)
  printable_plan op plan known = (record { bytes = text_op op; content = refl }, printable_statements plan known)

-- ---- both

-- lines of bytes that a text may hold, which begin with content
pub printable : (lines : List (List ℕ)) → AreText lines → AreContent lines → AllByRecursion IsPrintable lines
printable [] text content = tt
printable (line ∷ lines) text content = (record { bytes = text.0; content = content.0 }, printable lines text.1 content.1)

pub printable_append : (xs ys : List (List ℕ)) → AllByRecursion IsPrintable xs → AllByRecursion IsPrintable ys → AllByRecursion IsPrintable (xs ++ ys)
printable_append [] ys h k = k
printable_append (x ∷ xs) ys h k = (h.0, printable_append xs ys h.1 k)
