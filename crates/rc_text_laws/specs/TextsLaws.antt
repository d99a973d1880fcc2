-- The text of a report determines its lines: each consists of bytes that a text may hold, and none of these is a line feed.
use Rattle.std.proofs.Common.{◌≡◌, ℕ, ◌+◌, ◌<◌, ◌≤◌, ◌^◌, Bool, true, false, not, cond, List, [], ◌∷◌, ◌++◌, length, map, Some, get_or, refl, sym, ap, ◌∙◌, subst, arith}
use Rattle.std.specs.Prelude.{codes, nat_le, ◌==◌, slice_get}
use Rattle.rc_text_laws.specs.Imports.{is_ascii_digit, decimal, AllByRecursion, enumerate_from, list_all, flat_map, zip, list_all_in, in_list_all, slice_get_in, Pairs, is_blank, is_quote, is_text_byte, is_plain_byte, is_quotable_byte, lacks_line_feed, printed_lines, Spec, ColKind, Num, Text, OpKind, Query, Insert, Remove, Update, Reply, Rows, Many, Inserted, Present, Conflict, Removed, Updated, Absent, spaced, words_text, kind_at, value_text, pair_words, row_text, reply_words, outs_of, AreTexts, cut, digits, IsWellNamed, is_name_byte, Step, Entry, given, step_words_at, step_words, step_line, group_head, head_lines, entry_lines, journal_lines, final_lines}
use Rattle.std.proofs.lemmas.Bool.{and_parts, eqb-true, false≢true}
use Rattle.std.proofs.lemmas.List.{append_assoc}
use Rattle.std.proofs.lemmas.Option.{slice_get-get_or}
use Rattle.rc_work.specs.Report.{report}
use Rattle.rc_text_laws.specs.WordsLaws.{digit_is_plain, name_byte_is_plain}
use Rattle.rc_text_laws.specs.StepsLaws.{IsStepShown, name_bytes, given_shown}
use Rattle.rc_text_laws.specs.HistoriesLaws.{IsEntryShown, IsRowShown, IsShownBy, one_report_one_history}
use Rattle.rc_text_laws.specs.LinesLaws.{IsShown, AreShown, IsReplyOf, RowIsShown}

tails : (x y : ℕ) (xs ys : List ℕ) → x ∷ xs ≡ y ∷ ys → xs ≡ ys
tails x y xs ys e = cc

-- each line ends at the first line feed
pub printed_one : (lines others : List (List ℕ))
    → AllByRecursion (λ l. lacks_line_feed l ≡ true) lines
    → AllByRecursion (λ l. lacks_line_feed l ≡ true) others
    → printed_lines lines ≡ printed_lines others → lines ≡ others
printed_one [] [] h k e = refl
printed_one [] ([] ∷ others) h k e = cc
printed_one [] ((b ∷ y) ∷ others) h k e = cc
printed_one ([] ∷ lines) [] h k e = cc
printed_one ((b ∷ x) ∷ lines) [] h k e = cc
printed_one (x ∷ lines) (y ∷ others) h k e =
    let whole : x ++ 10 ∷ printed_lines lines ≡ y ++ 10 ∷ printed_lines others =
    sym (append_assoc x (10 ∷ []) (printed_lines lines)) ∙ e
    ∙ append_assoc y (10 ∷ []) (printed_lines others) in
    let both = cut (λ b. not (b == 10)) x y (10 ∷ printed_lines lines)
    (10 ∷ printed_lines others) h.0 k.0 refl refl whole in
    joined both.0 (printed_one lines others h.1 k.1 (tails 10 10 _ _ both.1))
  where
    joined : x ≡ y → lines ≡ others → x ∷ lines ≡ y ∷ others
    joined e f = cc

-- ---- lines of bytes that a text may hold

pub text_append : (xs ys : List ℕ) → list_all is_text_byte xs ≡ true → list_all is_text_byte ys ≡ true
    → list_all is_text_byte (xs ++ ys) ≡ true
text_append [] ys h k = k
text_append (x ∷ xs) ys h k =
    let parts = and_parts (is_text_byte x) (list_all is_text_byte xs) h in
    rw (parts.0, text_append xs ys parts.1 k) refl

-- a byte that may stand in a plain word is one of a text
text_plain : (b : ℕ) → is_plain_byte b ≡ true → is_text_byte b ≡ true
text_plain b h = (and_parts (is_text_byte b) (not (is_blank b)) h).0

pub text_decimal : (n : ℕ) → n < 2 ^ 64 → list_all is_text_byte (decimal n) ≡ true
text_decimal n h = in_list_all is_text_byte (decimal n) (λ b m.
    text_plain b (digit_is_plain b (list_all_in is_ascii_digit (decimal n) (digits n h) b m)))

-- words, or lines, whose bytes a text may hold
abbrev pub AreText : List (List ℕ) → Type 0
AreText words = AllByRecursion (λ w. list_all is_text_byte w ≡ true) words

pub text_spaced : (words : List (List ℕ)) → AreText words → list_all is_text_byte (spaced words) ≡ true
text_spaced [] h = refl
text_spaced (w ∷ words) h = text_append w (spaced words) h.0 (text_spaced words h.1)

pub text_words : (words : List (List ℕ)) → AreText words
    → list_all is_text_byte (words_text words) ≡ true
text_words [] h = refl
text_words (w ∷ words) h = text_append w (spaced words) h.0 (text_spaced words h.1)

pub all_append : (xs ys : List (List ℕ)) → AreText xs → AreText ys → AreText (xs ++ ys)
all_append [] ys h k = k
all_append (x ∷ xs) ys h k = (h.0, all_append xs ys h.1 k)

text_text : (t : List ℕ) → list_all is_quotable_byte t ≡ true → list_all is_text_byte t ≡ true
text_text t h =
    in_list_all is_text_byte t
    (λ b m. (and_parts (is_text_byte b) (not (is_quote b)) (list_all_in is_quotable_byte t h b m)).0)

module _ (spec : Spec) (texts : List (List ℕ)) (good : AreTexts texts) where
  text_value : (kind : ColKind) (n : ℕ) → IsShown kind texts n
      → list_all is_text_byte (value_text kind texts n) ≡ true
  text_value Num n h = text_decimal n h
  text_value Text n h =
      let at : slice_get texts n ≡ Some (get_or texts n []) = slice_get-get_or texts n [] h in
      text_append (get_or texts n []) (34 ∷ [])
      (text_text (get_or texts n []) (good.quotable (get_or texts n []) (slice_get_in texts n (get_or texts n []) at))) refl

  pub text_pairs : (p : Pairs) → AreShown spec texts p → AreText (pair_words spec texts p)
  text_pairs [] h = tt
  text_pairs (x ∷ p) h = (text_value (kind_at spec x.0) x.1 h.0, text_pairs p h.1)

  pub text_row : (p : Pairs) → AreShown spec texts p
      → list_all is_text_byte (row_text spec texts p) ≡ true
  text_row p h =
      text_append (words_text (pair_words spec texts p)) (41 ∷ [])
      (text_words (pair_words spec texts p) (text_pairs p h)) refl

  text_rows : (outs : List ℕ) (rows : List (List ℕ))
      → AllByRecursion (RowIsShown spec texts outs) rows
      → AreText (map (λ row. row_text spec texts (zip outs row)) rows)
  text_rows outs [] h = tt
  text_rows outs (row ∷ rows) h = (text_row (zip outs row) h.0.1, text_rows outs rows h.1)

  pub text_reply : (kind : OpKind) (r : Reply) → IsReplyOf spec texts kind r
      → AreText (reply_words spec texts (outs_of kind) r)
  text_reply (Query outs ranges) (Rows rows) h =
      (text_decimal (length rows) h.0, (refl, text_rows outs rows h.1))
  text_reply (Query outs ranges) (Many n) h = (refl, (text_decimal n h, tt))
  text_reply (Query outs ranges) Inserted h = absurd h
  text_reply (Query outs ranges) Present h = absurd h
  text_reply (Query outs ranges) (Conflict j) h = absurd h
  text_reply (Query outs ranges) (Removed t) h = absurd h
  text_reply (Query outs ranges) (Updated t) h = absurd h
  text_reply (Query outs ranges) Absent h = absurd h
  text_reply Insert (Rows rows) h = absurd h
  text_reply Insert (Many n) h = absurd h
  text_reply Insert Inserted h = (refl, tt)
  text_reply Insert Present h = (refl, tt)
  text_reply Insert (Conflict j) h = (refl, (text_decimal j h, tt))
  text_reply Insert (Removed t) h = absurd h
  text_reply Insert (Updated t) h = absurd h
  text_reply Insert Absent h = absurd h
  text_reply Remove (Rows rows) h = absurd h
  text_reply Remove (Many n) h = absurd h
  text_reply Remove Inserted h = absurd h
  text_reply Remove Present h = absurd h
  text_reply Remove (Conflict j) h = absurd h
  text_reply Remove (Removed t) h = (refl, (text_row t h.1, tt))
  text_reply Remove (Updated t) h = absurd h
  text_reply Remove Absent h = (refl, tt)
  text_reply Update (Rows rows) h = absurd h
  text_reply Update (Many n) h = absurd h
  text_reply Update Inserted h = absurd h
  text_reply Update Present h = absurd h
  text_reply Update (Conflict j) h = (refl, (text_decimal j h, tt))
  text_reply Update (Removed t) h = absurd h
  text_reply Update (Updated t) h = (refl, (text_row t h.1, tt))
  text_reply Update Absent h = (refl, tt)

  text_name : (name : List ℕ) → list_all is_name_byte name ≡ true → list_all is_text_byte name ≡ true
  text_name name h =
      in_list_all is_text_byte name
      (λ b m. text_plain b (name_byte_is_plain b (list_all_in is_name_byte name h b m)))

  pub text_step : (step : Step) → IsWellNamed spec → IsStepShown spec texts step
      → AreText (step_words spec texts step)
  text_step step named h =
      subst AreText (sym (ap (λ o. step_words_at o spec texts step) h.fits.known)) (
        text_name h.op.name (name_bytes spec h.op step.call.op named h.fits.known),
        all_append (pair_words spec texts (given h.op.kind h.op.pattern step.call.args step.call.ranges))
            (codes "->" ∷ reply_words spec texts (outs_of h.op.kind) step.reply)
            (text_pairs (given h.op.kind h.op.pattern step.call.args step.call.ranges) (given_shown spec texts h.op.kind h.op.pattern step.call.args step.call.ranges h.fits.columns h.args h.bounds))
            (refl, text_reply h.op.kind step.reply h.reply),
      )

  text_step_line : (place thread : ℕ) (step : Step) → place < 2 ^ 64 → thread < 2 ^ 64 → IsWellNamed spec
      → IsStepShown spec texts step → list_all is_text_byte (step_line spec texts place thread step) ≡ true
  text_step_line place thread step small thread_small named shown =
      text_words (decimal place ∷ decimal thread ∷ step_words spec texts step)
      (text_decimal place small, (text_decimal thread thread_small, text_step step named shown))

  text_steps : (place thread : ℕ) (steps : List Step) → place < 2 ^ 64 → thread < 2 ^ 64 → IsWellNamed spec
      → AllByRecursion (IsStepShown spec texts) steps → AreText (map (step_line spec texts place thread) steps)
  text_steps place thread [] small thread_small named shown = tt
  text_steps place thread (step ∷ steps) small thread_small named shown = (
    text_step_line place thread step small thread_small named shown.0,
    text_steps place thread steps small thread_small named shown.1,
  )

  text_head : (place : ℕ) (e : Entry) (many : Bool) → place < 2 ^ 64 → IsEntryShown spec texts e
      → AreText (cond many (group_head place e.pass (length e.steps) ∷ []) [])
  text_head place e true small h = (
    text_words (decimal place ∷ decimal e.pass ∷ codes "&" ∷ decimal (length e.steps) ∷ [])
        (text_decimal place small, (text_decimal e.pass h.small, (refl, (text_decimal (length e.steps) h.few, tt)))),
    tt,
  )
  text_head place e false small h = tt

  text_entry : (place : ℕ) (e : Entry) → place < 2 ^ 64 → IsWellNamed spec
      → IsEntryShown spec texts e → AreText (entry_lines spec texts place e)
  text_entry place e small named h =
      all_append (head_lines place e) (map (step_line spec texts place e.pass) e.steps)
      (text_head place e (nat_le 2 (length e.steps)) small h) (text_steps place e.pass e.steps small h.small named h.steps)

  text_entries : (n : ℕ) (history : List Entry) → n + length history ≤ 2 ^ 64 → IsWellNamed spec
      → AllByRecursion (IsEntryShown spec texts) history
      → AreText (flat_map (λ e. entry_lines spec texts e.0 e.1) (enumerate_from n history))
  text_entries n [] small named h = tt
  text_entries n (e ∷ history) small named h =
      all_append (entry_lines spec texts n e) (flat_map (λ x. entry_lines spec texts x.0 x.1) (enumerate_from (n + 1) history))
      (text_entry n e (omega arith) named h.0) (text_entries (n + 1) history (omega arith) named h.1)

  text_final : (rows : List Pairs) → AllByRecursion (IsRowShown spec texts) rows
      → AreText (map (row_text spec texts) rows)
  text_final [] h = tt
  text_final (t ∷ rows) h = (text_row t h.0.1, text_final rows h.1)

  pub text_report : (history : List Entry) (rows : List Pairs) → IsWellNamed spec
      → length rows < 2 ^ 64 → IsShownBy spec texts history rows
      → AreText (report spec texts history rows)
  unfolding report
  text_report history rows named small h = (
    text_words (codes "journal" ∷ decimal (length history) ∷ [])
        (refl, (text_decimal (length history) h.count, tt)),
    all_append (journal_lines spec texts history) (final_lines spec texts rows)
        (text_entries 0 history (omega (arith, h.count)) named h.entries) (
          text_words (codes "final" ∷ decimal (length rows) ∷ [])
              (refl, (text_decimal (length rows) small, tt)),
          all_append (map (row_text spec texts) rows) (codes "end" ∷ [])
              (text_final rows h.tuples) (refl, tt),
        ),
  )

-- one printed text has one history and one final relation
abbrev pub OneTextOneHistory : Type 0
OneTextOneHistory =
    (spec : Spec) (texts : List (List ℕ)) (history other : List Entry) (rows others : List Pairs)
    → IsWellNamed spec → AreTexts texts
    → IsShownBy spec texts history rows → IsShownBy spec texts other others → length rows < 2 ^ 64
    → length others < 2 ^ 64
    → printed_lines (report spec texts history rows)
    ≡ printed_lines (report spec texts other others)
    → (history ≡ other) × (rows ≡ others)

-- no line feed is among such bytes
unfed : (b : ℕ) → is_text_byte b ≡ true → not (b == 10) ≡ true
unfed b h = go (b == 10) refl
  where
    none : (b : ℕ) → b ≡ 10 → is_text_byte b ≡ true → ⊥
    none b e h = false≢true (subst (λ c. is_text_byte c ≡ true) e h)

    go : (c : Bool) → (b == 10) ≡ c → not (b == 10) ≡ true
    go true e = absurd (none b (eqb-true b 10 e) h)
    go false e = ap not e

lacks_line_feeds : (lines : List (List ℕ)) → AreText lines → AllByRecursion (λ l. lacks_line_feed l ≡ true) lines
lacks_line_feeds [] h = tt
lacks_line_feeds (line ∷ lines) h = (
  in_list_all (λ b. not (b == 10)) line (λ b m. unfed b (list_all_in is_text_byte line h.0 b m)),
  lacks_line_feeds lines h.1,
)

pub one_text_one_history : OneTextOneHistory
one_text_one_history spec texts history other rows others named good h k hr kr e =
    one_report_one_history spec texts history other rows others named good h k
    (printed_one (report spec texts history rows) (report spec texts other others)
    (lacks_line_feeds (report spec texts history rows) (text_report spec texts good history rows named hr h))
    (lacks_line_feeds (report spec texts other others) (text_report spec texts good other others named kr k)) e)
