-- One report has one history.
use Rattle.std.proofs.Common.{◌≡◌, ℕ, suc, ◌+◌, ◌<◌, ◌≤◌, ◌^◌, Bool, true, false, cond, List, [], ◌∷◌, ◌++◌, length, map, refl, sym, ap, ◌∙◌, subst, arith}
use Rattle.std.specs.Prelude.{codes, nat_le, ◌==◌}
use Rattle.rc_text_laws.specs.Imports.{AllByRecursion, enumerate_from, list_all, range_with_len, flat_map, decimal, Pairs, cols_of, all_columns, IsWellNamed, is_name_byte, Op, Spec, Step, Entry, own, IsNumbered, spaced, words_text, row_text, given, outs_of, pair_words, reply_words, values_and_reply, step_words_at, step_words, step_line, group_head, entry_lines, count_line, final_lines, AreTexts, cut, decimal_one}
use Rattle.std.proofs.lemmas.Bool.{false≢true, eq-eqb, leb-false}
use Rattle.std.proofs.lemmas.List.{append_assoc, append_cancel_left, append_cancel_right}
use Rattle.rc_work.specs.Report.{report}
use Rattle.rc_text_laws.specs.LinesLaws.{AreShown, row_one, tail_of}
use Rattle.rc_text_laws.specs.StepsLaws.{IsStepShown, name_bytes, step_one, ends_of}

-- ---- the lines of an entry

-- an entry of one step at least, each of which is shown
pub record IsEntryShown (spec : Spec) (texts : List (List ℕ)) (entry : Entry) : Type 0 where
  pub small : entry.pass < 2 ^ 64
  pub some : 1 ≤ length entry.steps
  pub few : length entry.steps < 2 ^ 64
  pub steps : AllByRecursion (IsStepShown spec texts) entry.steps

-- behind the place and the thread
behind_thread : (place thread other : ℕ) (words others : List (List ℕ)) → thread < 2 ^ 64 → other < 2 ^ 64
    → words_text (decimal place ∷ decimal thread ∷ words) ≡ words_text (decimal place ∷ decimal other ∷ others)
    → (thread ≡ other) × (spaced words ≡ spaced others)
behind_thread place thread other words others small other_small line =
    let threads = append_cancel_left (decimal place) (32 ∷ (decimal thread ++ spaced words))
    (32 ∷ (decimal other ++ spaced others)) line in
    decimal_one thread other (spaced words) (spaced others) small other_small (ends_of words) (ends_of others)
    (tail_of 32 32 (decimal thread ++ spaced words) (decimal other ++ spaced others) threads)

-- a line at a known place determines the thread and the step
step_line_one : (spec : Spec) (texts : List (List ℕ)) (place thread other : ℕ) (s t : Step) → IsWellNamed spec → AreTexts texts
    → thread < 2 ^ 64 → other < 2 ^ 64 → IsStepShown spec texts s → IsStepShown spec texts t
    → step_line spec texts place thread s ≡ step_line spec texts place other t → (thread ≡ other) × (s ≡ t)
step_line_one spec texts place thread other s t named good small other_small hs ht line =
    let both = behind_thread place thread other (step_words spec texts s) (step_words spec texts t) small other_small line in
    (both.0, step_one spec texts s t named good hs ht both.1)

-- the first line of a group, the thread and how many steps it has
group_head_one : (place thread other count others : ℕ) → thread < 2 ^ 64 → other < 2 ^ 64 → count < 2 ^ 64 → others < 2 ^ 64
    → group_head place thread count ≡ group_head place other others → (thread ≡ other) × (count ≡ others)
group_head_one place thread other count others small other_small few others_few line =
    let both = behind_thread place thread other (codes "&" ∷ decimal count ∷ []) (codes "&" ∷ decimal others ∷ []) small other_small line in (
      both.0,
      (decimal_one count others [] [] few others_few tt tt
          (append_cancel_left (32 ∷ (codes "&" ++ 32 ∷ [])) (decimal count ++ []) (decimal others ++ []) both.1)).0,
    )

head_byte : (x y : ℕ) (xs ys : List ℕ) → x ∷ xs ≡ y ∷ ys → x ≡ y
head_byte x y xs ys e = cc

-- no name is `&`
name_not_sign : (name words : List ℕ) (others : List ℕ) → list_all is_name_byte name ≡ true → name ++ 32 ∷ words ≡ 38 ∷ others → ⊥
name_not_sign name words others bytes e =
    let both = cut is_name_byte name [] (32 ∷ words) (38 ∷ others) bytes refl refl refl e in
    let no = head_byte 32 38 words others both.1 in omega (arith, no)

-- a step behind its name has words
values_begin : (spec : Spec) (texts : List (List ℕ)) (op : Op) (step : Step)
    → (rest : List ℕ) × (spaced (values_and_reply spec texts op step) ≡ 32 ∷ rest)
values_begin spec texts op step = go (pair_words spec texts (given op.kind op.pattern step.call.args step.call.ranges))
  where
    go : (values : List (List ℕ))
        → (rest : List ℕ) × (spaced (values ++ codes "->" ∷ reply_words spec texts (outs_of op.kind) step.reply) ≡ 32 ∷ rest)
    go [] = (_, refl)
    go (w ∷ values) = (_, refl)

-- the line of a step is no first line of a group
step_no_head : (spec : Spec) (texts : List (List ℕ)) (place thread other count : ℕ) (s : Step) → IsWellNamed spec
    → thread < 2 ^ 64 → other < 2 ^ 64 → IsStepShown spec texts s
    → step_line spec texts place thread s ≡ group_head place other count → ⊥
step_no_head spec texts place thread other count s named small other_small shown line =
    let both = behind_thread place thread other (step_words spec texts s) (codes "&" ∷ decimal count ∷ []) small other_small line in
    let words : step_words spec texts s ≡ shown.op.name ∷ values_and_reply spec texts shown.op s =
    ap (λ o. step_words_at o spec texts s) shown.fits.known in
    let rest = values_begin spec texts shown.op s in
    let name = tail_of 32 32 (shown.op.name ++ spaced (values_and_reply spec texts shown.op s)) (38 ∷ 32 ∷ (decimal count ++ []))
    (ap spaced (sym words) ∙ both.1) in
    name_not_sign shown.op.name rest.0 (32 ∷ (decimal count ++ [])) (name_bytes spec shown.op s.call.op named shown.fits.known)
    (ap (λ l. shown.op.name ++ l) (sym rest.1) ∙ name)

-- as many lines of steps determine the steps, and what stands behind them
step_lines_one : (spec : Spec) (texts : List (List ℕ)) (place thread other : ℕ) (steps others : List Step) (a b : List (List ℕ))
    → IsWellNamed spec → AreTexts texts → thread < 2 ^ 64 → other < 2 ^ 64
    → AllByRecursion (IsStepShown spec texts) steps → AllByRecursion (IsStepShown spec texts) others → length steps ≡ length others
    → map (step_line spec texts place thread) steps ++ a ≡ map (step_line spec texts place other) others ++ b
    → (steps ≡ others) × (a ≡ b)
step_lines_one spec texts place thread other [] [] a b named good small other_small hs ht count e = (refl, e)
step_lines_one spec texts place thread other [] (t ∷ others) a b named good small other_small hs ht count e = absurd (omega arith)
step_lines_one spec texts place thread other (s ∷ steps) [] a b named good small other_small hs ht count e = absurd (omega arith)
step_lines_one spec texts place thread other (s ∷ steps) (t ∷ others) a b named good small other_small hs ht count e =
    let parts = both (step_line spec texts place thread s) (step_line spec texts place other t) _ _ e in
    let here = step_line_one spec texts place thread other s t named good small other_small hs.0 ht.0 parts.0 in
    let rest = step_lines_one spec texts place thread other steps others a b named good small other_small hs.1 ht.1 (omega arith) parts.1 in
    (joined here.1 rest.0, rest.1)
  where
    both : (p q : List ℕ) (t u : List (List ℕ)) → p ∷ t ≡ q ∷ u → (p ≡ q) × (t ≡ u)
    both p q t u e = (cc, cc)

    joined : s ≡ t → steps ≡ others → s ∷ steps ≡ t ∷ others
    joined e f = cc

-- whether an entry is a group, and its lines
abbrev entry_lines_by : Bool → Spec → List (List ℕ) → ℕ → Entry → List (List ℕ)
entry_lines_by many spec texts place e =
    cond many (group_head place e.pass (length e.steps) ∷ []) [] ++ map (step_line spec texts place e.pass) e.steps

-- the lines of an entry at a known place determine its thread and steps, and what stands behind them
pub entry_one : (spec : Spec) (texts : List (List ℕ)) (place : ℕ) (e f : Entry) (a b : List (List ℕ)) → IsWellNamed spec
    → AreTexts texts → IsEntryShown spec texts e → IsEntryShown spec texts f
    → entry_lines spec texts place e ++ a ≡ entry_lines spec texts place f ++ b
    → ((e.pass ≡ f.pass) × (e.steps ≡ f.steps)) × (a ≡ b)
entry_one spec texts place e f a b named good he hf lines =
    by_sizes (nat_le 2 (length e.steps)) (nat_le 2 (length f.steps)) refl refl lines
  where
    both : (p q : List ℕ) (t u : List (List ℕ)) → p ∷ t ≡ q ∷ u → (p ≡ q) × (t ≡ u)
    both p q t u e = (cc, cc)

    one_step : (steps : List Step) → length steps ≡ 1 → (s : Step) × (steps ≡ s ∷ [])
    one_step [] n = absurd (omega arith)
    one_step (s ∷ []) n = (s, refl)
    one_step (s ∷ t ∷ steps) n = absurd (omega arith)

    -- a step's line against the first line of a group
    apart : (g h : Entry) (c d : List (List ℕ)) → IsEntryShown spec texts g → IsEntryShown spec texts h → length g.steps ≡ 1
        → map (step_line spec texts place g.pass) g.steps ++ c
        ≡ group_head place h.pass (length h.steps) ∷ (map (step_line spec texts place h.pass) h.steps ++ d) → ⊥
    apart g h c d hg hh n l =
        let one = one_step g.steps n in
        let shown : AllByRecursion (IsStepShown spec texts) (one.0 ∷ []) = subst (AllByRecursion (IsStepShown spec texts)) one.1 hg.steps in
        let line = ap (λ steps. map (step_line spec texts place g.pass) steps ++ c) (sym one.1) ∙ l in
        step_no_head spec texts place g.pass h.pass (length h.steps) one.0 named hg.small hh.small shown.0
        (both (step_line spec texts place g.pass one.0) (group_head place h.pass (length h.steps)) c _ line).0

    one_of : (g : Entry) → IsEntryShown spec texts g → nat_le 2 (length g.steps) ≡ false → length g.steps ≡ 1
    one_of g hg n = omega (arith, hg.some, leb-false 2 (length g.steps) n)

    by_sizes : (m n : Bool) → nat_le 2 (length e.steps) ≡ m → nat_le 2 (length f.steps) ≡ n
        → entry_lines_by m spec texts place e ++ a ≡ entry_lines_by n spec texts place f ++ b
        → ((e.pass ≡ f.pass) × (e.steps ≡ f.steps)) × (a ≡ b)
    by_sizes true true em en l =
        let parts = both (group_head place e.pass (length e.steps)) (group_head place f.pass (length f.steps)) _ _ l in
        let head = group_head_one place e.pass f.pass (length e.steps) (length f.steps) he.small hf.small he.few hf.few parts.0 in
        let rest = step_lines_one spec texts place e.pass f.pass e.steps f.steps a b named good he.small hf.small he.steps hf.steps head.1 parts.1 in
        ((head.0, rest.0), rest.1)
    by_sizes true false em en l = absurd (apart f e b a hf he (one_of f hf en) (sym l))
    by_sizes false true em en l = absurd (apart e f a b he hf (one_of e he em) l)
    by_sizes false false em en l =
        let count : length e.steps ≡ length f.steps = one_of e he em ∙ sym (one_of f hf en) in
        let rest = step_lines_one spec texts place e.pass f.pass e.steps f.steps a b named good he.small hf.small he.steps hf.steps count l in
        let first = one_step e.steps (one_of e he em) in
        let second = one_step f.steps (one_of f hf en) in
        let shown : AllByRecursion (IsStepShown spec texts) (first.0 ∷ []) = subst (AllByRecursion (IsStepShown spec texts)) first.1 he.steps in
        let other_shown : AllByRecursion (IsStepShown spec texts) (second.0 ∷ []) = subst (AllByRecursion (IsStepShown spec texts)) second.1 hf.steps in
        let lines : step_line spec texts place e.pass first.0 ∷ a ≡ step_line spec texts place f.pass second.0 ∷ b =
        ap (λ steps. map (step_line spec texts place e.pass) steps ++ a) (sym first.1) ∙ l
        ∙ ap (λ steps. map (step_line spec texts place f.pass) steps ++ b) second.1 in
        let here = step_line_one spec texts place e.pass f.pass first.0 second.0 named good he.small hf.small shown.0 other_shown.0
        (both (step_line spec texts place e.pass first.0) (step_line spec texts place f.pass second.0) a b lines).0 in
        ((here.0, rest.0), rest.1)

-- ---- histories

-- entry by entry the same threads and steps
abbrev pub AreAlike : List Entry → List Entry → Type 0
AreAlike [] [] = Unit {0}
AreAlike [] (y ∷ others) = ⊥
AreAlike (x ∷ entries) [] = ⊥
AreAlike (x ∷ entries) (y ∷ others) =
    ((x.pass ≡ y.pass) × (x.steps ≡ y.steps)) × AreAlike entries others

-- as many entries, and what stands behind their lines
pub entries_alike : (spec : Spec) (texts : List (List ℕ)) (n : ℕ) (history other : List Entry) (a b : List (List ℕ))
    → IsWellNamed spec → AreTexts texts
    → AllByRecursion (IsEntryShown spec texts) history
    → AllByRecursion (IsEntryShown spec texts) other
    → length history ≡ length other
    → flat_map (λ e. entry_lines spec texts e.0 e.1) (enumerate_from n history) ++ a
    ≡ flat_map (λ e. entry_lines spec texts e.0 e.1) (enumerate_from n other) ++ b
    → AreAlike history other × (a ≡ b)
entries_alike spec texts n [] [] a b named good h k count e = (tt, e)
entries_alike spec texts n [] (y ∷ other) a b named good h k count e = absurd (omega arith)
entries_alike spec texts n (x ∷ history) [] a b named good h k count e = absurd (omega arith)
entries_alike spec texts n (x ∷ history) (y ∷ other) a b named good h k count e =
    let left = flat_map (λ (e : ℕ × Entry). entry_lines spec texts e.0 e.1) (enumerate_from (n + 1) history) in
    let right = flat_map (λ (e : ℕ × Entry). entry_lines spec texts e.0 e.1) (enumerate_from (n + 1) other) in
    let here = entry_one spec texts n x y (left ++ a) (right ++ b) named good h.0 k.0
    (sym (append_assoc (entry_lines spec texts n x) left a) ∙ e ∙ append_assoc (entry_lines spec texts n y) right b) in
    let rest = entries_alike spec texts (n + 1) history other a b named good h.1 k.1 (omega arith) here.1 in
    ((here.0, rest.0), rest.1)

own_lengths : (history other : List Entry) (pass : ℕ) → AreAlike history other
    → length (own history pass) ≡ length (own other pass)
own_lengths [] [] pass a = refl
own_lengths [] (y ∷ other) pass a = absurd a
own_lengths (x ∷ history) [] pass a = absurd a
own_lengths (x ∷ history) (y ∷ other) pass a =
    go (x.pass == pass) (y.pass == pass) (ap (λ p. p == pass) a.0.0)
    (own_lengths history other pass a.1)
  where
    go : (b c : Bool) → b ≡ c → length (own history pass) ≡ length (own other pass)
        → length (cond b (x ∷ own history pass) (own history pass))
        ≡ length (cond c (y ∷ own other pass) (own other pass))
    go true true e f = ap suc f
    go true false e f = absurd (false≢true (sym e))
    go false true e f = absurd (false≢true e)
    go false false e f = f

numbered_apart : (history other : List Entry) → AreAlike history other
    → ((pass : ℕ) → map (λ e. e.nth) (own history pass) ≡ map (λ e. e.nth) (own other pass))
    → history ≡ other
numbered_apart [] [] a f = refl
numbered_apart [] (y ∷ other) a f = absurd a
numbered_apart (x ∷ history) [] a f = absurd a
numbered_apart (x ∷ history) (y ∷ other) a f =
    let here : x.pass ≡ y.pass = a.0.0 in
    let number : x.nth ≡ y.nth = head (x.pass == x.pass) (y.pass == x.pass)
    (eq-eqb x.pass x.pass refl) (eq-eqb y.pass x.pass (sym here)) x.pass (f x.pass) in
    let later : history ≡ other = numbered_apart history other a.1
    (λ pass. rest (x.pass == pass) (y.pass == pass) (ap (λ p. p == pass) here) pass (f pass)) in
    joined (λ i. record { pass = here i; nth = number i; steps = a.0.1 i }) later
  where
    both : (p q : ℕ) (t u : List ℕ) → p ∷ t ≡ q ∷ u → (p ≡ q) × (t ≡ u)
    both p q t u e = (cc, cc)

    joined : x ≡ y → history ≡ other → x ∷ history ≡ y ∷ other
    joined e f = cc

    head : (b c : Bool) → b ≡ true → c ≡ true → (pass : ℕ)
        → map (λ e. e.nth) (cond b (x ∷ own history pass) (own history pass))
        ≡ map (λ e. e.nth) (cond c (y ∷ own other pass) (own other pass))
        → x.nth ≡ y.nth
    head true true e g pass h = (both x.nth y.nth _ _ h).0
    head true false e g pass h = absurd (false≢true g)
    head false c e g pass h = absurd (false≢true e)

    rest : (b c : Bool) → b ≡ c → (pass : ℕ)
        → map (λ e. e.nth) (cond b (x ∷ own history pass) (own history pass))
        ≡ map (λ e. e.nth) (cond c (y ∷ own other pass) (own other pass))
        → map (λ e. e.nth) (own history pass) ≡ map (λ e. e.nth) (own other pass)
    rest true true e pass h = (both x.nth y.nth _ _ h).1
    rest true false e pass h = absurd (false≢true (sym e))
    rest false true e pass h = absurd (false≢true e)
    rest false false e pass h = h

-- numbered histories with the same threads and steps are the same
pub numbered_one : (history other : List Entry) → AreAlike history other → IsNumbered history
    → IsNumbered other → history ≡ other
numbered_one history other a h k =
    numbered_apart history other a
    (λ pass. h pass ∙ ap (range_with_len 0) (own_lengths history other pass a) ∙ sym (k pass))

-- ---- the final relation

-- a tuple over all columns, with known values
abbrev pub IsRowShown : Spec → List (List ℕ) → Pairs → Type 0
IsRowShown spec texts t = (cols_of t ≡ all_columns spec) × AreShown spec texts t

pub rows_alike : (spec : Spec) (texts : List (List ℕ)) (rows others : List Pairs) → AreTexts texts
    → AllByRecursion (IsRowShown spec texts) rows → AllByRecursion (IsRowShown spec texts) others
    → map (row_text spec texts) rows ≡ map (row_text spec texts) others → rows ≡ others
rows_alike spec texts [] [] good h k e = refl
rows_alike spec texts [] (u ∷ others) good h k e = cc
rows_alike spec texts (t ∷ rows) [] good h k e = cc
rows_alike spec texts (t ∷ rows) (u ∷ others) good h k e =
    let parts = both (row_text spec texts t) (row_text spec texts u) _ _ e in
    let here =
    row_one spec texts t u [] [] good (h.0.0 ∙ sym k.0.0) h.0.1 k.0.1 (ap (λ l. l ++ []) parts.0) in
    joined here.0 (rows_alike spec texts rows others good h.1 k.1 parts.1)
  where
    both : (p q : List ℕ) (t u : List (List ℕ)) → p ∷ t ≡ q ∷ u → (p ≡ q) × (t ≡ u)
    both p q t u e = (cc, cc)

    joined : t ≡ u → rows ≡ others → t ∷ rows ≡ u ∷ others
    joined e f = cc

-- ---- the report

-- what a report can show: fewer than 2^64 entries, each shown, numbered by thread, and a relation over all
-- columns
pub record IsShownBy (spec : Spec) (texts : List (List ℕ)) (history : List Entry) (rows : List Pairs) : Type 0 where
  pub count : length history < 2 ^ 64
  pub entries : AllByRecursion (IsEntryShown spec texts) history
  pub numbered : IsNumbered history
  pub tuples : AllByRecursion (IsRowShown spec texts) rows

-- one report has one history and one final relation
abbrev pub OneReportOneHistory : Type 0
OneReportOneHistory =
    (spec : Spec) (texts : List (List ℕ)) (history other : List Entry) (rows others : List Pairs)
    → IsWellNamed spec → AreTexts texts
    → IsShownBy spec texts history rows → IsShownBy spec texts other others
    → report spec texts history rows ≡ report spec texts other others
    → (history ≡ other) × (rows ≡ others)

pub one_report_one_history : OneReportOneHistory
unfolding report
one_report_one_history spec texts history other rows others named good h k e =
    let parts = both (count_line (codes "journal") (length history))
    (count_line (codes "journal") (length other)) _ _ e in
    let counts = append_cancel_left (codes "journal" ++ 32 ∷ []) (decimal (length history) ++ [])
    (decimal (length other) ++ []) parts.0 in
    let same : length history ≡ length other =
    (decimal_one (length history) (length other) [] [] h.count k.count tt tt counts).0 in
    let lines = entries_alike spec texts 0 history other (final_lines spec texts rows) (final_lines spec texts others) named good
    h.entries k.entries same parts.1 in
    let final = both (count_line (codes "final") (length rows))
    (count_line (codes "final") (length others)) _ _ lines.1 in
    let printed = append_cancel_right (map (row_text spec texts) rows)
    (map (row_text spec texts) others) (codes "end" ∷ []) final.1 in (
      numbered_one history other lines.0 h.numbered k.numbered,
      rows_alike spec texts rows others good h.tuples k.tuples printed,
    )
  where
    both : (p q : List ℕ) (t u : List (List ℕ)) → p ∷ t ≡ q ∷ u → (p ≡ q) × (t ≡ u)
    both p q t u e = (cc, cc)
