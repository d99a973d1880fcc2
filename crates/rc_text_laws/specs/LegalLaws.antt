-- The report of a legal history shows it: the replies of the plain relation are of the kind of their operations,
-- with known values.
use Rattle.std.proofs.Common.{◌≡◌, ℕ, ◌+◌, ◌<◌, ◌≤◌, ◌^◌, Bool, true, false, cond, nat_le, List, [], ◌∷◌, ◌++◌, length, map, inl, inr, Option, Some, None, refl, sym, ap, ◌∙◌, subst, arith}
use Rattle.rc_text_laws.specs.Imports.{filter, IfSome, AllByRecursion, list_any, zip, match_ordering, Ordering, Less, Equal, Greater, In, put, gather, number_lists_order, in_gather, in_map, in_filter, each_in, in_each, slice_get_in, in_range_below, Pairs, cols_of, value, pick, matches, agree_on, tuple_cmp, is_asked, Range, value_in, breaks, Dep, FitsAt, IsWellNamed, tuple_columns, IsInRange, HasOutsAmong, AreBelow, plain, plain_by, rows_of, row_cmp, at_most, first_broken_dependency, inserted_unless, without, removed_first, updated_unless, updated_first, each_after, plain-known, plain_grows, Op, OpKind, Query, Insert, Remove, Update, Rows, Many, Present, Spec, Step, Entry, IsLegal, IsNumbered, AreLegalFrom, after_steps, steps_of, replay, after_steps-append, bounds_given, kind_at, report, printed_lines, AreTexts}
use Rattle.std.proofs.lemmas.List.{length-append, length-map}
use Rattle.rc_text_laws.specs.LinesLaws.{IsShown, AreShown, IsReplyOf, RowIsShown}
use Rattle.rc_text_laws.specs.StepsLaws.{IsStepShown}
use Rattle.rc_text_laws.specs.HistoriesLaws.{IsEntryShown, IsRowShown, IsShownBy}
use Rattle.rc_text_laws.specs.TextsLaws.{one_text_one_history}

-- ---- counts

length-put-le : {A : Type 0} (R : A → A → Ordering) (x : A) (ys : List A)
    → length (put R x ys) ≤ length ys + 1
length-put-le R x [] = omega arith
length-put-le {A} R x (y ∷ ys) = go (R x y) (length-put-le R x ys)
  where
    go : (a : Ordering) → length (put R x ys) ≤ length ys + 1
        → length (match_ordering a (x ∷ (y ∷ ys)) (y ∷ ys) (y ∷ put R x ys)) ≤ length (y ∷ ys) + 1
    go Less h = omega arith
    go Equal h = omega arith
    go Greater h = omega arith

pub length-gather-le : {A : Type 0} (R : A → A → Ordering) (xs : List A)
    → length (gather R xs) ≤ length xs
length-gather-le R [] = omega arith
length-gather-le R (x ∷ xs) = omega (arith, length-gather-le R xs, length-put-le R x (gather R xs))

pub length-filter-le : {A : Type 0} (p : A → Bool) (xs : List A) → length (filter p xs) ≤ length xs
length-filter-le p [] = omega arith
length-filter-le {A} p (x ∷ xs) = go (p x) (length-filter-le p xs)
  where
    go : (b : Bool) → length (filter p xs) ≤ length xs
        → length (cond b (x ∷ filter p xs) (filter p xs)) ≤ length (x ∷ xs)
    go true h = omega arith
    go false h = omega arith

length-rows_of-le : (outs : List ℕ) (p : Pairs → Bool) (r : List Pairs) → length (rows_of outs (filter p r)) ≤ length r
length-rows_of-le outs p r =
    omega (
      arith,
      length-gather-le row_cmp (map (pick outs) (filter p r)),
      length-map (filter p r) (pick outs),
      length-filter-le p r,
    )

module _ (spec : Spec) (texts : List (List ℕ)) (ranged : IsInRange spec) where
  -- ---- replies

  shown_at : (t : Pairs) (c : ℕ) → AreShown spec texts t → In c (cols_of t)
      → IsShown (kind_at spec c) texts (value t c)
  shown_at t c h m =
      each_in (λ p. IsShown (kind_at spec p.0) texts p.1) t h (c, value t c) (value_in t c m)

  picked : (t : Pairs) (outs : List ℕ) → AreShown spec texts t
      → ((c : ℕ) → In c outs → In c (cols_of t)) → AreShown spec texts (zip outs (pick outs t))
  picked t [] h f = tt
  picked t (c ∷ outs) h f = (shown_at t c h (f c (inl refl)), picked t outs h (λ d m. f d (inr m)))

  row_shown : (outs : List ℕ) (ts : List Pairs) → AreBelow (length spec.columns) outs
      → ((t : Pairs) → In t ts → IsRowShown spec texts t) → (row : List ℕ)
      → In row (rows_of outs ts) → RowIsShown spec texts outs row
  row_shown outs ts below each row m =
      let found =
      in_map (pick outs) row ts (in_gather row_cmp number_lists_order row (map (pick outs) ts) m) in
      let t = found.0 in
      let shown = each t found.1 in
      let here : RowIsShown spec texts outs (pick outs t) =
      (length-map outs (value t), picked t outs shown.1 (λ c n. subst (In c) (sym shown.0) (in_range_below (length spec.columns) c (below c n)))) in
      subst (RowIsShown spec texts outs) (sym found.2) here

  many_or_rows : (outs ranges : List ℕ) (most : ℕ) (rows : List (List ℕ)) → length rows < 2 ^ 64
      → AllByRecursion (RowIsShown spec texts outs) rows
      → IsReplyOf spec texts (Query outs ranges) (at_most most rows)
  many_or_rows outs ranges most rows small h = go (nat_le (length rows) most)
    where
      go : (b : Bool) → IsReplyOf spec texts (Query outs ranges) (cond b (Rows rows) (Many (length rows)))
      go true = (small, h)
      go false = small

  -- a dependency that is broken has a number of 64 bits
  broken_small : (n : ℕ) (deps : List Dep) (r : List Pairs) → n + length deps < 2 ^ 64
      → IfSome (first_broken_dependency n deps r) (λ j. j < 2 ^ 64)
  broken_small n [] r h = tt
  broken_small n (d ∷ deps) r h = go (breaks r d) (broken_small (n + 1) deps r (omega arith))
    where
      go : (b : Bool) → IfSome (first_broken_dependency (n + 1) deps r) (λ j. j < 2 ^ 64)
          → IfSome (cond b (Some n) (first_broken_dependency (n + 1) deps r)) (λ j. j < 2 ^ 64)
      go true k = omega arith
      go false k = k

  inserted_shown : (broken : Option ℕ) (s t : List Pairs) → IfSome broken (λ j. j < 2 ^ 64)
      → IsReplyOf spec texts Insert (inserted_unless broken s t).reply
  inserted_shown None s t small = tt
  inserted_shown (Some n) s t small = small

  updated_shown : (broken : Option ℕ) (old : Pairs) (s t : List Pairs) → IfSome broken (λ j. j < 2 ^ 64)
      → IsRowShown spec texts old → IsReplyOf spec texts Update (updated_unless broken old s t).reply
  updated_shown None old s t small shown = shown
  updated_shown (Some n) old s t small shown = small

  reply_shown : (most : ℕ) (kind : OpKind) (pattern : List ℕ) (args : Pairs) (ranges : List Range) (r : List Pairs)
      → HasOutsAmong (length spec.columns) kind → length r < 2 ^ 64
      → ((t : Pairs) → In t r → IsRowShown spec texts t)
      → IsReplyOf spec texts kind (plain_by most kind pattern spec.deps args ranges r).reply
  reply_shown most (Query outs cols) pattern args ranges r outs_below small each =
      let ts = filter (is_asked args ranges) r in
      many_or_rows outs cols most (rows_of outs ts) (omega (arith, length-rows_of-le outs (is_asked args ranges) r))
      (in_each (RowIsShown spec texts outs) (rows_of outs ts) (row_shown outs ts outs_below (λ t m. each t (in_filter (is_asked args ranges) t r m).0)))
  reply_shown most Insert pattern args ranges r outs_below small each = go (list_any (agree_on pattern args) r)
    where
      go : (b : Bool)
          → IsReplyOf spec texts Insert (cond b (record { reply = Present; relation = r }) (inserted_unless (first_broken_dependency 1 spec.deps (put tuple_cmp args r)) (put tuple_cmp args r) r)).reply
      go true = tt
      go false =
          inserted_shown (first_broken_dependency 1 spec.deps (put tuple_cmp args r)) (put tuple_cmp args r) r
          (broken_small 1 spec.deps (put tuple_cmp args r) (omega (arith, ranged.deps)))
  reply_shown most Remove pattern args ranges r outs_below small each =
      go (filter (matches args) r) (λ t m. each t (in_filter (matches args) t r m).0)
    where
      go : (ts : List Pairs) → ((t : Pairs) → In t ts → IsRowShown spec texts t)
          → IsReplyOf spec texts Remove (removed_first ts r).reply
      go [] f = tt
      go (t ∷ ts) f = f t (inl refl)
  reply_shown most Update pattern args ranges r outs_below small each =
      go (filter (agree_on pattern args) r) (λ t m. each t (in_filter (agree_on pattern args) t r m).0)
    where
      go : (ts : List Pairs) → ((t : Pairs) → In t ts → IsRowShown spec texts t)
          → IsReplyOf spec texts Update (updated_first ts spec.deps args r).reply
      go [] f = tt
      go (old ∷ others) f =
          let s = put tuple_cmp args (without old r) in
          updated_shown (first_broken_dependency 1 spec.deps s) old s r
          (broken_small 1 spec.deps s (omega (arith, ranged.deps))) (f old (inl refl))

-- ---- histories

-- a step whose call fits and has known values
pub record IsCallShown (spec : Spec) (texts : List (List ℕ)) (step : Step) : Type 0 where
  pub op : Op
  pub fits : FitsAt spec step.call op
  pub args : AreShown spec texts step.call.args
  pub bounds : AreShown spec texts (bounds_given step.call.ranges)

-- an entry of one such step at least
pub record HasCallsShown (spec : Spec) (texts : List (List ℕ)) (entry : Entry) : Type 0 where
  pub small : entry.pass < 2 ^ 64
  pub some : 1 ≤ length entry.steps
  pub calls : AllByRecursion (IsCallShown spec texts) entry.steps

module _ (spec : Spec) (texts : List (List ℕ)) (ranged : IsInRange spec) where
  -- each tuple is shown
  abbrev AreRowsShown : List Pairs → Type 0
  AreRowsShown r = (t : Pairs) → In t r → IsRowShown spec texts t

  -- what is shown of legal steps, and of the relation that they leave
  record LegalShown (r : List Pairs) (steps behind : List Step) : Type 0 where
    pub steps_shown : AllByRecursion (IsStepShown spec texts) steps
    pub rows : AreRowsShown (after_steps spec r steps)
    pub few : length (after_steps spec r steps) ≤ length r + length steps
    pub legal : AreLegalFrom spec (after_steps spec r steps) behind

  legal_steps : (r : List Pairs) (steps behind : List Step) → AreRowsShown r → length r + length steps < 2 ^ 64
      → AllByRecursion (IsCallShown spec texts) steps → AreLegalFrom spec r (steps ++ behind) → LegalShown r steps behind
  legal_steps r [] behind each small h legal = record { steps_shown = tt; rows = each; few = omega arith; legal = legal }
  legal_steps r (step ∷ steps) behind each small h legal =
      let called = h.0 in
      let op = called.op in
      let known = plain-known spec r step.call op called.fits.known in
      let outs =
      (ranged.known_ops op (slice_get_in spec.ops step.call.op op called.fits.known)).outs in
      let reply : IsReplyOf spec texts op.kind step.reply =
      subst (IsReplyOf spec texts op.kind) (sym (legal.0 ∙ ap (λ o. o.reply) known))
      (reply_shown spec texts ranged spec.most_rows op.kind op.pattern step.call.args step.call.ranges r outs (omega arith) each) in
      let each' : AreRowsShown (plain spec r step.call).relation =
      subst (λ o. (t : Pairs) → In t o.relation → IsRowShown spec texts t) (sym known)
      (each_after (IsRowShown spec texts) spec.most_rows op.kind op.pattern spec.deps step.call.args step.call.ranges r (λ k. (tuple_columns spec step.call op called.fits k, called.args)) each) in
      let grows = plain_grows spec r step.call in
      let rest = legal_steps (plain spec r step.call).relation steps behind each' (omega (arith, grows)) h.1 legal.1 in
      record {
        steps_shown = (
          record { op = op; fits = called.fits; args = called.args; bounds = called.bounds; reply = reply },
          rest.steps_shown,
        );
        rows = rest.rows;
        few = omega (arith, rest.few, grows);
        legal = rest.legal;
      }

  -- the relation behind an entry, and the entries behind it
  behind_entry : (r : List Pairs) (e : Entry) (history : List Entry)
      → after_steps spec r (steps_of (e ∷ history)) ≡ after_steps spec (after_steps spec r e.steps) (steps_of history)
  behind_entry r e history = after_steps-append spec r e.steps (steps_of history)

  legal_entries : (r : List Pairs) (history : List Entry)
      → AreRowsShown r → length r + length (steps_of history) < 2 ^ 64
      → AllByRecursion (HasCallsShown spec texts) history → AreLegalFrom spec r (steps_of history)
      → AllByRecursion (IsEntryShown spec texts) history
      × AreRowsShown (after_steps spec r (steps_of history))
      × (length (after_steps spec r (steps_of history)) ≤ length r + length (steps_of history))
  legal_entries r [] each small h legal = (tt, each, omega arith)
  legal_entries r (e ∷ history) each small h legal =
      let both : length (steps_of (e ∷ history)) ≡ length e.steps + length (steps_of history) =
      length-append e.steps (steps_of history) in
      let here = legal_steps r e.steps (steps_of history) each (omega (arith, small, both)) h.0.calls legal in
      let rest = legal_entries (after_steps spec r e.steps) history here.rows (omega (arith, small, both, here.few)) h.1 here.legal in
      let shown : IsEntryShown spec texts e =
      record { small = h.0.small; some = h.0.some; few = omega (arith, small, both); steps = here.steps_shown } in (
        (shown, rest.0),
        subst AreRowsShown (sym (behind_entry r e history)) rest.1,
        subst (λ (s : List Pairs). length s ≤ length r + length (steps_of (e ∷ history))) (sym (behind_entry r e history))
            (omega (arith, rest.2, here.few, both)),
      )

-- what a run journals: a legal numbered history of calls that fit, some in each entry, with the ranks of some texts
pub record IsJournal (spec : Spec) (texts : List (List ℕ)) (history : List Entry) : Type 0 where
  pub count : length (steps_of history) < 2 ^ 64
  pub calls : AllByRecursion (HasCallsShown spec texts) history
  pub numbered : IsNumbered history
  pub legal : IsLegal spec history

-- there are at least as many steps as entries
length-steps_of : (spec : Spec) (texts : List (List ℕ)) (history : List Entry) → AllByRecursion (HasCallsShown spec texts) history
    → length history ≤ length (steps_of history)
length-steps_of spec texts [] h = omega arith
length-steps_of spec texts (e ∷ history) h =
    omega (arith, h.0.some, length-steps_of spec texts history h.1, length-append e.steps (steps_of history))

pub journal_shown : (spec : Spec) (texts : List (List ℕ)) (history : List Entry) → IsInRange spec
    → IsJournal spec texts history
    → IsShownBy spec texts history (replay spec history) × (length (replay spec history) < 2 ^ 64)
journal_shown spec texts history ranged j =
    let all = legal_entries spec texts ranged [] history (λ t m. absurd m)
    (omega (arith, j.count)) j.calls j.legal in (
      record {
        count = omega (arith, j.count, length-steps_of spec texts history j.calls);
        entries = all.0;
        numbered = j.numbered;
        tuples = in_each (IsRowShown spec texts) (replay spec history) all.1;
      },
      omega (arith, all.2, j.count),
    )

-- one printed report has one journal: the text determines the history
abbrev pub OneReportOneJournal : Type 0
OneReportOneJournal =
    (spec : Spec) (texts : List (List ℕ)) (history other : List Entry) → IsWellNamed spec
    → IsInRange spec → AreTexts texts → IsJournal spec texts history → IsJournal spec texts other
    → printed_lines (report spec texts history (replay spec history))
    ≡ printed_lines (report spec texts other (replay spec other))
    → history ≡ other

pub one_report_one_journal : OneReportOneJournal
one_report_one_journal spec texts history other named ranged good h k e =
    let a = journal_shown spec texts history ranged h in
    let b = journal_shown spec texts other ranged k in
    (one_text_one_history spec texts history other (replay spec history) (replay spec other) named good a.0 b.0 a.1 b.1 e).0
