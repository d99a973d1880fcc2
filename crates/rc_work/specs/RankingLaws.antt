-- Laws of the workload that a draft gives.
use Rattle.std.proofs.Common.{◌≡◌, ℕ, ◌<◌, ◌≤◌, false, List, [], ◌∷◌, ◌++◌, length, map, Option, Some, None, refl, sym, ap, ◌∙◌, subst, inl, inr, arith}
use Rattle.rc_work.specs.Imports.{sum_by, IsSome, Result, Ok, Err, AllByRecursion, flat_map, zip, In, append_in_left, append_in_right, TextPlace, content_from, past_end_of, Fits, IsWellNamed, ColKind, Spec, Broken, texts_of, rank_of, slice_get-rank_of, known-texts_of}
use Rattle.std.specs.Prelude.{unwrap_or}
use Rattle.std.proofs.lemmas.Bool.{or_parts, false≢true}
use Rattle.std.proofs.lemmas.List.{length-map}
use Rattle.std.proofs.lemmas.List.Sums.{sum_by-cons}
use Rattle.std.proofs.lemmas.Option.{slice_get_within}
use Rattle.rc_spec.specs.declared.items.ColKind.TheVariants as kinds
use Rattle.rc_work.specs.declared.also.Also.TheVariants.{Nothing}
use Rattle.rc_work.specs.declared.raw.RawValue.{RawValue}
use Rattle.rc_work.specs.declared.raw.RawValue.TheVariants as raw
use Rattle.rc_work.specs.declared.raw.RawCall.{RawCall}
use Rattle.rc_work.specs.declared.raw.RawTurn.{RawTurn}
use Rattle.rc_work.specs.declared.draft.Draft.{Draft}
use Rattle.rc_work.specs.declared.work.Turn.{Turn}
use Rattle.rc_work.specs.declared.work.Work.{Work}
use Rattle.rc_work.specs.Printed.{kind_at}
use Rattle.rc_work.specs.CallColumns.{HasDistinctColumns, written_columns_at}
use Rattle.rc_work.specs.CallLaws.{Fits-call_over, args_written, bounds_written}
use Rattle.rc_work.specs.LineRules.{is_wrong_kind, has_wrong_kind}
use Rattle.rc_work.specs.RawTurns.{count_raw}
use Rattle.rc_work.specs.Drafts.{HasNoGroup, IsRawCall, IsRawTurn, IsDraft}
use Rattle.rc_work.specs.WorkGrammar.{reading_all}
use Rattle.rc_work.specs.GroupsLaws.{IsOfAlso-reading_all}
use Rattle.rc_work.specs.Ranking.{texts_in_value, texts_in_call, texts_in_turn, texts_in_round, texts_in}
use Rattle.rc_work.specs.Ranking.{ranked_value, ranked_call, ranked_turn, ranked_round, ranked_rounds, work_by, work_with, work_of, work_reading}
use Rattle.rc_work.specs.Fitting.{AreOfWords, IsOfWords, TurnsFit, RoundsFit, HasThreads}
use Rattle.rc_work.specs.Limits.{count_calls, HasSingleTurns, KeepsLimits, HasKnownTexts, HasKnownValues, KnowsTexts}

-- ---- limits and threads

length-ranked_turn : (spec : Spec) (texts : List (List ℕ)) (turn : RawTurn) → length (ranked_turn spec texts turn).calls ≡ length turn.calls
length-ranked_turn spec texts turn = length-map turn.calls (ranked_call spec texts)

calls-ranked_round : (spec : Spec) (texts : List (List ℕ)) (round : List RawTurn)
    → sum_by (λ (t : Turn). length t.calls) (ranked_round spec texts round) ≡ sum_by (λ (t : RawTurn). length t.calls) round
calls-ranked_round spec texts [] = refl
calls-ranked_round spec texts (turn ∷ round) =
    omega (
      arith,
      sum_by-cons (λ (t : Turn). length t.calls) (ranked_turn spec texts turn) (ranked_round spec texts round),
      sum_by-cons (λ (t : RawTurn). length t.calls) turn round,
      length-ranked_turn spec texts turn,
      calls-ranked_round spec texts round,
    )

calls-ranked_rounds : (spec : Spec) (texts : List (List ℕ)) (rounds : List (List RawTurn)) → count_calls (ranked_rounds spec texts rounds) ≡ count_raw rounds
calls-ranked_rounds spec texts [] = refl
calls-ranked_rounds spec texts (round ∷ rounds) =
    omega (
      arith,
      sum_by-cons (sum_by (λ (t : Turn). length t.calls)) (ranked_round spec texts round) (ranked_rounds spec texts rounds),
      sum_by-cons (sum_by (λ (t : RawTurn). length t.calls)) round rounds,
      calls-ranked_round spec texts round,
      calls-ranked_rounds spec texts rounds,
    )

-- what holds of each turn's image
each_ranked : (P : RawTurn → Type 0) (Q : Turn → Type 0) (spec : Spec) (texts : List (List ℕ)) → ((turn : RawTurn) → P turn → Q (ranked_turn spec texts turn))
    → (rounds : List (List RawTurn)) → AllByRecursion (AllByRecursion P) rounds → AllByRecursion (AllByRecursion Q) (ranked_rounds spec texts rounds)
each_ranked P Q spec texts so [] all = tt
each_ranked P Q spec texts so (round ∷ rounds) all = (of_round round all.0, each_ranked P Q spec texts so rounds all.1)
  where
    of_round : (turns : List RawTurn) → AllByRecursion P turns → AllByRecursion Q (ranked_round spec texts turns)
    of_round [] are = tt
    of_round (turn ∷ turns) are = (so turn are.0, of_round turns are.1)

pub KeepsLimits-work_with : (spec : Spec) (texts : List (List ℕ)) (draft : Draft) → IsDraft spec draft → KeepsLimits (work_with spec texts draft)
KeepsLimits-work_with spec texts draft is = record {
  some_thread = is.some_thread;
  few_threads = is.few_threads;
  few_rounds = omega (arith, is.few_rounds, length-map draft.rounds (ranked_round spec texts));
  few_calls = omega (arith, is.few_calls, calls-ranked_rounds spec texts draft.rounds);
  turns = each_ranked (IsRawTurn spec) (λ t. (1 ≤ length t.calls) × (length t.calls ≤ 16)) spec texts (λ turn right.
      let count = length-ranked_turn spec texts turn in
      (omega (arith, right.some, count), omega (arith, right.few, count))) draft.rounds is.turns;
}

pub HasThreads-work_with : (spec : Spec) (texts : List (List ℕ)) (draft : Draft) → IsDraft spec draft → HasThreads (work_with spec texts draft)
HasThreads-work_with spec texts draft is =
    each_ranked (λ turn. turn.thread < draft.threads) (λ turn. turn.thread < draft.threads) spec texts (λ turn below. below) draft.rounds is.threads

pub HasSingleTurns-work_with : (spec : Spec) (texts : List (List ℕ)) (draft : Draft) → HasNoGroup draft → HasSingleTurns (work_with spec texts draft)
HasSingleTurns-work_with spec texts draft is =
    each_ranked (λ turn. length turn.calls ≡ 1) (λ turn. length turn.calls ≡ 1) spec texts (λ turn one. length-ranked_turn spec texts turn ∙ one)
    draft.rounds is.single

-- ---- calls fit

fits_call : (spec : Spec) (texts : List (List ℕ)) (call : RawCall) → HasDistinctColumns spec → IsRawCall spec call → IsOfWords (ranked_call spec texts call)
    → Fits spec (ranked_call spec texts call)
fits_call spec texts call distinct is words =
    Fits-call_over spec call.op (map (ranked_value texts) call.values) is.known distinct (length-map call.values (ranked_value texts) ∙ is.count) words

calls_fit : (spec : Spec) (texts : List (List ℕ)) (calls : List RawCall) → HasDistinctColumns spec → AllByRecursion (IsRawCall spec) calls
    → AllByRecursion IsOfWords (map (ranked_call spec texts) calls) → AllByRecursion (Fits spec) (map (ranked_call spec texts) calls)
calls_fit spec texts [] distinct all words = tt
calls_fit spec texts (call ∷ calls) distinct all words = (fits_call spec texts call distinct all.0 words.0, calls_fit spec texts calls distinct all.1 words.1)

turns_fit : (spec : Spec) (texts : List (List ℕ)) (turns : List RawTurn) → HasDistinctColumns spec → AllByRecursion (IsRawTurn spec) turns
    → AllByRecursion (λ turn. AllByRecursion IsOfWords turn.calls) (ranked_round spec texts turns) → TurnsFit spec (ranked_round spec texts turns)
turns_fit spec texts [] distinct all words = tt
turns_fit spec texts (turn ∷ turns) distinct all words =
    (calls_fit spec texts turn.calls distinct all.0.calls words.0, turns_fit spec texts turns distinct all.1 words.1)

pub RoundsFit-ranked_over : (spec : Spec) (texts : List (List ℕ)) (rounds : List (List RawTurn)) → HasDistinctColumns spec
    → AllByRecursion (AllByRecursion (IsRawTurn spec)) rounds → AreOfWords (ranked_rounds spec texts rounds) → RoundsFit spec (ranked_rounds spec texts rounds)
RoundsFit-ranked_over spec texts [] distinct all words = tt
RoundsFit-ranked_over spec texts (round ∷ rounds) distinct all words =
    (turns_fit spec texts round distinct all.0 words.0, RoundsFit-ranked_over spec texts rounds distinct all.1 words.1)

-- so over a text's specification
pub RoundsFit-ranked_rounds : (spec : Spec) (texts : List (List ℕ)) (rounds : List (List RawTurn)) → IsWellNamed spec
    → AllByRecursion (AllByRecursion (IsRawTurn spec)) rounds → AreOfWords (ranked_rounds spec texts rounds) → RoundsFit spec (ranked_rounds spec texts rounds)
RoundsFit-ranked_rounds spec texts rounds named all words = RoundsFit-ranked_over spec texts rounds named.patterns all words

-- ---- texts are known

-- some of the texts
abbrev Within : List (List ℕ) → List (List ℕ) → Type 0
Within some texts = (text : List ℕ) → In text some → In text texts

rank_below : (texts : List (List ℕ)) (text : List ℕ) (rank : Option ℕ) → rank_of texts text ≡ rank → IsSome rank → unwrap_or rank 0 < length texts
rank_below texts text None is some = absurd (false≢true some)
rank_below texts text (Some rank) is some = slice_get_within texts rank text (slice_get-rank_of texts text rank is)

known_value : (kind : ColKind) (texts : List (List ℕ)) (value : RawValue) → kind ≡ kinds.Text → is_wrong_kind kind value ≡ false → Within (texts_in_value value) texts → ranked_value (texts_of texts) value < length (texts_of texts)
known_value kinds.Num texts value is right within = absurd cc
known_value kinds.Text texts (raw.Number number) is right within = absurd cc
known_value kinds.Text texts (raw.Text text) is right within =
    rank_below (texts_of texts) text (rank_of (texts_of texts) text) refl ((known-texts_of texts text).1 (within text (inl refl)))

known_pairs : (spec : Spec) (texts : List (List ℕ)) (cols : List ℕ) (values : List RawValue) → has_wrong_kind spec cols values ≡ false → Within (flat_map texts_in_value values) texts → HasKnownTexts spec (texts_of texts) (zip cols (map (ranked_value (texts_of texts)) values))
known_pairs spec texts [] values right within p m is = absurd m
known_pairs spec texts (col ∷ cols) [] right within p m is = absurd m
known_pairs spec texts (col ∷ cols) (value ∷ values) right within p (inl e) is =
    let parts = or_parts (is_wrong_kind (kind_at spec col) value) (has_wrong_kind spec cols values) right in
    let here = known_value (kind_at spec col) texts value (ap (λ (q : ℕ × ℕ). kind_at spec q.0) (sym e) ∙ is) parts.0 (λ text m. within text (append_in_left text (texts_in_value value) (flat_map texts_in_value values) m)) in
    subst (λ (q : ℕ × ℕ). q.1 < length (texts_of texts)) (sym e) here
known_pairs spec texts (col ∷ cols) (value ∷ values) right within p (inr m) is =
    let parts = or_parts (is_wrong_kind (kind_at spec col) value) (has_wrong_kind spec cols values) right in
    known_pairs spec texts cols values parts.1 (λ text n. within text (append_in_right text (texts_in_value value) (flat_map texts_in_value values) n)) p m is

call_known : (spec : Spec) (texts : List (List ℕ)) (call : RawCall) → IsRawCall spec call → Within (texts_in_call call) texts
    → HasKnownValues spec (texts_of texts) (ranked_call spec (texts_of texts) call)
call_known spec texts call right within =
    let vals = map (ranked_value (texts_of texts)) call.values in
    let count = length-map call.values (ranked_value (texts_of texts)) ∙ right.count in
    let known = known_pairs spec texts (written_columns_at spec call.op) call.values right.kinds within in
    record {
      args = λ p m is. known p (args_written spec call.op vals p m) is;
      bounds = λ p m is. known p (bounds_written spec call.op vals p count m) is;
    }

-- the texts of the first, and those of the others
within_first : (xs ys texts : List (List ℕ)) → Within (xs ++ ys) texts → Within xs texts
within_first xs ys texts within text m = within text (append_in_left text xs ys m)

within_others : (xs ys texts : List (List ℕ)) → Within (xs ++ ys) texts → Within ys texts
within_others xs ys texts within text m = within text (append_in_right text xs ys m)

calls_known : (spec : Spec) (texts : List (List ℕ)) (calls : List RawCall) → AllByRecursion (IsRawCall spec) calls → Within (flat_map texts_in_call calls) texts
    → AllByRecursion (HasKnownValues spec (texts_of texts)) (map (ranked_call spec (texts_of texts)) calls)
calls_known spec texts [] all within = tt
calls_known spec texts (call ∷ calls) all within = (
  call_known spec texts call all.0 (within_first (texts_in_call call) (flat_map texts_in_call calls) texts within),
  calls_known spec texts calls all.1 (within_others (texts_in_call call) (flat_map texts_in_call calls) texts within),
)

turns_known : (spec : Spec) (texts : List (List ℕ)) (turns : List RawTurn) → AllByRecursion (IsRawTurn spec) turns → Within (texts_in_round turns) texts
    → AllByRecursion (λ turn. AllByRecursion (HasKnownValues spec (texts_of texts)) turn.calls) (ranked_round spec (texts_of texts) turns)
turns_known spec texts [] all within = tt
turns_known spec texts (turn ∷ turns) all within = (
  calls_known spec texts turn.calls all.0.calls (within_first (texts_in_turn turn) (texts_in_round turns) texts within),
  turns_known spec texts turns all.1 (within_others (texts_in_turn turn) (texts_in_round turns) texts within),
)

rounds_known : (spec : Spec) (texts : List (List ℕ)) (rounds : List (List RawTurn)) → AllByRecursion (AllByRecursion (IsRawTurn spec)) rounds
    → Within (texts_in rounds) texts
    → AllByRecursion (AllByRecursion (λ turn. AllByRecursion (HasKnownValues spec (texts_of texts)) turn.calls)) (ranked_rounds spec (texts_of texts) rounds)
rounds_known spec texts [] all within = tt
rounds_known spec texts (round ∷ rounds) all within = (
  turns_known spec texts round all.0 (within_first (texts_in_round round) (texts_in rounds) texts within),
  rounds_known spec texts rounds all.1 (within_others (texts_in_round round) (texts_in rounds) texts within),
)

pub KnowsTexts-work_of : (spec : Spec) (draft : Draft) → IsDraft spec draft → KnowsTexts spec (work_of spec draft)
KnowsTexts-work_of spec draft is = rounds_known spec (texts_in draft.rounds) draft.rounds is.turns (λ text m. m)

-- ---- where no groups are read

abbrev work_found : Work → Result Work Broken
work_found work = Ok work

same_work : (x y : Work) → work_found x ≡ work_found y → x ≡ y
same_work x y e = cc

-- where no groups are read, each turn of a workload has one call
abbrev pub TurnsWithoutGroupsAreSingle : Type 0
TurnsWithoutGroupsAreSingle = (spec : Spec) (place : TextPlace) (work : Work) → work_reading Nothing spec place ≡ Ok work → HasSingleTurns work

pub turns_without_groups_are_single : TurnsWithoutGroupsAreSingle
turns_without_groups_are_single spec place work e = by_draft (reading_all Nothing (past_end_of place.text) spec (content_from place)) refl e
  where
    by_draft : (found : Result Draft Broken) → reading_all Nothing (past_end_of place.text) spec (content_from place) ≡ found
        → work_by spec found ≡ Ok work → HasSingleTurns work
    by_draft (Err broken) is q = absurd cc
    by_draft (Ok draft) is q =
        subst (λ (w : Work). HasSingleTurns w) (same_work (work_of spec draft) work q)
        (HasSingleTurns-work_with spec _ draft (IsOfAlso-reading_all Nothing (past_end_of place.text) spec (content_from place) draft is))
