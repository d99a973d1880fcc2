-- What holds of each workload that is read: its limits, its texts, and that its calls fit.
use Rattle.std.proofs.Common.{◌≡◌, ℕ, ◌*◌, ◌<◌, ◌≤◌, ◌^◌, List, [], ◌∷◌, length, map, Ok, sym, subst, arith}
use Rattle.rc_text_laws.specs.Imports.{sum_by, AllByRecursion, flat_map, each_in, in_map, ContentLine, TextPlace, content_from, past_end_of, IsInRange, IsWellNamed, Spec, text_cmp, texts_of, Also, Work, HasKnownColumns-named, written_columns_at-few, IsOfWords-call_of, IsRawCall, IsRawTurn, AreOfWords, IsOfWords, RoundsFit, KeepsLimits, KnowsTexts, count_raw, texts_in_value, texts_in_call, texts_in_turn, texts_in_round, texts_in, ranked_value, ranked_call, ranked_round, ranked_rounds, work_by, work_of, work_reading, KeepsLimits-work_with, RoundsFit-ranked_rounds, KnowsTexts-work_of, AreTexts, reading_all}
use Rattle.std.proofs.lemmas.List.{length-append}
use Rattle.std.proofs.lemmas.List.Elements.{recursion_from_All}
use Rattle.std.proofs.lemmas.List.Sums.{sum_by-cons}
use Rattle.rc_text_laws.specs.LegalLaws.{length-gather-le}
use Rattle.rc_text_laws.specs.QuotableLaws.{WorkValue, WorkCall, WorkTurn, WorkDraft, IsReadValue, HasReadValues, TurnHasReadValues, HaveReadValues, IsReadDraft, draft_texts, work_of_lines}

-- ---- how many texts there are

length-values : (values : List WorkValue) → AllByRecursion IsReadValue values
    → length (flat_map texts_in_value values) ≤ length values
length-values [] are = omega arith
length-values (value ∷ values) are =
    omega (
      arith,
      length-append (texts_in_value value) (flat_map texts_in_value values),
      are.0.one_text,
      length-values values are.1,
    )

module _ (spec : Spec) (named : IsWellNamed spec) (ranged : IsInRange spec) where
  length-call : (call : WorkCall) → IsRawCall spec call → HasReadValues call
      → length (texts_in_call call) ≤ 64
  length-call call is read =
      omega (
        arith,
        length-values call.values (recursion_from_All IsReadValue call.values read),
        is.count,
        written_columns_at-few spec call.op (HasKnownColumns-named spec ranged named),
      )

  length-calls : (calls : List WorkCall) → AllByRecursion (IsRawCall spec) calls
      → AllByRecursion HasReadValues calls
      → length (flat_map texts_in_call calls) ≤ 64 * length calls
  length-calls [] are read = omega arith
  length-calls (call ∷ calls) are read =
      omega (
        arith,
        length-append (texts_in_call call) (flat_map texts_in_call calls),
        length-call call are.0 read.0,
        length-calls calls are.1 read.1,
      )

  length-round : (round : List WorkTurn) → AllByRecursion (IsRawTurn spec) round
      → AllByRecursion TurnHasReadValues round
      → length (texts_in_round round) ≤ 64 * sum_by (λ (t : WorkTurn). length t.calls) round
  length-round [] are read = omega arith
  length-round (turn ∷ round) are read =
      omega (
        arith,
        length-append (texts_in_turn turn) (texts_in_round round),
        length-calls turn.calls are.0.calls read.0,
        length-round round are.1 read.1,
        sum_by-cons (λ (t : WorkTurn). length t.calls) turn round,
      )

  length-texts_in : (rounds : List (List WorkTurn))
      → AllByRecursion (AllByRecursion (IsRawTurn spec)) rounds → HaveReadValues rounds
      → length (texts_in rounds) ≤ 64 * count_raw rounds
  length-texts_in [] are read = omega arith
  length-texts_in (round ∷ rounds) are read =
      omega (
        arith,
        length-append (texts_in_round round) (texts_in rounds),
        length-round round are.0 read.0,
        length-texts_in rounds are.1 read.1,
        sum_by-cons (sum_by (λ (t : WorkTurn). length t.calls)) round rounds,
      )

  -- ---- calls fit

  call_words : (texts : List (List ℕ)) (call : WorkCall) → length texts < 2 ^ 64
      → HasReadValues call → IsOfWords (ranked_call spec texts call)
  call_words texts call few read =
      IsOfWords-call_of spec call.op (map (ranked_value texts) call.values) named ranged
      (λ n m.
      let found = in_map (ranked_value texts) n call.values m in
      subst (λ v. v < 2 ^ 64) (sym found.2)
      ((each_in IsReadValue call.values (recursion_from_All IsReadValue call.values read) found.0 found.1).small texts few))

  calls_words : (texts : List (List ℕ)) (calls : List WorkCall) → length texts < 2 ^ 64
      → AllByRecursion HasReadValues calls
      → AllByRecursion IsOfWords (map (ranked_call spec texts) calls)
  calls_words texts [] few read = tt
  calls_words texts (call ∷ calls) few read =
      (call_words texts call few read.0, calls_words texts calls few read.1)

  round_words : (texts : List (List ℕ)) (round : List WorkTurn) → length texts < 2 ^ 64
      → AllByRecursion TurnHasReadValues round
      → AllByRecursion (λ turn. AllByRecursion IsOfWords turn.calls) (ranked_round spec texts round)
  round_words texts [] few read = tt
  round_words texts (turn ∷ round) few read =
      (calls_words texts turn.calls few read.0, round_words texts round few read.1)

  rounds_words : (texts : List (List ℕ)) (rounds : List (List WorkTurn)) → length texts < 2 ^ 64
      → HaveReadValues rounds
      → AreOfWords (ranked_rounds spec texts rounds)
  rounds_words texts [] few read = tt
  rounds_words texts (round ∷ rounds) few read =
      (round_words texts round few read.0, rounds_words texts rounds few read.1)

  draft_fits : (draft : WorkDraft) → IsReadDraft spec draft
      → RoundsFit spec (work_of spec draft).rounds
  draft_fits draft read =
      let texts = texts_of (texts_in draft.rounds) in
      let few : length texts < 2 ^ 64 =
      omega (
        arith,
        length-gather-le text_cmp (texts_in draft.rounds),
        length-texts_in draft.rounds read.is.turns read.values.rounds,
        read.is.few_calls,
      ) in
      RoundsFit-ranked_rounds spec texts draft.rounds named read.is.turns
      (rounds_words texts draft.rounds few read.values.rounds)

-- what holds of a workload that is read behind a specification
pub record IsReadWork (spec : Spec) (work : Work) : Type 0 where
  pub texts : AreTexts work.ranks
  pub limits : KeepsLimits work
  pub known : KnowsTexts spec work
  pub fit : RoundsFit spec work.rounds

-- so of one that lines give
pub are_read_lines : (also : Also) (past_end : ℕ) (spec : Spec) (lines : List ContentLine) (work : Work) → IsWellNamed spec
    → IsInRange spec → work_by spec (reading_all also past_end spec lines) ≡ Ok work
    → IsReadWork spec work
are_read_lines also past_end spec lines work named ranged e =
    let from = work_of_lines also past_end spec lines work e in
    subst (IsReadWork spec) from.value (record {
      texts = draft_texts spec from.draft from.read;
      limits = KeepsLimits-work_with spec (texts_of (texts_in from.draft.rounds)) from.draft from.read.is;
      known = KnowsTexts-work_of spec from.draft from.read.is;
      fit = draft_fits spec named ranged from.draft from.read;
    })

-- a workload that is read keeps its limits, knows its texts, each of which can stand in quotes, and its calls
-- fit
pub is_read_work : (also : Also) (spec : Spec) (place : TextPlace) (work : Work) → IsWellNamed spec
    → IsInRange spec → work_reading also spec place ≡ Ok work
    → IsReadWork spec work
is_read_work also spec place work named ranged e =
    are_read_lines also (past_end_of place.text) spec (content_from place) work named ranged e
