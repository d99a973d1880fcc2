-- The lines of a workload up to its `end`, read one after another, and what they mean.
use Rattle.std.proofs.Common.{◌≡◌, ℕ, Bool, true, false, cond, List, [], ◌∷◌, ◌++◌, Result, Ok, Err, refl, sym, ap, ◌∙◌, subst, inl}
use Rattle.std.specs.Prelude.{MatchResult, ◌↔◌}
use Rattle.rc_text.specs.Language as language
use Rattle.rc_text.specs.LanguageLaws as laws
use Rattle.rc_work.specs.Imports.{ContentLine, TextPlace, content_from, past_end_of, Spec, Broken, LineRule}
use Rattle.rc_work.specs.declared.also.Also.{Also}
use Rattle.rc_work.specs.declared.draft.Draft.{Draft}
use Rattle.rc_work.specs.declared.work.Work.{Work}
use Rattle.rc_work.specs.WorkGrammar.{broken_at, after_bytes, threads_of, headed_by, draft_of, reading_all}
use Rattle.rc_work.specs.Ranking.{work_by}
use Rattle.rc_work.specs.PartGrammar.{DraftPart, WorkPart, draft_part, draft_parts, part_from, part_behind, part_all, work_part, work_part_by, part_reading}
use Rattle.rc_work.specs.FirstBroken.{AreTaken, LinesMean, ContentMeans, work_part_language, PartContentMeans, PartMeans}
use Rattle.rc_work.specs.PrefixLineLaws.{unended}
use Rattle.rc_work.specs.ReadingLaws.{are_whole, means-content}

-- ---- the part that is read is what the lines mean

module _ (also : Also) (past_end : ℕ) (spec : Spec) where
  -- a line that ends the part or doesn't
  at_given : (ended : Bool) (next : Draft) (line : ContentLine) (others : List ContentLine) (drafted : Result DraftPart Broken)
      (worked : Result WorkPart Broken) → work_part_by spec drafted ≡ worked
      → work_part_by spec (cond ended (Ok (draft_part next line others)) drafted) ≡ cond ended (Ok (work_part spec next line others)) worked
  at_given true next line others drafted worked same = refl
  at_given false next line others drafted worked same = same

  at_line : (after : Result Draft LineRule) (line : ContentLine) (others : List ContentLine)
      (drafted : Draft → Result DraftPart Broken) (worked : Draft → Result WorkPart Broken)
      → ((next : Draft) → work_part_by spec (drafted next) ≡ worked next)
      → work_part_by spec (language.reading_after (draft_parts also spec) after line others drafted)
      ≡ language.reading_after (work_part_language also spec) after line others worked
  at_line (Err rule) line others drafted worked same = refl
  at_line (Ok next) line others drafted worked same = at_given next.ended next line others (drafted next) (worked next) (same next)

  same_lines : (draft : Draft) (lines : List ContentLine)
      → work_part_by spec (language.reading_from (draft_parts also spec) past_end draft lines)
      ≡ language.reading_from (work_part_language also spec) past_end draft lines
  same_lines draft [] = refl
  same_lines draft (line ∷ others) =
      at_line (after_bytes also spec draft line.bytes) line others (λ next. language.reading_from (draft_parts also spec) past_end next others)
      (λ next. language.reading_from (work_part_language also spec) past_end next others) (λ next. same_lines next others)

  same_reading : (draft : Draft) (lines : List ContentLine) → work_part_by spec (part_from also past_end spec draft lines)
      ≡ language.reading_from (work_part_language also spec) past_end draft lines
  unfolding part_from
  same_reading draft lines = same_lines draft lines

  means-part_from : (draft : Draft) (lines : List ContentLine)
      → language.LinesMean (work_part_language also spec) past_end draft lines (work_part_by spec (part_from also past_end spec draft lines))
  means-part_from draft lines =
      subst (λ (gives : Result WorkPart Broken). language.LinesMean (work_part_language also spec) past_end draft lines gives)
      (sym (same_reading draft lines)) (laws.means-reading (work_part_language also spec) past_end draft lines)

  lines-mean : (draft : Draft) (lines : List ContentLine) (gives : Result WorkPart Broken)
      → language.LinesMean (work_part_language also spec) past_end draft lines gives → work_part_by spec (part_from also past_end spec draft lines) ≡ gives
  lines-mean draft lines gives means =
      same_reading draft lines ∙ laws.reading-means (work_part_language also spec) past_end draft lines gives means

  -- ---- the header

  means-head : (line : ContentLine) (others : List ContentLine) (found : Result ℕ LineRule)
      → MatchResult found
      (λ threads. language.LinesMean (work_part_language also spec) past_end (draft_of threads) others
      (work_part_by spec (part_behind also past_end spec (headed_by found line others))))
      (λ rule. broken_at rule line.number ≡ work_part_by spec (part_behind also past_end spec (headed_by found line others)))
  means-head line others (Ok threads) = means-part_from (draft_of threads) others
  means-head line others (Err rule) = refl

  means-part : (lines : List ContentLine) → PartContentMeans also past_end spec lines (work_part_by spec (part_all also past_end spec lines))
  means-part [] = refl
  means-part (line ∷ others) = means-head line others (threads_of line.bytes)

  head-means : (line : ContentLine) (others : List ContentLine) (gives : Result WorkPart Broken) (found : Result ℕ LineRule)
      → MatchResult found (λ threads. language.LinesMean (work_part_language also spec) past_end (draft_of threads) others gives)
      (λ rule. broken_at rule line.number ≡ gives) → work_part_by spec (part_behind also past_end spec (headed_by found line others)) ≡ gives
  head-means line others gives (Ok threads) means = lines-mean (draft_of threads) others gives means
  head-means line others gives (Err rule) means = means

  part-means : (lines : List ContentLine) (gives : Result WorkPart Broken) → PartContentMeans also past_end spec lines gives
      → work_part_by spec (part_all also past_end spec lines) ≡ gives
  part-means [] gives means = means
  part-means (line ∷ others) gives means = head-means line others gives (threads_of line.bytes) means

-- the part that is read is what the lines mean, and nothing else is
pub part_means : (also : Also) (spec : Spec) (place : TextPlace) (gives : Result WorkPart Broken)
    → (part_reading also spec place ≡ gives) ↔ PartMeans also spec place gives
part_means also spec place gives = (
  (λ e. subst (λ (x : Result WorkPart Broken). PartMeans also spec place x) e (means-part also (past_end_of place.text) spec (content_from place))),
  (λ means. part-means also (past_end_of place.text) spec (content_from place) gives means),
)

-- ---- the first lines are a workload

module _ (also : Also) (spec : Spec) where
  -- lines before the last, which is `end`
  record IsReached (draft : Draft) (front : List ContentLine) (last : ContentLine) (next : Draft) : Type 0 where
    before : Draft
    taken : language.AreTaken (work_part_language also spec) draft front before
    gives : after_bytes also spec before last.bytes ≡ Ok next

  -- a draft behind which a line is taken hasn't ended
  going : (draft : Draft) (front : List ContentLine) (last : ContentLine) (next : Draft)
      → AreTaken also spec draft (front ++ last ∷ []) next → draft.ended ≡ false
  going draft [] last next (given, gives, open_still, more) = unended also spec draft given last.bytes gives
  going draft (line ∷ front) last next (given, gives, open_still, more) = unended also spec draft given line.bytes gives

  reached : (draft : Draft) (front : List ContentLine) (last : ContentLine) (next : Draft)
      → AreTaken also spec draft (front ++ last ∷ []) next → IsReached draft front last next
  reached draft [] last next (given, gives, open_still, same) =
      record { before = draft; taken = refl; gives = gives ∙ ap (λ (d : Draft). Ok d) same }
  reached draft (line ∷ front) last next (given, gives, open_still, more) =
      let later = reached given front last next more in
      record { before = later.before; taken = (given, gives, going given front last next more, later.taken); gives = later.gives }

  module _ (past_end : ℕ) (last : ContentLine) (others : List ContentLine) (work : Work) where
    behind_head : (line : ContentLine) (front : List ContentLine) (found : Result ℕ LineRule)
        → MatchResult found (λ threads. LinesMean also past_end spec (draft_of threads) (front ++ last ∷ []) (Ok work))
        (λ rule. broken_at {X = Work} rule line.number ≡ Ok work)
        → MatchResult found
        (λ threads. language.LinesMean (work_part_language also spec) past_end (draft_of threads) (front ++ last ∷ others)
        (Ok (record { work = work; last = last; others = others })))
        (λ rule. broken_at {X = WorkPart} rule line.number ≡ Ok (record { work = work; last = last; others = others }))
    behind_head line front (Err rule) means = absurd cc
    behind_head line front (Ok threads) means =
        let whole = are_whole also past_end spec (draft_of threads) (front ++ last ∷ []) work means in
        let is = reached (draft_of threads) front last whole.last whole.taken in
        inl (record {
          before = is.before;
          last = last;
          others = others;
          given = whole.last;
          reached = record { front = front; whole = refl; taken = is.taken };
          gives = is.gives;
          ended = whole.ended;
          value = ap (λ (w : Work). record { work = w; last = last; others = others }) whole.value;
        })

    begun : (front : List ContentLine) → ContentMeans also past_end spec (front ++ last ∷ []) (Ok work)
        → PartContentMeans also past_end spec (front ++ last ∷ others) (Ok (record { work = work; last = last; others = others }))
    begun [] means = absurd (alone last (threads_of last.bytes) means)
      where
        alone : (line : ContentLine) (found : Result ℕ LineRule)
            → MatchResult found (λ threads. LinesMean also past_end spec (draft_of threads) [] (Ok work)) (λ rule. broken_at {X = Work} rule line.number ≡ Ok work)
            → ⊥
        alone line (Err rule) none = cc
        alone line (Ok threads) none =
            let whole = are_whole also past_end spec (draft_of threads) [] work none in
            let same = whole.taken in
            let ended = whole.ended in cc
    begun (line ∷ front) means = behind_head line front (threads_of line.bytes) means

-- where the first lines are a workload, it is read, whatever stands behind it
abbrev pub WorksAreParts : Type 0
WorksAreParts = (also : Also) (spec : Spec) (place : TextPlace) (front : List ContentLine) (last : ContentLine) (others : List ContentLine) (work : Work)
    → content_from place ≡ front ++ last ∷ others
    → work_by spec (reading_all also (past_end_of place.text) spec (front ++ last ∷ [])) ≡ Ok work
    → part_reading also spec place ≡ Ok (record { work = work; last = last; others = others })

pub works_are_parts : WorksAreParts
works_are_parts also spec place front last others work lines gives =
    let past_end = past_end_of place.text in
    ap (λ (l : List ContentLine). work_part_by spec (part_all also past_end spec l)) lines
    ∙ part-means also past_end spec (front ++ last ∷ others) (Ok (record { work = work; last = last; others = others }))
    (begun also spec past_end last others work front
    (subst (λ (x : Result Work Broken). ContentMeans also past_end spec (front ++ last ∷ []) x) gives
    (means-content also past_end spec (front ++ last ∷ []))))
