-- The lines of a workload, read one after another, and what they mean.
use Rattle.std.proofs.Common.{◌≡◌, ℕ, Bool, true, false, cond, List, [], ◌∷◌, Result, Ok, Err, refl, sym, ◌∙◌, subst, inl, inr}
use Rattle.std.specs.Prelude.{MatchResult, ◌↔◌}
use Rattle.rc_text.specs.Language as language
use Rattle.rc_work.specs.Imports.{Language, ContentLine, TextPlace, content_from, past_end_of, Spec, Broken, LineRule, S8}
use Rattle.rc_text.specs.LanguageLaws as laws
use Rattle.rc_work.specs.declared.also.Also.{Also}
use Rattle.rc_work.specs.declared.draft.Draft.{Draft}
use Rattle.rc_work.specs.declared.work.Work.{Work}
use Rattle.rc_work.specs.WorkGrammar.{broken_at, after_bytes, drafts, reading_from, threads_of, headed_by, draft_of, reading_behind, reading_all}
use Rattle.rc_work.specs.Ranking.{work_of, work_by, work_reading}
use Rattle.rc_work.specs.FirstBroken.{work_language, AreTaken, LinesMean, ContentMeans, WorkMeans}

-- ---- the workload of the draft that is read is what the lines mean

module _ (also : Also) (past_end : ℕ) (spec : Spec) where
  at_end : (ended : Bool) (draft : Draft)
      → work_by spec (cond ended (Ok draft) (broken_at S8 past_end)) ≡ cond ended (Ok (work_of spec draft)) (broken_at S8 past_end)
  at_end true draft = refl
  at_end false draft = refl

  at_line : (after : Result Draft LineRule) (line : ContentLine) (others : List ContentLine)
      (drafted : Draft → Result Draft Broken) (worked : Draft → Result Work Broken)
      → ((next : Draft) → work_by spec (drafted next) ≡ worked next)
      → work_by spec (language.reading_after (drafts also spec) after line others drafted)
      ≡ language.reading_after (work_language also spec) after line others worked
  at_line (Err rule) line others drafted worked same = refl
  at_line (Ok next) line others drafted worked same = same next

  same_lines : (draft : Draft) (lines : List ContentLine) → work_by spec (language.reading_from (drafts also spec) past_end draft lines)
      ≡ language.reading_from (work_language also spec) past_end draft lines
  same_lines draft [] = at_end draft.ended draft
  same_lines draft (line ∷ others) =
      at_line (after_bytes also spec draft line.bytes) line others (λ next. language.reading_from (drafts also spec) past_end next others)
      (λ next. language.reading_from (work_language also spec) past_end next others) (λ next. same_lines next others)

  same_reading : (draft : Draft) (lines : List ContentLine) → work_by spec (reading_from also past_end spec draft lines)
      ≡ language.reading_from (work_language also spec) past_end draft lines
  unfolding reading_from
  same_reading draft lines = same_lines draft lines

  means-reading_from : (draft : Draft) (lines : List ContentLine)
      → LinesMean also past_end spec draft lines (work_by spec (reading_from also past_end spec draft lines))
  means-reading_from draft lines =
      subst (λ (gives : Result Work Broken). LinesMean also past_end spec draft lines gives) (sym (same_reading draft lines))
      (laws.means-reading (work_language also spec) past_end draft lines)

  lines-mean : (draft : Draft) (lines : List ContentLine) (gives : Result Work Broken)
      → LinesMean also past_end spec draft lines gives → work_by spec (reading_from also past_end spec draft lines) ≡ gives
  lines-mean draft lines gives means =
      same_reading draft lines ∙ laws.reading-means (work_language also spec) past_end draft lines gives means

-- where a workload is read, all lines are taken, and `end` is one of them
pub record AreWhole (also : Also) (spec : Spec) (draft : Draft) (lines : List ContentLine) (work : Work) : Type 0 where
  pub last : Draft
  pub taken : AreTaken also spec draft lines last
  pub ended : last.ended ≡ true
  pub value : work_of spec last ≡ work

ended_whole : (past_end : ℕ) (spec : Spec) (last : Draft) (ended : Bool) (work : Work)
    → cond ended (Ok (work_of spec last)) (broken_at S8 past_end) ≡ Ok work → (ended ≡ true) × (work_of spec last ≡ work)
ended_whole past_end spec last true work e = (refl, cc)
ended_whole past_end spec last false work e = absurd cc

pub are_whole : (also : Also) (past_end : ℕ) (spec : Spec) (draft : Draft) (lines : List ContentLine) (work : Work)
    → LinesMean also past_end spec draft lines (Ok work) → AreWhole also spec draft lines work
are_whole also past_end spec draft lines work (inl found) = let last = found.ended in absurd cc
are_whole also past_end spec draft lines work (inr out) =
    let ends_so = ended_whole past_end spec out.next out.next.ended work out.out in
    record { last = out.next; taken = out.taken; ended = ends_so.0; value = ends_so.1 }

-- ---- the header

module _ (also : Also) (past_end : ℕ) (spec : Spec) where
  means-head : (line : ContentLine) (others : List ContentLine) (found : Result ℕ LineRule)
      → MatchResult found
      (λ threads. LinesMean also past_end spec (draft_of threads) others (work_by spec (reading_behind also past_end spec (headed_by found line others))))
      (λ rule. broken_at rule line.number ≡ work_by spec (reading_behind also past_end spec (headed_by found line others)))
  means-head line others (Ok threads) = means-reading_from also past_end spec (draft_of threads) others
  means-head line others (Err rule) = refl

  pub means-content : (lines : List ContentLine) → ContentMeans also past_end spec lines (work_by spec (reading_all also past_end spec lines))
  means-content [] = refl
  means-content (line ∷ others) = means-head line others (threads_of line.bytes)

  head-means : (line : ContentLine) (others : List ContentLine) (gives : Result Work Broken) (found : Result ℕ LineRule)
      → MatchResult found (λ threads. LinesMean also past_end spec (draft_of threads) others gives) (λ rule. broken_at rule line.number ≡ gives)
      → work_by spec (reading_behind also past_end spec (headed_by found line others)) ≡ gives
  head-means line others gives (Ok threads) means = lines-mean also past_end spec (draft_of threads) others gives means
  head-means line others gives (Err rule) means = means

  content-means : (lines : List ContentLine) (gives : Result Work Broken) → ContentMeans also past_end spec lines gives
      → work_by spec (reading_all also past_end spec lines) ≡ gives
  content-means [] gives means = means
  content-means (line ∷ others) gives means = head-means line others gives (threads_of line.bytes) means

-- what is read is what the lines mean, and nothing else is
pub work_means : (also : Also) (spec : Spec) (place : TextPlace) (gives : Result Work Broken)
    → (work_reading also spec place ≡ gives) ↔ WorkMeans also spec place gives
work_means also spec place gives = (
  (λ e. subst (λ (x : Result Work Broken). WorkMeans also spec place x) e (means-content also (past_end_of place.text) spec (content_from place))),
  (λ means. content-means also (past_end_of place.text) spec (content_from place) gives means),
)
