-- The lines of a specification, read one after another, and what they mean.
use Rattle.std.proofs.Common.{◌≡◌, ℕ, Bool, true, false, List, [], ◌∷◌, Option, Some, None, Result, Ok, refl, subst, inl, inr}
use Rattle.std.specs.Prelude.{◌↔◌}
use Rattle.rc_text.specs.LanguageLaws as laws
use Rattle.rc_reader.specs.Imports.{ContentLine, start_of, content_from, past_end_of, Spec, empty}
use Rattle.rc_reader.specs.declared.version.Version.{Version}
use Rattle.rc_reader.specs.Grammar.{Reading, Broken, after_bytes, spec_language, reading_from, header_version, reading_behind, reading_all, spec_reading}
use Rattle.rc_reader.specs.FirstBroken.{ReachesEnd, LinesMean, HeadedMean, ContentMeans, TextMeans}

module _ (version : Version) where
  -- ---- one line

  -- a line that is not `end`: the others go on from the specification with it
  pub goes_on : (past_end : ℕ) (spec next : Spec) (lines : List ContentLine) (line : ContentLine) (others : List ContentLine)
      (ended : Bool) → lines ≡ line ∷ others → after_bytes version spec line.bytes ≡ Ok (record { ended = ended; spec = next })
      → ended ≡ false → reading_from version past_end spec lines ≡ reading_from version past_end next others
  unfolding reading_from
  goes_on past_end spec next lines line others ended lines-are after not-end =
      laws.goes_on (spec_language version) past_end spec lines line others _ lines-are after not-end

  -- the line `end`
  pub ends : (past_end : ℕ) (spec next : Spec) (lines : List ContentLine) (line : ContentLine) (others : List ContentLine)
      (ended : Bool) → lines ≡ line ∷ others → after_bytes version spec line.bytes ≡ Ok (record { ended = ended; spec = next })
      → ended ≡ true
      → reading_from version past_end spec lines ≡ Ok (record { version = version; spec = next; last = line; others = others })
  unfolding reading_from
  ends past_end spec next lines line others ended lines-are after is-end =
      laws.ends (spec_language version) past_end spec lines line others _ lines-are after is-end

  -- ---- what reading gives is what the lines mean

  pub means-reading_from : (past_end : ℕ) (spec : Spec) (lines : List ContentLine)
      → LinesMean version past_end spec lines (reading_from version past_end spec lines)
  unfolding reading_from
  means-reading_from past_end spec lines = laws.means-reading (spec_language version) past_end spec lines

  reading_from-means : (past_end : ℕ) (spec : Spec) (lines : List ContentLine) (gives : Result Reading Broken)
      → LinesMean version past_end spec lines gives → reading_from version past_end spec lines ≡ gives
  unfolding reading_from
  reading_from-means past_end spec lines gives means =
      laws.reading-means (spec_language version) past_end spec lines gives means

  -- what is read ends with the line `end`
  pub reaches_end : (past_end : ℕ) (spec : Spec) (lines : List ContentLine) (reading : Reading)
      → LinesMean version past_end spec lines (Ok reading) → ReachesEnd version spec lines reading
  reaches_end past_end spec lines reading (inl found) = found
  reaches_end past_end spec lines reading (inr out) = let no = out.out in absurd cc

-- ---- the header, and the text

means-behind : (past_end : ℕ) (found : Option Version) (line : ContentLine) (others : List ContentLine)
    → HeadedMean past_end found line others (reading_behind past_end found line others)
means-behind past_end None line others = refl
means-behind past_end (Some version) line others = means-reading_from version past_end empty others

behind-means : (past_end : ℕ) (found : Option Version) (line : ContentLine) (others : List ContentLine)
    (gives : Result Reading Broken) → HeadedMean past_end found line others gives
    → reading_behind past_end found line others ≡ gives
behind-means past_end None line others gives means = means
behind-means past_end (Some version) line others gives means = reading_from-means version past_end empty others gives means

means-content : (past_end : ℕ) (lines : List ContentLine) → ContentMeans past_end lines (reading_all past_end lines)
means-content past_end [] = refl
means-content past_end (line ∷ others) = means-behind past_end (header_version line.bytes) line others

content-means : (past_end : ℕ) (lines : List ContentLine) (gives : Result Reading Broken) → ContentMeans past_end lines gives
    → reading_all past_end lines ≡ gives
content-means past_end [] gives means = means
content-means past_end (line ∷ others) gives means =
    behind-means past_end (header_version line.bytes) line others gives means

pub text_means : (text : List ℕ) (gives : Result Reading Broken) → (spec_reading text ≡ gives) ↔ TextMeans text gives
text_means text gives = (
  (λ e. subst (λ (x : Result Reading Broken). TextMeans text x) e (means-content (past_end_of text) (content_from (start_of text)))),
  (λ means. content-means (past_end_of text) (content_from (start_of text)) gives means),
)
