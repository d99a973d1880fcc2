-- What each line keeps holds of what is read.
use Rattle.std.proofs.Common.{◌≡◌, ℕ, List, [], ◌∷◌, Option, Some, None, Result, Ok, Err, refl, subst}
use Rattle.rc_text.specs.Language as language
use Rattle.rc_text.specs.LanguageLaws as laws
use Rattle.rc_reader.specs.Imports.{ContentLine, start_of, content_from, past_end_of, HasColumnAndNode, empty, Spec}
use Rattle.rc_reader.specs.declared.version.Version.{Version}
use Rattle.rc_reader.specs.FirstBroken.{AreTaken}
use Rattle.rc_reader.specs.Grammar.{Reading, Broken, spec_language, reading_from, header_version, reading_behind, reading_all, spec_reading, nothing_after, alone, spec_of}
use Rattle.rc_reader.specs.ReadingLaws.{means-reading_from, reaches_end}
use Rattle.rc_reader.specs.RulesLaws.{KeepsIn, Keeps, keeps-after_bytes}
use Rattle.rc_reader.specs.TextLimitsLaws.{populated-end}

-- what holds of each specification that lines behind the header give holds of what a text gives
abbrev IsOfEach : (Version → Spec → Type 0) → Type 0
IsOfEach P = (version : Version) (past_end : ℕ) (lines : List ContentLine) (reading : Reading)
    → reading_from version past_end empty lines ≡ Ok reading → P reading.version reading.spec

module _ (P : Version → Spec → Type 0) (each : IsOfEach P) where
  of_behind : (past_end : ℕ) (found : Option Version) (line : ContentLine) (others : List ContentLine) (reading : Reading)
      → reading_behind past_end found line others ≡ Ok reading → P reading.version reading.spec
  of_behind past_end None line others reading e = absurd cc
  of_behind past_end (Some version) line others reading e = each version past_end others reading e

  of_content : (past_end : ℕ) (lines : List ContentLine) (reading : Reading) → reading_all past_end lines ≡ Ok reading
      → P reading.version reading.spec
  of_content past_end [] reading e = absurd cc
  of_content past_end (line ∷ others) reading e = of_behind past_end (header_version line.bytes) line others reading e

  of_reading : (text : List ℕ) (reading : Reading) → spec_reading text ≡ Ok reading → P reading.version reading.spec
  of_reading text reading e = of_content (past_end_of text) (content_from (start_of text)) reading e

nothing_more : (found : Spec) (lines : List ContentLine) (spec : Spec) → nothing_after found lines ≡ Ok spec → found ≡ spec
nothing_more found [] spec e = cc
nothing_more found (line ∷ lines) spec e = absurd cc

-- where a text gives a specification alone, it gives it
pub spec_read : (text : List ℕ) (spec : Spec) (gives : Result Reading Broken) → spec_reading text ≡ gives → alone gives ≡ Ok spec
    → (reading : Reading) × (spec_reading text ≡ Ok reading) × (reading.spec ≡ spec)
spec_read text spec (Err broken) is e = absurd cc
spec_read text spec (Ok reading) is e = (reading, is, nothing_more reading.spec reading.others spec e)

-- what the lines of a text of each version keep
module _ (P : Version → Spec → Type 0) (keeps : (version : Version) → KeepsIn version (P version)) where
  each_line : (version : Version) → laws.Keeps (spec_language version) (P version)
  each_line version spec bytes after h e = keeps-after_bytes version (P version) (keeps version) spec bytes after h e

  -- lines that are taken keep it
  pub taken_keeps_version : (version : Version) (spec : Spec) (lines : List ContentLine) (next : Spec)
      → AreTaken version spec lines next → P version spec → P version next
  taken_keeps_version version spec lines next taken h =
      laws.taken_keeps (spec_language version) (P version) (each_line version) spec lines next taken h

  lines_keep : ((version : Version) → P version empty) → IsOfEach P
  unfolding reading_from
  lines_keep h version past_end lines reading e =
      laws.read_keeps (spec_language version) (P version) (λ (read : Reading). P read.version read.spec) (each_line version)
      (λ spec last others holds. holds) (λ at spec read holds out. absurd cc) past_end empty lines reading (h version) e

  -- so it holds of what a text gives
  pub read_keeps_version : ((version : Version) → P version empty) → (text : List ℕ) (reading : Reading)
      → spec_reading text ≡ Ok reading → P reading.version reading.spec
  read_keeps_version h text reading e = of_reading P (lines_keep h) text reading e

-- what they keep in texts of either version
module _ (P : Spec → Type 0) (keeps : Keeps P) where
  pub taken_keeps : (version : Version) (spec : Spec) (lines : List ContentLine) (next : Spec)
      → AreTaken version spec lines next → P spec → P next
  taken_keeps = taken_keeps_version (λ version. P) keeps

  pub read_keeps : P empty → (text : List ℕ) (reading : Reading) → spec_reading text ≡ Ok reading → P reading.spec
  read_keeps h text reading e = read_keeps_version (λ version. P) keeps (λ version. h) text reading e

  pub text_keeps : P empty → (text : List ℕ) (spec : Spec) → spec_of text ≡ Ok spec → P spec
  text_keeps h text spec e =
      let read = spec_read text spec (spec_reading text) refl e in
      subst P read.2 (read_keeps h text read.0 read.1)

-- it ends with `end`, so there is a column and a node
populated : IsOfEach (λ version. HasColumnAndNode)
populated version past_end lines reading e =
    let found = reaches_end version past_end empty lines reading
    (subst (language.LinesMean (spec_language version) past_end empty lines) e (means-reading_from version past_end empty lines)) in
    subst (λ (read : Reading). HasColumnAndNode read.spec) found.value
    (populated-end version found.before found.last.bytes found.given.ended found.given.spec found.gives found.ended)

pub read_populated : (text : List ℕ) (reading : Reading) → spec_reading text ≡ Ok reading → HasColumnAndNode reading.spec
read_populated text reading e = of_reading (λ version. HasColumnAndNode) populated text reading e
