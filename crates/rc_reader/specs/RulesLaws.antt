-- A line that is taken broke no rule, and what all such lines keep.
use Rattle.std.proofs.Common.{◌≡◌, ℕ, false, List, Option, Some, None, Result, Ok, Err, refl, subst}
use Rattle.rc_spec.specs.declared.spec.Spec.{Spec}
use Rattle.rc_reader.specs.declared.refusal.LineRule.{LineRule}
use Rattle.rc_reader.specs.declared.refusal.LineRule.TheVariants.{S2}
use Rattle.rc_reader.specs.declared.version.Version.{Version}
use Rattle.rc_reader.specs.Forms.{FormText, plain_words_of, form_of}
use Rattle.rc_reader.specs.Rules.{breaks_names, breaks_known, breaks_range, breaks_limit, breaks_order, with_line, tests, after_form}
use Rattle.rc_reader.specs.Grammar.{After, is_end, ended_by, after_form_of, after_words, after_bytes}
use Rattle.rc_reader.specs.Answers.{IsSpecRule}
use Rattle.rc_reader.specs.FormsLaws.{IsFormed, formed}
use Rattle.rc_reader.specs.JudgingLaws.{passed, refused}

-- the line of this form breaks no rule, in a text of the version, and leaves the specification `next`
pub record IsSpecLineTaken (version : Version) (spec : Spec) (form : FormText) (next : Spec) : Type 0 where
  pub names : breaks_names spec form ≡ false
  pub known : breaks_known spec form ≡ false
  pub range : breaks_range form ≡ false
  pub limit : breaks_limit version spec form ≡ false
  pub order : breaks_order spec form ≡ false
  pub value : with_line spec form ≡ next

-- a line that is read has a form that is taken
pub record IsLineTaken (version : Version) (spec : Spec) (after : After) : Type 0 where
  pub form : FormText
  pub formed : IsFormed version form
  pub taken : IsSpecLineTaken version spec form after.spec
  pub ended : is_end form ≡ after.ended

abbrev ok_after : After → Result After LineRule
ok_after after = Ok after

same_after : (x y : After) → ok_after x ≡ ok_after y → x ≡ y
same_after x y e = cc

-- a line of a text of the version that is taken leaves P of the specification true
abbrev pub KeepsIn : Version → (Spec → Type 0) → Type 0
KeepsIn version P = (spec : Spec) (form : FormText) (next : Spec) → IsFormed version form → IsSpecLineTaken version spec form next
    → P spec → P (with_line spec form)

-- and so in a text of either version
abbrev pub Keeps : (Spec → Type 0) → Type 0
Keeps P = (version : Version) → KeepsIn version P

ended_rule : (form : FormText) (gives : Result Spec LineRule) (rule : LineRule) → ((rule : LineRule) → gives ≡ Err rule → IsSpecRule rule) → ended_by form gives ≡ Err rule → IsSpecRule rule
ended_rule form (Ok next) rule rules e = absurd cc
ended_rule form (Err broken) rule rules e = let same : broken ≡ rule = cc in subst IsSpecRule same (rules broken refl)

module _ (version : Version) where
  pub taken : (spec : Spec) (form : FormText) (next : Spec) → after_form version spec form ≡ Ok next → IsSpecLineTaken version spec form next
  taken spec form next e =
      let (passes, value) = passed (tests version spec form) (with_line spec form) next e in
      let (names, (known, (range, (limit, (order, none))))) = passes in
      record { names = names; known = known; range = range; limit = limit; order = order; value = value }

  form_taken : (spec : Spec) (form : FormText) (gives : Result Spec LineRule) (after : After) → IsFormed version form → after_form version spec form ≡ gives → ended_by form gives ≡ Ok after → IsLineTaken version spec after
  form_taken spec form (Err rule) after formed gives-is e = absurd cc
  form_taken spec form (Ok next) after formed gives-is e =
      let here : IsLineTaken version spec (record { ended = is_end form; spec = next }) = record { form = form; formed = formed; taken = taken spec form next gives-is; ended = refl } in
      subst (λ (x : After). IsLineTaken version spec x) (same_after (record { ended = is_end form; spec = next }) after e) here

  words_taken : (spec : Spec) (words : List (List ℕ)) (found : Option FormText) (after : After) → form_of version words ≡ found → after_form_of version spec found ≡ Ok after → IsLineTaken version spec after
  words_taken spec words None after found-is e = absurd cc
  words_taken spec words (Some form) after found-is e = form_taken spec form (after_form version spec form) after (formed version words form found-is) refl e

  bytes_taken : (spec : Spec) (found : Option (List (List ℕ))) (after : After) → after_words version spec found ≡ Ok after → IsLineTaken version spec after
  bytes_taken spec None after e = absurd cc
  bytes_taken spec (Some words) after e = words_taken spec words (form_of version words) after refl e

  pub line_taken : (spec : Spec) (bytes : List ℕ) (after : After) → after_bytes version spec bytes ≡ Ok after → IsLineTaken version spec after
  unfolding after_bytes
  line_taken spec bytes after e = bytes_taken spec (plain_words_of bytes) after e

  pub keeps-after_bytes : (P : Spec → Type 0) → KeepsIn version P → (spec : Spec) (bytes : List ℕ) (after : After) → P spec → after_bytes version spec bytes ≡ Ok after → P after.spec
  keeps-after_bytes P keeps spec bytes after holds e =
      let line = line_taken spec bytes after e in
      subst P line.taken.value (keeps spec line.form after.spec line.formed line.taken holds)

  -- the rule that a line breaks is one of a specification's
  form_rule : (spec : Spec) (form : FormText) (rule : LineRule) → after_form version spec form ≡ Err rule → IsSpecRule rule
  form_rule spec form rule e = refused IsSpecRule (tests version spec form) (with_line spec form) rule (tt, (tt, (tt, (tt, (tt, tt))))) e

  found_rule : (spec : Spec) (found : Option FormText) (rule : LineRule) → after_form_of version spec found ≡ Err rule → IsSpecRule rule
  found_rule spec None rule e = let same : S2 ≡ rule = cc in subst IsSpecRule same tt
  found_rule spec (Some form) rule e = ended_rule form (after_form version spec form) rule (form_rule spec form) e

  words_rule : (spec : Spec) (found : Option (List (List ℕ))) (rule : LineRule) → after_words version spec found ≡ Err rule → IsSpecRule rule
  words_rule spec None rule e = let same : S2 ≡ rule = cc in subst IsSpecRule same tt
  words_rule spec (Some words) rule e = found_rule spec (form_of version words) rule e

  pub line_rule : (spec : Spec) (bytes : List ℕ) (rule : LineRule) → after_bytes version spec bytes ≡ Err rule → IsSpecRule rule
  unfolding after_bytes
  line_rule spec bytes rule e = words_rule spec (plain_words_of bytes) rule e
