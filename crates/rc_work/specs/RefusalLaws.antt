-- A workload is refused by its own rules alone.
use Rattle.std.proofs.Common.{◌≡◌, ℕ, Bool, true, false, cond, List, [], ◌∷◌, codes, Option, Some, None, Result, Ok, Err, refl, subst, inl, inr}
use Rattle.std.specs.Prelude.{◌&&◌, nat_le}
use Rattle.rc_work.specs.Imports.{bytes_eq, LinesMean, means-reading, taken_keeps, ContentLine, WordText, plain_text, quoted_text, u64_of, NumFault, Spec, Broken, Refuses, LineRule, S1, S2, S5, S6, S7, S8, W1, W2, W3, W5, ReadRefusal}
use Rattle.rc_text.specs.declared.numbers.NumFault.TheVariants as faults
use Rattle.rc_reader.specs.declared.refusal.ReadRefusal.TheVariants as refusals
use Rattle.rc_work.specs.declared.also.Also.{Also}
use Rattle.rc_work.specs.declared.also.Also.TheVariants.{Nothing, Groups}
use Rattle.rc_work.specs.declared.draft.Draft.{Draft}
use Rattle.rc_work.specs.LineForms.{FormText, words_read, form_of}
use Rattle.rc_work.specs.LineRules.{breaks_range, breaks_limit, breaks_order, breaks_operation, breaks_count, breaks_kinds, breaks_group, with_line, after_form}
use Rattle.rc_work.specs.WorkGrammar.{after_form_of, after_words, after_bytes, broken_at, drafts, reading_from, threads_by, threads_at, threads_of_words, threads_of_read, threads_of, headed_by, draft_of, reading_behind, reading_all}
use Rattle.rc_work.specs.Drafts.{IsOfAlso}
use Rattle.rc_work.specs.GroupsLaws.{IsOfAlso-after_bytes, IsOfAlso-draft_of, outside_groups}
use Rattle.rc_work.specs.Answers.{IsWorkRule, IsWorkRefusal}

abbrev refused : {X : Type 0} → LineRule → Result X LineRule
refused rule = Err rule

same_rule : {X : Type 0} (r rule : LineRule) → refused {X = X} r ≡ refused rule → r ≡ rule
same_rule r rule e = cc

-- a test that refuses, or the tests behind it
refused_by : {X : Type 0} (also : Also) (b : Bool) (r rule : LineRule) (gives : Result X LineRule) → IsWorkRule also r
    → (gives ≡ Err rule → IsWorkRule also rule) → cond b (Err r) gives ≡ Err rule → IsWorkRule also rule
refused_by also true r rule gives own others e = subst (IsWorkRule also) (same_rule r rule e) own
refused_by also false r rule gives own others e = others e

-- W5 where groups are read
group_rule : (also : Also) (draft : Draft) (form : FormText) (rule : LineRule) (next : Draft) → IsOfAlso also draft
    → cond (breaks_group draft form) (Err W5) (Ok next) ≡ Err rule → IsWorkRule also rule
group_rule Nothing draft form rule next is e = absurd (let outside = outside_groups draft form is.none in cc)
group_rule Groups draft form rule next is e = refused_by Groups (breaks_group draft form) W5 rule (Ok next) tt (λ h. absurd cc) e

form_rule : (also : Also) (spec : Spec) (draft : Draft) (form : FormText) (rule : LineRule) → IsOfAlso also draft
    → after_form spec draft form ≡ Err rule → IsWorkRule also rule
form_rule also spec draft form rule is =
    refused_by also (breaks_range draft form) S5 rule _ tt
    (refused_by also (breaks_limit draft form) S6 rule _ tt
    (refused_by also (breaks_order draft form) S7 rule _ tt
    (refused_by also draft.ended S8 rule _ tt
    (refused_by also (breaks_operation spec form) W1 rule _ tt
    (refused_by also (breaks_count spec form) W2 rule _ tt
    (refused_by also (breaks_kinds spec form) W3 rule _ tt (group_rule also draft form rule (with_line spec draft form) is)))))))

found_rule : (also : Also) (spec : Spec) (draft : Draft) (found : Option FormText) (rule : LineRule) → IsOfAlso also draft
    → after_form_of spec draft found ≡ Err rule → IsWorkRule also rule
found_rule also spec draft None rule is e = subst (IsWorkRule also) (same_rule S2 rule e) tt
found_rule also spec draft (Some form) rule is e = form_rule also spec draft form rule is e

words_rule : (also : Also) (spec : Spec) (draft : Draft) (found : Option (List WordText)) (rule : LineRule) → IsOfAlso also draft
    → after_words also spec draft found ≡ Err rule → IsWorkRule also rule
words_rule also spec draft None rule is e = subst (IsWorkRule also) (same_rule S2 rule e) tt
words_rule also spec draft (Some words) rule is e = found_rule also spec draft (form_of also words) rule is e

line_rule : (also : Also) (spec : Spec) (draft : Draft) (bytes : List ℕ) (rule : LineRule) → IsOfAlso also draft
    → after_bytes also spec draft bytes ≡ Err rule → IsWorkRule also rule
unfolding after_bytes
line_rule also spec draft bytes rule is e = words_rule also spec draft (words_read bytes) rule is e

-- ---- the header

module _ (also : Also) where
  passed_by : {X : Type 0} (b : Bool) (r rule : LineRule) (gives : Result X LineRule) → IsWorkRule also r → (gives ≡ Err rule → IsWorkRule also rule) → cond b gives (Err r) ≡ Err rule → IsWorkRule also rule
  passed_by true r rule gives own others e = others e
  passed_by false r rule gives own others e = subst (IsWorkRule also) (same_rule r rule e) own

  count_rule : (found : Result ℕ NumFault) (rule : LineRule) → threads_by found ≡ Err rule → IsWorkRule also rule
  count_rule (Ok n) rule e = passed_by (nat_le 1 n && nat_le n 8) S5 rule (Ok n) tt (λ h. absurd cc) e
  count_rule (Err faults.Range) rule e = subst (IsWorkRule also) (same_rule S5 rule e) tt
  count_rule (Err faults.Form) rule e = subst (IsWorkRule also) (same_rule S1 rule e) tt

  at_rule : (first : List ℕ) (words : List WordText) (rule : LineRule) → threads_at first words ≡ Err rule → IsWorkRule also rule
  at_rule first [] rule e = subst (IsWorkRule also) (same_rule S1 rule e) tt
  at_rule first (quoted_text text ∷ words) rule e = subst (IsWorkRule also) (same_rule S1 rule e) tt
  at_rule first (plain_text count ∷ []) rule e = passed_by (bytes_eq first (codes "work")) S1 rule (threads_by (u64_of count)) tt (count_rule (u64_of count) rule) e
  at_rule first (plain_text count ∷ word ∷ words) rule e = subst (IsWorkRule also) (same_rule S1 rule e) tt

  header_words_rule : (words : List WordText) (rule : LineRule) → threads_of_words words ≡ Err rule → IsWorkRule also rule
  header_words_rule [] rule e = subst (IsWorkRule also) (same_rule S1 rule e) tt
  header_words_rule (quoted_text text ∷ words) rule e = subst (IsWorkRule also) (same_rule S1 rule e) tt
  header_words_rule (plain_text first ∷ words) rule e = at_rule first words rule e

  read_rule : (found : Option (List WordText)) (rule : LineRule) → threads_of_read found ≡ Err rule → IsWorkRule also rule
  read_rule None rule e = subst (IsWorkRule also) (same_rule S1 rule e) tt
  read_rule (Some words) rule e = header_words_rule words rule e

  header_rule : (bytes : List ℕ) (rule : LineRule) → threads_of bytes ≡ Err rule → IsWorkRule also rule
  unfolding threads_of
  header_rule bytes rule e = read_rule (words_read bytes) rule e

-- ---- the lines

abbrev refused_text : {X : Type 0} → Broken → Result X Broken
refused_text broken = Err broken

same_broken : {X : Type 0} (x y : Broken) → refused_text {X = X} x ≡ refused_text y → x ≡ y
same_broken x y e = cc

module _ (also : Also) where
  at_line : {X : Type 0} (rule : LineRule) (line : ℕ) (broken : Broken) → IsWorkRule also rule → broken_at {X = X} rule line ≡ Err broken
      → IsWorkRule also broken.rule
  at_line {X} rule line broken own e =
      subst (λ (x : Broken). IsWorkRule also x.rule) (same_broken {X = X} (record { rule = rule; line = line }) broken e) own

  end_rule : (ended : Bool) (past_end : ℕ) (draft : Draft) (broken : Broken) → cond ended (Ok draft) (broken_at S8 past_end) ≡ Err broken
      → IsWorkRule also broken.rule
  end_rule true past_end draft broken e = absurd cc
  end_rule false past_end draft broken e = at_line {X = Draft} S8 past_end broken tt e

  -- a line is refused behind lines that are taken
  lines_rule : (past_end : ℕ) (spec : Spec) (draft : Draft) (lines : List ContentLine) (broken : Broken) → IsOfAlso also draft
      → reading_from also past_end spec draft lines ≡ Err broken → IsWorkRule also broken.rule
  unfolding reading_from
  lines_rule past_end spec draft lines broken is e =
      elim (subst (LinesMean (drafts also spec) past_end draft lines) e (means-reading (drafts also spec) past_end draft lines)) [
        | inl found ↦
            let before = taken_keeps (drafts also spec) (IsOfAlso also) (λ at bytes next h given. IsOfAlso-after_bytes also spec at bytes next h given)
            draft found.reached.front found.before found.reached.taken is in
            line_rule also spec found.before found.line.bytes broken.rule before found.breaks
        | inr out ↦ end_rule out.next.ended past_end out.next broken out.out
      ]

  head_rule : (past_end : ℕ) (spec : Spec) (line : ContentLine) (others : List ContentLine) (found : Result ℕ LineRule) (broken : Broken)
      → threads_of line.bytes ≡ found → reading_behind also past_end spec (headed_by found line others) ≡ Err broken → IsWorkRule also broken.rule
  head_rule past_end spec line others (Ok threads) broken is e =
      lines_rule past_end spec (draft_of threads) others broken (IsOfAlso-draft_of also threads) e
  head_rule past_end spec line others (Err rule) broken is e = at_line {X = Draft} rule line.number broken (header_rule also line.bytes rule is) e

  content_rule : (past_end : ℕ) (spec : Spec) (lines : List ContentLine) (broken : Broken) → reading_all also past_end spec lines ≡ Err broken
      → IsWorkRule also broken.rule
  content_rule past_end spec [] broken e = at_line {X = Draft} S1 past_end broken tt e
  content_rule past_end spec (line ∷ others) broken e = head_rule past_end spec line others (threads_of line.bytes) broken refl e

  pub IsWorkRefusal-reading_all : (past_end : ℕ) (spec : Spec) (lines : List ContentLine) (refusal : ReadRefusal)
      → Refuses refusal (reading_all also past_end spec lines) → IsWorkRefusal also refusal
  IsWorkRefusal-reading_all past_end spec lines refusals.Memory e = tt
  IsWorkRefusal-reading_all past_end spec lines (refusals.Line rule line) e =
      content_rule past_end spec lines (record { rule = rule; line = line }) e
