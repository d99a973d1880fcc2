-- What the content lines behind a specification give: a draft of a workload, or the first broken line rule with its line.
use Rattle.std.specs.Prelude.{ℕ, false, ◌&&◌, nat_le, if◌then◌else◌, List, [], ◌∷◌, Option, Some, None, Result, Ok, Err, codes}
use Rattle.rc_work.specs.Imports.{bytes_eq, Language, ContentLine, WordText, plain_text, u64_of, NumFault, Spec, Broken, LineRule, S1, S2, S5, S8}
use Rattle.rc_text.specs.Language as language
use Rattle.rc_text.specs.declared.numbers.NumFault.TheVariants as faults
use Rattle.rc_work.specs.declared.also.Also.{Also}
use Rattle.rc_work.specs.declared.draft.Draft.{Draft}
use Rattle.rc_work.specs.LineForms.{FormText, words_read, form_of}
use Rattle.rc_work.specs.LineRules.{after_form}

abbrev pub after_form_of : Spec → Draft → Option FormText → Result Draft LineRule
after_form_of spec draft None = Err S2
after_form_of spec draft (Some form) = after_form spec draft form

abbrev pub after_words : Also → Spec → Draft → Option (List WordText) → Result Draft LineRule
after_words also spec draft None = Err S2
after_words also spec draft (Some words) = after_form_of spec draft (form_of also words)

-- S2 to W5 for a line behind the header, after the lines that gave this draft
unfoldable pub after_bytes : Also → Spec → Draft → List ℕ → Result Draft LineRule
after_bytes also spec draft bytes = after_words also spec draft (words_read bytes)

abbrev pub broken_at : {X : Type 0} → LineRule → ℕ → Result X Broken
broken_at rule line = Err (record { rule = rule; line = line })

-- The language of the lines behind the header, of which none ends the reading: a line behind `end` breaks a rule. S8: they
-- run out and `end` does not stand before, and then the line is one past the last.
abbrev pub draft_language : {Read : Type 0} → Also → Spec → (Draft → Read) → Language Draft Draft Read LineRule
draft_language also spec value = record {
  next = after_bytes also spec;
  ended = λ next. false;
  state = λ next. next;
  done = λ draft last others. value draft;
  out = λ past_end draft. if draft.ended then Ok (value draft) else broken_at S8 past_end;
}

-- it reads the draft itself
abbrev pub drafts : Also → Spec → Language Draft Draft Draft LineRule
drafts also spec = draft_language also spec (λ (read : Draft). read)

-- the lines behind the header, tested in order
unfoldable pub reading_from : Also → ℕ → Spec → Draft → List ContentLine → Result Draft Broken
reading_from also past_end spec draft lines = language.reading_from (drafts also spec) past_end draft lines

-- S1 for a count of threads that is no digits, and S5 for one that is not 1 to 8
abbrev pub threads_by : Result ℕ NumFault → Result ℕ LineRule
threads_by (Ok threads) = if nat_le 1 threads && nat_le threads 8 then Ok threads else Err S5
threads_by (Err faults.Range) = Err S5
threads_by (Err faults.Form) = Err S1

abbrev pub threads_at : List ℕ → List WordText → Result ℕ LineRule
threads_at first (plain_text count ∷ []) = if bytes_eq first (codes "work") then threads_by (u64_of count) else Err S1
threads_at first words = Err S1

-- the number of threads that the header's words give: S1 where they are not `work` and one number
abbrev pub threads_of_words : List WordText → Result ℕ LineRule
threads_of_words (plain_text first ∷ words) = threads_at first words
threads_of_words words = Err S1

abbrev pub threads_of_read : Option (List WordText) → Result ℕ LineRule
threads_of_read None = Err S1
threads_of_read (Some words) = threads_of_words words

-- the number of threads that a header gives
unfoldable pub threads_of : List ℕ → Result ℕ LineRule
threads_of bytes = threads_of_read (words_read bytes)

-- the number of threads, and the lines behind the header
pub record Headed : Type 0 where
  pub threads : ℕ
  pub others : List ContentLine

abbrev pub headed_by : Result ℕ LineRule → ContentLine → List ContentLine → Result Headed Broken
headed_by (Err rule) line others = broken_at rule line.number
headed_by (Ok threads) line others = Ok (record { threads = threads; others = others })

-- The first of the lines is the header. S1: there is no line, and the line is one past the last.
abbrev pub headed : ℕ → List ContentLine → Result Headed Broken
headed past_end [] = broken_at S1 past_end
headed past_end (line ∷ others) = headed_by (threads_of line.bytes) line others

-- what is read when the header is
abbrev pub draft_of : ℕ → Draft
draft_of threads = record { threads = threads; ended = false; rounds = []; group = None }

abbrev pub reading_behind : Also → ℕ → Spec → Result Headed Broken → Result Draft Broken
reading_behind also past_end spec (Err broken) = Err broken
reading_behind also past_end spec (Ok head) = reading_from also past_end spec (draft_of head.threads) head.others

-- what the content lines behind a specification give
abbrev pub reading_all : Also → ℕ → Spec → List ContentLine → Result Draft Broken
reading_all also past_end spec lines = reading_behind also past_end spec (headed past_end lines)
