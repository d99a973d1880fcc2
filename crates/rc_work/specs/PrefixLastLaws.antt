-- The last content line of a text that gives a workload is `end`.
use Rattle.std.proofs.Common.{◌≡◌, ℕ, ◌+◌, Bool, true, false, cond, eqb, List, [], ◌∷◌, ◌++◌, length, Some, Result, Ok, Err, codes, refl, ap, sym, ◌∙◌, append_assoc}
use Rattle.rc_work.specs.Imports.{sum_by, lines_of, past_end_of, without_last, bytes_of_line, is_content, ContentLine, content_among, start_of, content_from, Spec, spec_reading, LineRule, S8, list_all, is_blank, plain_text}
use Rattle.rc_work.specs.declared.also.Also.{Also}
use Rattle.rc_work.specs.declared.draft.Draft.{Draft}
use Rattle.rc_work.specs.LineForms.{words_read}
use Rattle.rc_work.specs.WorkGrammar.{broken_at, reading_from, reading_all, reading_behind, headed_by, threads_of, draft_of}
use Rattle.rc_work.specs.Prefix.{AreNoContent, IsLastLetter, LastLetterIsThere}
use Rattle.rc_work.specs.PrefixLineLaws.{IsEnd, end_is}
use Rattle.rc_work.specs.PrefixLaws.{first_taken, no_list, none_behind, same_head, stands_all, given_spec, IsGiven}

-- the last of these content lines is `end`
pub record EndsInEnd (lines : List ContentLine) : Type 0 where
  pub front : List ContentLine
  pub line : ContentLine
  pub whole : lines ≡ front ++ line ∷ []
  pub is_end : IsEnd line.bytes

more : (front lines : List ContentLine) → EndsInEnd lines → EndsInEnd (front ++ lines)
more front lines is = record {
  front = front ++ is.front;
  line = is.line;
  whole = ap (λ (xs : List ContentLine). front ++ xs) is.whole ∙ sym (append_assoc front is.front (is.line ∷ []));
  is_end = is.is_end;
}

none_by : (p : ℕ) (draft last : Draft) (ended : Bool) → ended ≡ false → cond ended (Ok draft) (broken_at S8 p) ≡ Ok last → ⊥
none_by p draft last true not_yet e = cc
none_by p draft last false not_yet e = cc

module _ (also : Also) where
  none_ends : (p : ℕ) (s : Spec) (draft last : Draft) → draft.ended ≡ false → reading_from also p s draft [] ≡ Ok last → ⊥
  unfolding reading_from
  none_ends p s draft last not_yet e = none_by p draft last draft.ended not_yet e

  ends_from : (p : ℕ) (s : Spec) (draft last : Draft) (lines : List ContentLine) → draft.ended ≡ false → reading_from also p s draft lines ≡ Ok last → EndsInEnd lines
  ends_from p s draft last [] not_yet e = absurd (none_ends p s draft last not_yet e)
  ends_from p s draft last (line ∷ rest) not_yet e =
      let first = first_taken also p s draft last line rest e in
      elim first.0.ended as (λ v. first.0.ended ≡ v → EndsInEnd (line ∷ rest)) [
        | true ↦ λ ended. record {
          front = [];
          line = line;
          whole = ap (λ (xs : List ContentLine). line ∷ xs) (none_behind also p s first.0 last rest ended first.2);
          is_end = end_is also s draft first.0 line.bytes first.1 ended;
        }
        | false ↦ λ unended. more (line ∷ []) rest (ends_from p s first.0 last rest unended first.2)
      ] refl

  ends_head : (p : ℕ) (s : Spec) (last : Draft) (line : ContentLine) (rest : List ContentLine) (threads : Result ℕ LineRule) → reading_behind also p s (headed_by threads line rest) ≡ Ok last → EndsInEnd (line ∷ rest)
  ends_head p s last line rest (Err rule) e = absurd cc
  ends_head p s last line rest (Ok threads) e = more (line ∷ []) rest (ends_from p s (draft_of threads) last rest refl e)

  ends_all : (p : ℕ) (s : Spec) (last : Draft) (lines : List ContentLine) → reading_all also p s lines ≡ Ok last → EndsInEnd lines
  ends_all p s last [] e = absurd cc
  ends_all p s last (line ∷ rest) e = ends_head p s last line rest (threads_of line.bytes) e

-- ---- the line in the text

pub record HasLast (lines : List (List ℕ)) (line : ContentLine) : Type 0 where
  pub before : List (List ℕ)
  pub last : List ℕ
  pub others : List (List ℕ)
  pub whole : lines ≡ before ++ last ∷ others
  pub bytes : bytes_of_line last ≡ line.bytes
  pub no_content : AreNoContent others

last_more : (first : List ℕ) (lines : List (List ℕ)) (line : ContentLine) → HasLast lines line → HasLast (first ∷ lines) line
last_more first lines line is = record {
  before = first ∷ is.before;
  last = is.last;
  others = is.others;
  whole = ap (λ (xs : List (List ℕ)). first ∷ xs) is.whole;
  bytes = is.bytes;
  no_content = is.no_content;
}

are_none : (at number : ℕ) (lines : List (List ℕ)) → content_among at number lines ≡ [] → AreNoContent lines
are_none at number [] e = tt
are_none at number (first ∷ lines) e =
    elim (is_content (bytes_of_line first)) as (λ v. is_content (bytes_of_line first) ≡ v → cond v (record { number = number; bytes = bytes_of_line first; next = at + length first } ∷ content_among (at + length first) (number + 1) lines) (content_among (at + length first) (number + 1) lines) ≡ [] → AreNoContent (first ∷ lines)) [
      | true ↦ λ _ same. absurd cc
      | false ↦ λ is same. (is, are_none (at + length first) (number + 1) lines same)
    ] refl e

last_first : (at number : ℕ) (first : List ℕ) (lines : List (List ℕ)) (front : List ContentLine) (line : ContentLine) → ((front : List ContentLine) → content_among (at + length first) (number + 1) lines ≡ front ++ line ∷ [] → HasLast lines line)
    → record { number = number; bytes = bytes_of_line first; next = at + length first } ∷ content_among (at + length first) (number + 1) lines ≡ front ++ line ∷ [] → HasLast (first ∷ lines) line
last_first at number first lines [] line ih e =
    let here : ContentLine = record { number = number; bytes = bytes_of_line first; next = at + length first } in
    let same = same_head here line (content_among (at + length first) (number + 1) lines) [] e in
    record {
      before = [];
      last = first;
      others = lines;
      whole = refl;
      bytes = ap (λ (x : ContentLine). x.bytes) same.0;
      no_content = are_none (at + length first) (number + 1) lines same.1;
    }
last_first at number first lines (other ∷ front) line ih e =
    last_more first lines line (ih front (same_head (record { number = number; bytes = bytes_of_line first; next = at + length first }) other (content_among (at + length first) (number + 1) lines) (front ++ line ∷ []) e).1)

has_last : (at number : ℕ) (lines : List (List ℕ)) (front : List ContentLine) (line : ContentLine) → content_among at number lines ≡ front ++ line ∷ [] → HasLast lines line
has_last at number [] front line e = absurd (no_list front [] line e)
has_last at number (first ∷ lines) front line e =
    elim (is_content (bytes_of_line first)) as (λ v. cond v (record { number = number; bytes = bytes_of_line first; next = at + length first } ∷ content_among (at + length first) (number + 1) lines) (content_among (at + length first) (number + 1) lines) ≡ front ++ line ∷ [] → HasLast (first ∷ lines) line) [
      | true ↦ last_first at number first lines front line (λ fs. has_last (at + length first) (number + 1) lines fs line)
      | false ↦ λ same. last_more first lines line (has_last (at + length first) (number + 1) lines front line same)
    ] e

-- a list is its front and what was taken off
stripped : (last : ℕ) (line : List ℕ) → (off : List ℕ) × (line ≡ without_last last line ++ off)
stripped last [] = ([], refl)
stripped last (b ∷ []) = elim (eqb b last) as (λ v. (off : List ℕ) × (b ∷ [] ≡ cond v [] (b ∷ []) ++ off)) [ true ↦ (b ∷ [], refl) | false ↦ ([], refl) ]
stripped last (b ∷ c ∷ bs) = let is = stripped last (c ∷ bs) in (is.0, ap (λ (xs : List ℕ). b ∷ xs) is.1)

-- its blanks, and what stands behind the `d`
abbrev EndLine : List ℕ → Type 0
EndLine line =
    (blanks : List ℕ) × (tail : List ℕ) × (list_all is_blank blanks ≡ true) × (line ≡ (blanks ++ codes "en") ++ 100 ∷ tail)
    × (words_read (bytes_of_line line) ≡ Some (plain_text (codes "end") ∷ []))

end_line : (line bytes : List ℕ) → bytes_of_line line ≡ bytes → IsEnd bytes → EndLine line
end_line line bytes same is =
    let feed = stripped 10 line in
    let return = stripped 13 (without_last 10 line) in
    let off : List ℕ = return.0 ++ feed.0 in
    let whole : line ≡ (is.blanks ++ (codes "end" ++ is.after)) ++ off =
    feed.1 ∙ ap (λ (xs : List ℕ). xs ++ feed.0) return.1 ∙ append_assoc (bytes_of_line line) return.0 feed.0 ∙ ap (λ (xs : List ℕ). xs ++ off) (same ∙ is.whole) in (
      is.blanks,
      is.after ++ off,
      is.are_blank,
      whole ∙ append_assoc is.blanks (codes "end" ++ is.after) off ∙ sym (append_assoc is.blanks (codes "en") (100 ∷ (is.after ++ off))),
      ap words_read same ∙ is.only,
    )

letter_of : (text : List ℕ) (line : ContentLine) (last : HasLast (lines_of text) line) → EndLine last.last → (at : ℕ) × IsLastLetter text at
letter_of text line last end = (
  sum_by length last.before + length (end.0 ++ codes "en"),
  record {
    before = last.before;
    blanks = end.0;
    tail = end.1;
    others = last.others;
    lines = last.whole ∙ ap (λ (xs : List ℕ). last.before ++ xs ∷ last.others) end.3;
    are_blank = end.2;
    only = ap (λ l. words_read (bytes_of_line l)) (sym end.3) ∙ end.4;
    no_content = last.no_content;
    place = refl;
  },
)

-- the last content line of what is given
last_of : (text : List ℕ) (lines : List ContentLine) → content_from (start_of text) ≡ lines → EndsInEnd lines → (at : ℕ) × IsLastLetter text at
last_of text lines e ends =
    let last : HasLast (lines_of text) ends.line = has_last 0 1 (lines_of text) ends.front ends.line (e ∙ ends.whole) in
    letter_of text ends.line last (end_line last.last ends.line.bytes last.bytes ends.is_end)

pub last_letter_is_there : LastLetterIsThere
last_letter_is_there also text whole e =
    let given : IsGiven also text = given_spec also text (spec_reading text) whole refl e in
    let stands = stands_all (past_end_of text) given.reading (content_from (start_of text)) given.spec_is in
    let others : EndsInEnd given.reading.others = ends_all also (past_end_of text) given.reading.spec given.draft given.reading.others given.work_is in
    last_of text (stands.0 ++ given.reading.last ∷ given.reading.others) stands.1 (more stands.0 (given.reading.last ∷ given.reading.others) (more (given.reading.last ∷ []) given.reading.others others))
