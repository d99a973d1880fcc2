-- A text with lines behind it gives what it gave, and then those lines.
use Rattle.std.proofs.Common.{◌≡◌, ℕ, ◌+◌, ◌<◌, Bool, true, false, cond, List, [], ◌∷◌, ◌++◌, length, Option, Some, None, Result, Ok, Err, refl, sym, ap, ◌∙◌, arith}
use Rattle.std.specs.Prelude.{◌==◌, sum_by}
use Rattle.std.proofs.lemmas.List.{append_assoc}
use Rattle.std.proofs.lemmas.List.Sums.{sum_by-cons}
use Rattle.rc_text.specs.Language as language
use Rattle.rc_text_laws.specs.Imports.{ContentLine, bytes_of_line, content_among, content_from, is_content, lines_of, onto_first, past_end_of, start_of, sum_lines, Spec, empty, After, Broken, Reading, header_version, spec_reading, LineRule, S8, Version, Also, Work, part_reading, works_are_parts, others_are, work_by, work_reading, place_after, draft_of, threads_of}
use Rattle.rc_reader.specs.Grammar as spec
use Rattle.rc_work.specs.WorkGrammar as work
use Rattle.rc_text_laws.specs.QuotableLaws.{WorkDraft}

-- ---- the lines of a text that ends with a line feed, and of another behind it

-- its last byte is a line feed
abbrev pub IsEnded : List ℕ → Type 0
IsEnded text = (front : List ℕ) × (text ≡ front ++ 10 ∷ [])

onto_some : (b : ℕ) (lines : List (List ℕ)) → 0 < length (onto_first b lines)
onto_some b [] = omega arith
onto_some b (line ∷ lines) = omega arith

onto_append : (b : ℕ) (lines others : List (List ℕ)) → 0 < length lines → onto_first b (lines ++ others) ≡ onto_first b lines ++ others
onto_append b [] others some = absurd (omega (arith, some))
onto_append b (line ∷ lines) others some = refl

ended_some : (front : List ℕ) → 0 < length (lines_of (front ++ 10 ∷ []))
ended_some [] = omega arith
ended_some (b ∷ front) =
    elim (b == 10) as (λ v. 0 < length (cond v ((b ∷ []) ∷ lines_of (front ++ 10 ∷ [])) (onto_first b (lines_of (front ++ 10 ∷ []))))) [
      | true ↦ omega arith
      | false ↦ onto_some b (lines_of (front ++ 10 ∷ []))
    ]

ended_lines : (front behind : List ℕ) → lines_of (front ++ 10 ∷ behind) ≡ lines_of (front ++ 10 ∷ []) ++ lines_of behind
ended_lines [] behind = refl
ended_lines (b ∷ front) behind =
    elim (b == 10) as (λ v. cond v ((b ∷ []) ∷ lines_of (front ++ 10 ∷ behind)) (onto_first b (lines_of (front ++ 10 ∷ behind)))
    ≡ cond v ((b ∷ []) ∷ lines_of (front ++ 10 ∷ [])) (onto_first b (lines_of (front ++ 10 ∷ []))) ++ lines_of behind) [
      | true ↦ ap (λ (lines : List (List ℕ)). (b ∷ []) ∷ lines) (ended_lines front behind)
      | false ↦
          ap (onto_first b) (ended_lines front behind)
          ∙ onto_append b (lines_of (front ++ 10 ∷ [])) (lines_of behind) (ended_some front)
    ]

lines_of-behind : (text behind : List ℕ) → IsEnded text → lines_of (text ++ behind) ≡ lines_of text ++ lines_of behind
lines_of-behind text behind (front, ended) =
    ap (λ (t : List ℕ). lines_of (t ++ behind)) ended
    ∙ ap lines_of (append_assoc front (10 ∷ []) behind)
    ∙ ended_lines front behind
    ∙ ap (λ (t : List ℕ). lines_of t ++ lines_of behind) (sym ended)

content_among-append : (at number : ℕ) (lines others : List (List ℕ)) → content_among at number (lines ++ others)
    ≡ content_among at number lines ++ content_among (at + sum_by length lines) (number + length lines) others
content_among-append at number [] others =
    let here : at ≡ at + 0 = omega arith in
    let same : number ≡ number + 0 = omega arith in
    (λ i. content_among (here i) (same i) others)
content_among-append at number (line ∷ lines) others =
    let later = at + length line in
    let there : later + sum_by length lines ≡ at + sum_by length (line ∷ lines) = omega (arith, sum_by-cons length line lines) in
    let next : (number + 1) + length lines ≡ number + length (line ∷ lines) = omega arith in
    let ih : content_among later (number + 1) (lines ++ others)
    ≡ content_among later (number + 1) lines ++ content_among (at + sum_by length (line ∷ lines)) (number + length (line ∷ lines)) others =
    content_among-append later (number + 1) lines others ∙ (λ i. content_among later (number + 1) lines ++ content_among (there i) (next i) others) in
    let first : ContentLine = record { number = number; bytes = bytes_of_line line; next = later } in
    elim (is_content (bytes_of_line line)) as (λ v. cond v (first ∷ content_among later (number + 1) (lines ++ others)) (content_among later (number + 1) (lines ++ others))
    ≡ cond v (first ∷ content_among later (number + 1) lines) (content_among later (number + 1) lines)
    ++ content_among (at + sum_by length (line ∷ lines)) (number + length (line ∷ lines)) others) [
      | true ↦ ap (λ (l : List ContentLine). first ∷ l) ih
      | false ↦ ih
    ]

-- the content lines of a text that stands behind another
abbrev pub content_behind : List ℕ → List ℕ → List ContentLine
content_behind text behind = content_among (length text) (past_end_of text) (lines_of behind)

content_from-behind : (text behind : List ℕ) → IsEnded text
    → content_from (start_of (text ++ behind)) ≡ content_from (start_of text) ++ content_behind text behind
content_from-behind text behind ended =
    let at : 0 + sum_by length (lines_of text) ≡ length text = omega (arith, sum_lines text) in
    let number : 1 + length (lines_of text) ≡ past_end_of text = omega arith in
    ap (content_among 0 1) (lines_of-behind text behind ended)
    ∙ content_among-append 0 1 (lines_of text) (lines_of behind)
    ∙ (λ i. content_among 0 1 (lines_of text) ++ content_among (at i) (number i) (lines_of behind))

-- ---- the specification

-- a reading behind which more lines are left
abbrev pub with_more : Reading → List ContentLine → Reading
with_more reading more = record reading { others = reading.others ++ more }

abbrev ok_reading : Reading → Result Reading Broken
ok_reading reading = Ok reading

same_reading : (x y : Reading) → ok_reading x ≡ ok_reading y → x ≡ y
same_reading x y e = cc

module _ (more : List ContentLine) where
  module _ (version : Version) where
    more_step : (first : ContentLine) (lines : List ContentLine) (reading : Reading) (go later_go : Spec → Result Reading Broken)
        → ((next : Spec) → go next ≡ Ok reading → later_go next ≡ Ok (with_more reading more)) → (after : Result After LineRule)
        → spec.reading_after version after first lines go ≡ Ok reading
        → spec.reading_after version after first (lines ++ more) later_go ≡ Ok (with_more reading more)
    more_step first lines reading go later_go ih (Err rule) e = absurd cc
    more_step first lines reading go later_go ih (Ok after) e =
        elim after.ended as (λ v. cond v (ok_reading (record { version = version; spec = after.spec; last = first; others = lines })) (go after.spec) ≡ Ok reading
        → cond v (ok_reading (record { version = version; spec = after.spec; last = first; others = lines ++ more })) (later_go after.spec) ≡ Ok (with_more reading more)) [
          | true ↦ λ same.
              ap (λ (r : Reading). Ok (with_more r more)) (same_reading (record { version = version; spec = after.spec; last = first; others = lines }) reading same)
          | false ↦ ih after.spec
        ] e

    more_from : (p q : ℕ) (s : Spec) (lines : List ContentLine) (reading : Reading) → spec.reading_from version p s lines ≡ Ok reading
        → spec.reading_from version q s (lines ++ more) ≡ Ok (with_more reading more)
    unfolding spec.reading_from
    more_from p q s [] reading e = absurd cc
    more_from p q s (first ∷ lines) reading e =
        more_step first lines reading (λ next. spec.reading_from version p next lines) (λ next. spec.reading_from version q next (lines ++ more))
        (λ next. more_from p q next lines reading) (spec.after_bytes version s first.bytes) e

  more_behind : (p q : ℕ) (first : ContentLine) (lines : List ContentLine) (reading : Reading) (found : Option Version)
      → spec.reading_behind p found first lines ≡ Ok reading → spec.reading_behind q found first (lines ++ more) ≡ Ok (with_more reading more)
  more_behind p q first lines reading None e = absurd cc
  more_behind p q first lines reading (Some version) e = more_from version p q empty lines reading e

  more_all : (p q : ℕ) (lines : List ContentLine) (reading : Reading) → spec.reading_all p lines ≡ Ok reading
      → spec.reading_all q (lines ++ more) ≡ Ok (with_more reading more)
  more_all p q [] reading e = absurd cc
  more_all p q (first ∷ lines) reading e = more_behind p q first lines reading (header_version first.bytes) e

pub spec_reading-behind : (text behind : List ℕ) (reading : Reading) → IsEnded text → spec_reading text ≡ Ok reading
    → spec_reading (text ++ behind) ≡ Ok (with_more reading (content_behind text behind))
spec_reading-behind text behind reading ended read =
    ap (spec.reading_all (past_end_of (text ++ behind))) (content_from-behind text behind ended)
    ∙ more_all (content_behind text behind) (past_end_of text) (past_end_of (text ++ behind)) (content_from (start_of text)) reading read

-- ---- the workload

module _ (also : Also) (s : Spec) (p q : ℕ) where
  same_end : (ended : Bool) (draft last : WorkDraft) → cond ended (Ok draft) (work.broken_at {X = WorkDraft} S8 p) ≡ Ok last
      → cond ended (Ok draft) (work.broken_at {X = WorkDraft} S8 q) ≡ Ok last
  same_end true draft last e = e
  same_end false draft last e = absurd cc

  same_step : (line : ContentLine) (lines : List ContentLine) (last : WorkDraft) (go later_go : WorkDraft → Result WorkDraft Broken)
      → ((next : WorkDraft) → go next ≡ Ok last → later_go next ≡ Ok last) → (after : Result WorkDraft LineRule)
      → language.reading_after (work.drafts also s) after line lines go ≡ Ok last → language.reading_after (work.drafts also s) after line lines later_go ≡ Ok last
  same_step line lines last go later_go ih (Err rule) e = absurd cc
  same_step line lines last go later_go ih (Ok next) e = ih next e

  same_from : (draft : WorkDraft) (lines : List ContentLine) (last : WorkDraft) → work.reading_from also p s draft lines ≡ Ok last
      → work.reading_from also q s draft lines ≡ Ok last
  unfolding work.reading_from
  same_from draft [] last e = same_end draft.ended draft last e
  same_from draft (line ∷ lines) last e =
      same_step line lines last (λ next. work.reading_from also p s next lines) (λ next. work.reading_from also q s next lines)
      (λ next. same_from next lines last) (work.after_bytes also s draft line.bytes) e

  same_behind : (line : ContentLine) (lines : List ContentLine) (last : WorkDraft) (found : Result ℕ LineRule)
      → work.reading_behind also p s (work.headed_by found line lines) ≡ Ok last → work.reading_behind also q s (work.headed_by found line lines) ≡ Ok last
  same_behind line lines last (Err rule) e = absurd cc
  same_behind line lines last (Ok threads) e = same_from (draft_of threads) lines last e

  same_all : (lines : List ContentLine) (last : WorkDraft) → work.reading_all also p s lines ≡ Ok last → work.reading_all also q s lines ≡ Ok last
  same_all [] last e = absurd cc
  same_all (line ∷ lines) last e = same_behind line lines last (threads_of line.bytes) e

  same_work : (lines : List ContentLine) (w : Work) (found : Result WorkDraft Broken) → work.reading_all also p s lines ≡ found → work_by s found ≡ Ok w
      → work_by s (work.reading_all also q s lines) ≡ Ok w
  same_work lines w (Err broken) is e = absurd cc
  same_work lines w (Ok last) is e = ap (work_by s) (same_all lines last is) ∙ e

-- the last of some lines
record HasLast (lines : List ContentLine) : Type 0 where
  front : List ContentLine
  last : ContentLine
  whole : lines ≡ front ++ last ∷ []

last_of : (first : ContentLine) (lines : List ContentLine) → HasLast (first ∷ lines)
last_of first [] = record { front = []; last = first; whole = refl }
last_of first (next ∷ lines) =
    let is = last_of next lines in
    record { front = first ∷ is.front; last = is.last; whole = ap (λ (l : List ContentLine). first ∷ l) is.whole }

-- the text and what is behind it: the same specification and workload, and then those lines
pub record IsReadBehind (also : Also) (text behind : List ℕ) (reading : Reading) (w : Work) : Type 0 where
  pub read : spec_reading (text ++ behind) ≡ Ok (with_more reading (content_behind text behind))
  pub last : ContentLine
  pub part : part_reading also reading.spec (place_after (text ++ behind) (with_more reading (content_behind text behind)))
      ≡ Ok (record { work = w; last = last; others = content_behind text behind })

pub read_behind : (also : Also) (text behind : List ℕ) (reading : Reading) (w : Work) → IsEnded text → spec_reading text ≡ Ok reading
    → work_reading also reading.spec (place_after text reading) ≡ Ok w → IsReadBehind also text behind reading w
read_behind also text behind reading w ended read works = by reading.others refl
  where
    more : List ContentLine
    more = content_behind text behind

    whole : List ℕ
    whole = text ++ behind

    again : spec_reading (text ++ behind) ≡ Ok (with_more reading (content_behind text behind))
    again = spec_reading-behind text behind reading ended read

    here : work_by reading.spec (work.reading_all also (past_end_of text) reading.spec reading.others) ≡ Ok w
    here = ap (λ (lines : List ContentLine). work_by reading.spec (work.reading_all also (past_end_of text) reading.spec lines)) (sym (others_are text reading read)) ∙ works

    by : (lines : List ContentLine) → reading.others ≡ lines → IsReadBehind also text behind reading w
    by [] none =
        absurd (let e : work_by reading.spec (work.reading_all also (past_end_of text) reading.spec []) ≡ Ok w =
        ap (λ (lines : List ContentLine). work_by reading.spec (work.reading_all also (past_end_of text) reading.spec lines)) (sym none) ∙ here in cc)
    by (first ∷ lines) some =
        let is = last_of first lines in
        let all : reading.others ≡ is.front ++ is.last ∷ [] = some ∙ is.whole in
        let given = same_work also reading.spec (past_end_of text) (past_end_of (text ++ behind)) (is.front ++ is.last ∷ []) w
        (work.reading_all also (past_end_of text) reading.spec (is.front ++ is.last ∷ [])) refl
        (ap (λ (lines : List ContentLine). work_by reading.spec (work.reading_all also (past_end_of text) reading.spec lines)) (sym all) ∙ here) in
        let content : content_from (place_after (text ++ behind) (with_more reading (content_behind text behind))) ≡ is.front ++ is.last ∷ content_behind text behind =
        others_are (text ++ behind) (with_more reading (content_behind text behind)) (spec_reading-behind text behind reading ended read)
        ∙ ap (λ (l : List ContentLine). l ++ content_behind text behind) all
        ∙ append_assoc is.front (is.last ∷ []) (content_behind text behind) in
        record {
          read = spec_reading-behind text behind reading ended read;
          last = is.last;
          part = works_are_parts also reading.spec (place_after (text ++ behind) (with_more reading (content_behind text behind))) is.front is.last (content_behind text behind) w
              content given;
        }
