-- A text that gives a specification and a workload gives none where it is cut.
use Rattle.std.proofs.Common.{◌≡◌, ◌⊎◌, ℕ, suc, ◌+◌, ◌-◌, ◌≤◌, true, false, not, cond, eqb, List, [], ◌∷◌, ◌++◌, length, take, drop, Option, Some, None, Result, Ok, Err, codes, refl, ap, sym, ◌∙◌, subst, inl, inr, append_assoc, arith}
use Rattle.rc_work.specs.Imports.{sum_by, list_all, is_blank, lines_of, past_end_of, without_last, bytes_of_line, is_content, ContentLine, content_among, start_of, content_from, IsLineStart, lines_from_is, Spec, empty, LineRule, S1, S8, After, Broken, Reading, header_version, spec_reading, Version}
use Rattle.std.proofs.lemmas.Bool.{eqb-true, and_parts, or_cases}
use Rattle.std.proofs.lemmas.List.Sums.{sum_by-cons}
use Rattle.rc_text.specs.Language as language
use Rattle.rc_reader.specs.Grammar as spec
use Rattle.rc_work.specs.declared.also.Also.{Also}
use Rattle.rc_work.specs.declared.draft.Draft.{Draft}
use Rattle.rc_work.specs.WorkGrammar as work
use Rattle.rc_work.specs.WorkGrammar.{broken_at, after_bytes, threads_of, draft_of}
use Rattle.rc_work.specs.Ranking.{work_by}
use Rattle.rc_work.specs.Prefix.{IsLastLetter, IsRefused, CutTextsAreRefused}
use Rattle.rc_work.specs.WholeText.{place_after, Whole, whole_by, text_reading_by}
use Rattle.rc_work.specs.PrefixCutLaws.{lines_of-take, begins_e, begins-kept, begins-content, lacks_d, IsEnding, IsPart, IsCut, cut_content}
use Rattle.rc_work.specs.PrefixLineLaws.{unended, e_ends, end_is, end_begins, end_has_d, blanks_begin}

-- ---- the specification

-- Up to the cut the same specification is read, or there is nothing behind it, or it is refused.
pub record SameFront (reading left : Reading) (line : ContentLine) (rest extra : List ContentLine) : Type 0 where
  pub front : List ContentLine
  pub whole : reading.others ≡ front ++ line ∷ rest
  pub left_is : left.others ≡ front ++ extra
  pub spec : left.spec ≡ reading.spec

abbrev IsSpecCut : Reading → ContentLine → List ContentLine → List ContentLine → Result Reading Broken → Type 0
IsSpecCut reading line rest extra (Err broken) = Unit {0}
IsSpecCut reading line rest extra (Ok left) = (left.others ≡ []) ⊎ SameFront reading left line rest extra

abbrev ok_reading : Reading → Result Reading Broken
ok_reading reading = Ok reading

same_reading : (x y : Reading) → ok_reading x ≡ ok_reading y → x ≡ y
same_reading x y e = cc

module _ (version : Version) where
  spec_one : (reading : Reading) (line part : ContentLine) (rest : List ContentLine) (go : Spec → Result Reading Broken) → ((next : Spec) → IsSpecCut reading line rest (part ∷ []) (go next)) → (after : Result After LineRule) → IsSpecCut reading line rest (part ∷ []) (spec.reading_after version after part [] go)
  spec_one reading line part rest go out (Err rule) = tt
  spec_one reading line part rest go out (Ok after) =
      elim after.ended as (λ v. IsSpecCut reading line rest (part ∷ []) (cond v (Ok (record { version = version; spec = after.spec; last = part; others = [] })) (go after.spec))) [
        | true ↦ inl refl
        | false ↦ out after.spec
      ]

  spec_step : (reading : Reading) (line first : ContentLine) (rest extra front : List ContentLine) (go left_go : Spec → Result Reading Broken) → ((next : Spec) → go next ≡ Ok reading → IsSpecCut reading line rest extra (left_go next)) → (after : Result After LineRule)
      → spec.reading_after version after first (front ++ line ∷ rest) go ≡ Ok reading → IsSpecCut reading line rest extra (spec.reading_after version after first (front ++ extra) left_go)
  spec_step reading line first rest extra front go left_go ih (Err rule) e = absurd cc
  spec_step reading line first rest extra front go left_go ih (Ok after) e =
      elim after.ended as (λ v. cond v (Ok (record { version = version; spec = after.spec; last = first; others = front ++ line ∷ rest })) (go after.spec) ≡ Ok reading → IsSpecCut reading line rest extra (cond v (Ok (record { version = version; spec = after.spec; last = first; others = front ++ extra })) (left_go after.spec))) [
        | true ↦ λ same.
            let is = same_reading (record { version = version; spec = after.spec; last = first; others = front ++ line ∷ rest }) reading same in
            inr (record { front = front; whole = ap (λ (r : Reading). r.others) (sym is); left_is = refl; spec = ap (λ (r : Reading). r.spec) is })
        | false ↦ ih after.spec
      ] e

  spec_cut : (p q : ℕ) (s : Spec) (reading : Reading) (front : List ContentLine) (line : ContentLine) (rest extra : List ContentLine) → IsEnding line rest extra → spec.reading_from version p s (front ++ line ∷ rest) ≡ Ok reading → IsSpecCut reading line rest extra (spec.reading_from version q s (front ++ extra))
  unfolding spec.reading_from
  spec_cut p q s reading [] line rest [] ending e = tt
  spec_cut p q s reading [] line rest (part ∷ []) ending e = spec_one reading line part rest (λ next. spec.reading_from version q next []) (λ next. tt) (spec.after_bytes version s part.bytes)
  spec_cut p q s reading [] line rest (part ∷ other ∷ others) ending e = absurd ending
  spec_cut p q s reading (first ∷ front) line rest extra ending e =
      spec_step reading line first rest extra front (λ next. spec.reading_from version p next (front ++ line ∷ rest)) (λ next. spec.reading_from version q next (front ++ extra)) (λ next. spec_cut p q next reading front line rest extra ending) (spec.after_bytes version s first.bytes) e

header_cut : (q : ℕ) (reading : Reading) (line part : ContentLine) (rest : List ContentLine) (found : Option Version) → IsSpecCut reading line rest (part ∷ []) (spec.reading_behind q found part [])
unfolding spec.reading_from
header_cut q reading line part rest None = tt
header_cut q reading line part rest (Some version) = tt

behind_cut : (p q : ℕ) (reading : Reading) (first : ContentLine) (front : List ContentLine) (line : ContentLine) (rest extra : List ContentLine) → IsEnding line rest extra → (found : Option Version) → spec.reading_behind p found first (front ++ line ∷ rest) ≡ Ok reading → IsSpecCut reading line rest extra (spec.reading_behind q found first (front ++ extra))
behind_cut p q reading first front line rest extra ending None e = absurd cc
behind_cut p q reading first front line rest extra ending (Some version) e = spec_cut version p q empty reading front line rest extra ending e

spec_all_cut : (p q : ℕ) (reading : Reading) (front : List ContentLine) (line : ContentLine) (rest extra : List ContentLine) → IsEnding line rest extra → spec.reading_all p (front ++ line ∷ rest) ≡ Ok reading → IsSpecCut reading line rest extra (spec.reading_all q (front ++ extra))
spec_all_cut p q reading [] line rest [] ending e = tt
spec_all_cut p q reading [] line rest (part ∷ []) ending e = header_cut q reading line part rest (header_version part.bytes)
spec_all_cut p q reading [] line rest (part ∷ other ∷ others) ending e = absurd ending
spec_all_cut p q reading (first ∷ front) line rest extra ending e = behind_cut p q reading first front line rest extra ending (header_version first.bytes) e

-- ---- the workload

-- what is given where the lines run out
abbrev at_end : ℕ → Draft → Result Draft Broken
at_end past_end draft = cond draft.ended (Ok draft) (broken_at S8 past_end)

abbrev Fails : {X : Type 0} → Result X Broken → Type 0
Fails gives = (broken : Broken) × (gives ≡ Err broken)

module _ (also : Also) where
  -- what a line gives
  abbrev reading_after : Spec → Result Draft LineRule → ContentLine → List ContentLine → (Draft → Result Draft Broken) → Result Draft Broken
  reading_after s after line rest go = language.reading_after (work.drafts also s) after line rest go

  abbrev pub FirstTaken : Spec → Draft → ContentLine → (Draft → Result Draft Broken) → Draft → Type 0
  FirstTaken s draft line go last = (next : Draft) × (after_bytes also s draft line.bytes ≡ Ok next) × (go next ≡ Ok last)

  first_by : (s : Spec) (draft last : Draft) (line : ContentLine) (rest : List ContentLine) (go : Draft → Result Draft Broken) (after : Result Draft LineRule) → after_bytes also s draft line.bytes ≡ after → reading_after s after line rest go ≡ Ok last → FirstTaken s draft line go last
  first_by s draft last line rest go (Err rule) is e = absurd cc
  first_by s draft last line rest go (Ok next) is e = (next, is, e)

  pub first_taken : (p : ℕ) (s : Spec) (draft last : Draft) (line : ContentLine) (rest : List ContentLine) → work.reading_from also p s draft (line ∷ rest) ≡ Ok last → FirstTaken s draft line (λ next. work.reading_from also p s next rest) last
  unfolding work.reading_from
  first_taken p s draft last line rest e = first_by s draft last line rest (λ next. work.reading_from also p s next rest) (after_bytes also s draft line.bytes) refl e

  runs_out : (q : ℕ) (draft : Draft) → draft.ended ≡ false → Fails (at_end q draft)
  runs_out q draft not_yet = rw not_yet (record { rule = S8; line = q }, refl)

  -- where a line that begins with `e` was taken, none is behind it
  pub none_behind : (p : ℕ) (s : Spec) (draft last : Draft) (rest : List ContentLine) → draft.ended ≡ true → work.reading_from also p s draft rest ≡ Ok last → rest ≡ []
  none_behind p s draft last [] ended e = refl
  none_behind p s draft last (line ∷ rest) ended e =
      let first = first_taken p s draft last line rest e in
      absurd (let not_yet = unended also s draft first.0 line.bytes first.1 in cc)

  part_ends : (p : ℕ) (s : Spec) (draft next last : Draft) (line part : ContentLine) (rest : List ContentLine) → IsPart line rest part → work.reading_from also p s draft (line ∷ rest) ≡ Ok last → after_bytes also s draft part.bytes ≡ Ok next → next.ended ≡ true → ⊥
  part_ends p s draft next last line part rest is e taken ended =
      let first = first_taken p s draft last line rest e in
      let end = end_is also s draft next part.bytes taken ended in
      let begins = end_begins part.bytes end in
      let line_ended : first.0.ended ≡ true = e_ends also s draft first.0 line.bytes (is.begins begins) first.1 in
      end_has_d part.bytes end (is.lacks begins (none_behind p s first.0 last rest line_ended first.2))

  part_fails : (q : ℕ) (draft : Draft) → (draft.ended ≡ true → ⊥) → Fails (at_end q draft)
  part_fails q draft not_yet =
      elim draft.ended as (λ v. draft.ended ≡ v → Fails (cond v (Ok draft) (broken_at S8 q))) [
        | true ↦ λ ended. absurd (not_yet ended)
        | false ↦ λ _. (record { rule = S8; line = q }, refl)
      ] refl

  part_step : (q : ℕ) (s : Spec) (draft : Draft) (part : ContentLine) (after : Result Draft LineRule) → after_bytes also s draft part.bytes ≡ after → ((next : Draft) → after_bytes also s draft part.bytes ≡ Ok next → next.ended ≡ true → ⊥) → Fails (reading_after s after part [] (λ next. work.reading_from also q s next []))
  unfolding work.reading_from
  part_step q s draft part (Err rule) is not_yet = (record { rule = rule; line = part.number }, refl)
  part_step q s draft part (Ok next) is not_yet = part_fails q next (not_yet next is)

  work_step : (s : Spec) (last : Draft) (first : ContentLine) (rest left : List ContentLine) (go left_go : Draft → Result Draft Broken) → ((next : Draft) → go next ≡ Ok last → Fails (left_go next)) → (after : Result Draft LineRule) → reading_after s after first rest go ≡ Ok last → Fails (reading_after s after first left left_go)
  work_step s last first rest left go left_go ih (Err rule) e = absurd cc
  work_step s last first rest left go left_go ih (Ok next) e = ih next e

  work_cut : (p q : ℕ) (s : Spec) (draft last : Draft) (front : List ContentLine) (line : ContentLine) (rest extra : List ContentLine) → IsEnding line rest extra → work.reading_from also p s draft (front ++ line ∷ rest) ≡ Ok last → Fails (work.reading_from also q s draft (front ++ extra))
  unfolding work.reading_from
  work_cut p q s draft last [] line rest [] ending e =
      let first = first_taken p s draft last line rest e in
      runs_out q draft (unended also s draft first.0 line.bytes first.1)
  work_cut p q s draft last [] line rest (part ∷ []) ending e =
      part_step q s draft part (after_bytes also s draft part.bytes) refl (λ next taken ended. part_ends p s draft next last line part rest ending e taken ended)
  work_cut p q s draft last [] line rest (part ∷ other ∷ others) ending e = absurd ending
  work_cut p q s draft last (first ∷ front) line rest extra ending e =
      work_step s last first (front ++ line ∷ rest) (front ++ extra) (λ next. work.reading_from also p s next (front ++ line ∷ rest)) (λ next. work.reading_from also q s next (front ++ extra)) (λ next. work_cut p q s next last front line rest extra ending) (after_bytes also s draft first.bytes) e

  head_alone : (q : ℕ) (s : Spec) (part : ContentLine) (threads : Result ℕ LineRule) → Fails (work.reading_behind also q s (work.headed_by threads part []))
  unfolding work.reading_from
  head_alone q s part (Err rule) = (record { rule = rule; line = part.number }, refl)
  head_alone q s part (Ok threads) = (record { rule = S8; line = q }, refl)

  head_cut : (p q : ℕ) (s : Spec) (last : Draft) (first : ContentLine) (front : List ContentLine) (line : ContentLine) (rest extra : List ContentLine) → IsEnding line rest extra → (threads : Result ℕ LineRule) → work.reading_behind also p s (work.headed_by threads first (front ++ line ∷ rest)) ≡ Ok last
      → Fails (work.reading_behind also q s (work.headed_by threads first (front ++ extra)))
  head_cut p q s last first front line rest extra ending (Err rule) e = absurd cc
  head_cut p q s last first front line rest extra ending (Ok threads) e = work_cut p q s (draft_of threads) last front line rest extra ending e

  work_all_cut : (p q : ℕ) (s : Spec) (last : Draft) (front : List ContentLine) (line : ContentLine) (rest extra : List ContentLine) → IsEnding line rest extra → work.reading_all also p s (front ++ line ∷ rest) ≡ Ok last → Fails (work.reading_all also q s (front ++ extra))
  work_all_cut p q s last [] line rest [] ending e = (record { rule = S1; line = q }, refl)
  work_all_cut p q s last [] line rest (part ∷ []) ending e = head_alone q s part (threads_of part.bytes)
  work_all_cut p q s last [] line rest (part ∷ other ∷ others) ending e = absurd ending
  work_all_cut p q s last (first ∷ front) line rest extra ending e = head_cut p q s last first front line rest extra ending (threads_of first.bytes) e

-- ---- the lines behind the specification

abbrev pub Stands : Reading → List ContentLine → Type 0
Stands reading lines = (front : List ContentLine) × (lines ≡ front ++ reading.last ∷ reading.others)

stands_more : (reading : Reading) (first : ContentLine) (lines : List ContentLine) → Stands reading lines → Stands reading (first ∷ lines)
stands_more reading first lines is = (first ∷ is.0, ap (λ (xs : List ContentLine). first ∷ xs) is.1)

module _ (version : Version) where
  stands_step : (reading : Reading) (first : ContentLine) (lines : List ContentLine) (go : Spec → Result Reading Broken) → ((next : Spec) → go next ≡ Ok reading → Stands reading lines) → (after : Result After LineRule) → spec.reading_after version after first lines go ≡ Ok reading → Stands reading (first ∷ lines)
  stands_step reading first lines go ih (Err rule) e = absurd cc
  stands_step reading first lines go ih (Ok after) e =
      elim after.ended as (λ v. cond v (Ok (record { version = version; spec = after.spec; last = first; others = lines })) (go after.spec) ≡ Ok reading → Stands reading (first ∷ lines)) [
        | true ↦ λ same.
            let is = same_reading (record { version = version; spec = after.spec; last = first; others = lines }) reading same in
            ([], ap (λ (r : Reading). r.last ∷ r.others) is)
        | false ↦ λ same. stands_more reading first lines (ih after.spec same)
      ] e

  stands_from : (p : ℕ) (s : Spec) (reading : Reading) (lines : List ContentLine) → spec.reading_from version p s lines ≡ Ok reading → Stands reading lines
  unfolding spec.reading_from
  stands_from p s reading [] e = absurd cc
  stands_from p s reading (first ∷ lines) e = stands_step reading first lines (λ next. spec.reading_from version p next lines) (λ next. stands_from p next reading lines) (spec.after_bytes version s first.bytes) e

stands_behind : (p : ℕ) (reading : Reading) (first : ContentLine) (lines : List ContentLine) (found : Option Version) → spec.reading_behind p found first lines ≡ Ok reading → Stands reading (first ∷ lines)
stands_behind p reading first lines None e = absurd cc
stands_behind p reading first lines (Some version) e = stands_more reading first lines (stands_from version p empty reading lines e)

pub stands_all : (p : ℕ) (reading : Reading) (lines : List ContentLine) → spec.reading_all p lines ≡ Ok reading → Stands reading lines
stands_all p reading [] e = absurd cc
stands_all p reading (first ∷ lines) e = stands_behind p reading first lines (header_version first.bytes) e

-- where in the lines a content line stands
pub record StandsBehind (at number : ℕ) (lines : List (List ℕ)) (line : ContentLine) (others : List ContentLine) : Type 0 where
  pub passed : ℕ
  pub within : passed ≤ length lines
  pub next : line.next ≡ at + sum_by length (take passed lines)
  pub number_is : line.number + 1 ≡ number + passed
  pub others_are : content_among line.next (line.number + 1) (drop passed lines) ≡ others

behind_more : (at number : ℕ) (first : List ℕ) (lines : List (List ℕ)) (line : ContentLine) (others : List ContentLine) → StandsBehind (at + length first) (number + 1) lines line others → StandsBehind at number (first ∷ lines) line others
behind_more at number first lines line others is = record {
  passed = suc is.passed;
  within = omega (arith, is.within);
  next = omega (arith, is.next, sum_by-cons length first (take is.passed lines));
  number_is = omega (arith, is.number_is);
  others_are = is.others_are;
}

-- equal lists have equal heads, and none is empty that has a line
pub same_head : (x y : ContentLine) (xs ys : List ContentLine) → x ∷ xs ≡ y ∷ ys → (x ≡ y) × (xs ≡ ys)
same_head x y xs ys e = (cc, cc)

pub no_list : (front others : List ContentLine) (line : ContentLine) → [] ≡ front ++ line ∷ others → ⊥
no_list [] others line e = cc
no_list (first ∷ front) others line e = cc

behind_first : (at number : ℕ) (first : List ℕ) (lines : List (List ℕ)) (front : List ContentLine) (line : ContentLine) (others : List ContentLine) → ((front : List ContentLine) → content_among (at + length first) (number + 1) lines ≡ front ++ line ∷ others → StandsBehind (at + length first) (number + 1) lines line others)
    → record { number = number; bytes = bytes_of_line first; next = at + length first } ∷ content_among (at + length first) (number + 1) lines ≡ front ++ line ∷ others → StandsBehind at number (first ∷ lines) line others
behind_first at number first lines [] line others ih e =
    let here : ContentLine = record { number = number; bytes = bytes_of_line first; next = at + length first } in
    let same = same_head here line (content_among (at + length first) (number + 1) lines) others e in
    subst (λ (x : ContentLine). StandsBehind at number (first ∷ lines) x others) same.0
    (record {
      passed = 1;
      within = omega arith;
      next = omega (arith, sum_by-cons length first []);
      number_is = refl;
      others_are = same.1;
    })
behind_first at number first lines (other ∷ front) line others ih e =
    behind_more at number first lines line others (ih front (same_head (record { number = number; bytes = bytes_of_line first; next = at + length first }) other (content_among (at + length first) (number + 1) lines) (front ++ line ∷ others) e).1)

behind : (at number : ℕ) (lines : List (List ℕ)) (front : List ContentLine) (line : ContentLine) (others : List ContentLine) → content_among at number lines ≡ front ++ line ∷ others → StandsBehind at number lines line others
behind at number [] front line others e = absurd (no_list front others line e)
behind at number (first ∷ lines) front line others e =
    elim (is_content (bytes_of_line first)) as (λ v. cond v (record { number = number; bytes = bytes_of_line first; next = at + length first } ∷ content_among (at + length first) (number + 1) lines) (content_among (at + length first) (number + 1) lines) ≡ front ++ line ∷ others → StandsBehind at number (first ∷ lines) line others) [
      | true ↦ behind_first at number first lines front line others (λ fs. behind (at + length first) (number + 1) lines fs line others)
      | false ↦ λ same. behind_more at number first lines line others (behind (at + length first) (number + 1) lines front line others same)
    ] e

-- the content lines behind a specification are those that its reading left
pub others_are : (text : List ℕ) (reading : Reading) → spec_reading text ≡ Ok reading → content_from (place_after text reading) ≡ reading.others
others_are text reading e =
    let stands = stands_all (past_end_of text) reading (content_from (start_of text)) e in
    let is : StandsBehind 0 1 (lines_of text) reading.last reading.others = behind 0 1 (lines_of text) stands.0 reading.last reading.others stands.1 in
    let passed : (reading.last.number + 1) - 1 ≡ is.passed = omega (arith, is.number_is) in
    let start : IsLineStart (place_after text reading) = record {
      first = omega arith;
      last = omega (arith, is.number_is, is.within);
      before = omega (arith, is.next, ap (λ (k : ℕ). sum_by length (take k (lines_of text))) passed);
    } in
    ap (content_among reading.last.next (reading.last.number + 1)) (lines_from_is (place_after text reading) start ∙ ap (λ (k : ℕ). drop k (lines_of text)) passed)
    ∙ is.others_are

-- ---- a cut text

blank-lacks : (b : ℕ) → is_blank b ≡ true → not (eqb b 100) ≡ true
blank-lacks b e = elim (or_cases (eqb b 32) (eqb b 9) e) [
  | inl same ↦ ap (λ (c : ℕ). not (eqb c 100)) (eqb-true b 32 same)
  | inr same ↦ ap (λ (c : ℕ). not (eqb c 100)) (eqb-true b 9 same)
]

start-lacks : (blanks : List ℕ) → list_all is_blank blanks ≡ true → lacks_d (blanks ++ codes "en") ≡ true
start-lacks [] all = refl
start-lacks (b ∷ bs) all =
    let parts = and_parts (is_blank b) (list_all is_blank bs) all in
    rw (blank-lacks b parts.0, start-lacks bs parts.1) refl

last-content : (blanks tail : List ℕ) → list_all is_blank blanks ≡ true → is_content (bytes_of_line ((blanks ++ codes "en") ++ 100 ∷ tail)) ≡ true
last-content blanks tail all =
    let line : List ℕ = (blanks ++ codes "en") ++ 100 ∷ tail in
    let begins : begins_e line ≡ true = subst (λ (bs : List ℕ). begins_e bs ≡ true) (sym (append_assoc blanks (codes "en") (100 ∷ tail))) (blanks_begin blanks tail all) in
    begins-content (bytes_of_line line) (begins-kept 13 (without_last 10 line) (λ q. absurd cc) (begins-kept 10 line (λ q. absurd cc) begins))

text_cut : (text : List ℕ) (at n : ℕ) → IsLastLetter text at → n ≤ at → IsCut (content_from (start_of text)) (content_from (start_of (take n text)))
text_cut text at n is within =
    let start : List ℕ = is.blanks ++ codes "en" in
    let made = cut_content 0 1 n is.before start is.tail is.others (start-lacks is.blanks is.are_blank) (last-content is.blanks is.tail is.are_blank) (omega (arith, within, is.place)) in
    rw (lines_of-take n text, is.lines) made

pub record IsGiven (also : Also) (text : List ℕ) : Type 0 where
  pub reading : Reading
  pub draft : Draft
  pub spec_is : spec_reading text ≡ Ok reading
  pub work_is : work.reading_all also (past_end_of text) reading.spec reading.others ≡ Ok draft

given_work : (also : Also) (text : List ℕ) (reading : Reading) (gives : Result Draft Broken) (whole : Whole) → spec_reading text ≡ Ok reading → work.reading_all also (past_end_of text) reading.spec reading.others ≡ gives → whole_by reading.spec (work_by reading.spec gives) ≡ Ok whole → IsGiven also text
given_work also text reading (Err broken) whole read is e = absurd cc
given_work also text reading (Ok draft) whole read is e = record { reading = reading; draft = draft; spec_is = read; work_is = is }

pub given_spec : (also : Also) (text : List ℕ) (gives : Result Reading Broken) (whole : Whole) → spec_reading text ≡ gives → text_reading_by also text gives ≡ Ok whole → IsGiven also text
given_spec also text (Err broken) whole read e = absurd cc
given_spec also text (Ok reading) whole read e =
    given_work also text reading (work.reading_all also (past_end_of text) reading.spec reading.others) whole read refl
    (ap (λ (lines : List ContentLine). whole_by reading.spec (work_by reading.spec (work.reading_all also (past_end_of text) reading.spec lines))) (sym (others_are text reading read)) ∙ e)

work_fails : (also : Also) (text : List ℕ) (reading : Reading) → spec_reading text ≡ Ok reading → Fails (work.reading_all also (past_end_of text) reading.spec reading.others) → IsRefused also text
work_fails also text reading read fails = (
  fails.0,
  ap (text_reading_by also text) read
      ∙ ap (λ (lines : List ContentLine). whole_by reading.spec (work_by reading.spec (work.reading_all also (past_end_of text) reading.spec lines))) (others_are text reading read)
      ∙ ap (λ (r : Result Draft Broken). whole_by reading.spec (work_by reading.spec r)) fails.1,
)

nothing_fails : (also : Also) (q : ℕ) (s : Spec) (lines : List ContentLine) → lines ≡ [] → Fails (work.reading_all also q s lines)
nothing_fails also q s lines none = rw none (record { rule = S1; line = q }, refl)

refused_by : (also : Also) (text : List ℕ) (p : ℕ) (reading : Reading) (draft : Draft) (line : ContentLine) (rest extra : List ContentLine) → IsEnding line rest extra → work.reading_all also p reading.spec reading.others ≡ Ok draft → (gives : Result Reading Broken) → spec_reading text ≡ gives → IsSpecCut reading line rest extra gives → IsRefused also text
refused_by also text p reading draft line rest extra ending made (Err broken) read is = (broken, ap (text_reading_by also text) read)
refused_by also text p reading draft line rest extra ending made (Ok left) read (inl none) = work_fails also text left read (nothing_fails also (past_end_of text) left.spec left.others none)
refused_by also text p reading draft line rest extra ending made (Ok left) read (inr same) =
    work_fails also text left read
    (rw (same.spec, same.left_is)
    (work_all_cut also p (past_end_of text) reading.spec draft same.front line rest extra ending
    (ap (work.reading_all also p reading.spec) (sym same.whole) ∙ made)))

pub cut_texts_are_refused : CutTextsAreRefused
cut_texts_are_refused also text whole at n e is within =
    let given : IsGiven also text = given_spec also text (spec_reading text) whole refl e in
    let is_cut = text_cut text at n is within in
    let spec_is : spec.reading_all (past_end_of text) (is_cut.front ++ is_cut.line ∷ is_cut.rest) ≡ Ok given.reading = ap (spec.reading_all (past_end_of text)) (sym is_cut.whole_is) ∙ given.spec_is in
    let left : IsSpecCut given.reading is_cut.line is_cut.rest is_cut.extra (spec_reading (take n text)) =
    subst (λ (lines : List ContentLine). IsSpecCut given.reading is_cut.line is_cut.rest is_cut.extra (spec.reading_all (past_end_of (take n text)) lines)) (sym is_cut.left_is)
    (spec_all_cut (past_end_of text) (past_end_of (take n text)) given.reading is_cut.front is_cut.line is_cut.rest is_cut.extra is_cut.ending spec_is) in
    refused_by also (take n text) (past_end_of text) given.reading given.draft is_cut.line is_cut.rest is_cut.extra is_cut.ending given.work_is (spec_reading (take n text)) refl left
