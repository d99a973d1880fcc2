-- A workload that is read up to its `end` is that of its lines up to there, and where it is refused the whole is.
use Rattle.std.proofs.Common.{◌≡◌, ℕ, true, false, List, [], ◌∷◌, ◌++◌, Result, Ok, Err, refl, sym, ap, ◌∙◌, subst, inl, inr}
use Rattle.rc_text.specs.Language as language
use Rattle.rc_text.specs.LanguageLaws as laws
use Rattle.rc_work.specs.Imports.{ContentLine, TextPlace, content_from, past_end_of, Spec, Broken, LineRule, S8}
use Rattle.rc_work.specs.declared.also.Also.{Also}
use Rattle.rc_work.specs.declared.draft.Draft.{Draft}
use Rattle.rc_work.specs.WorkGrammar.{after_bytes, broken_at, draft_of, drafts, headed_by, reading_all, reading_behind, reading_from, threads_of}
use Rattle.rc_work.specs.PartGrammar.{DraftPart, WorkPart, part_all, part_behind, part_from, draft_parts, part_reading, work_part_by}
use Rattle.rc_work.specs.Ranking.{work_by}

-- the lines up to that `end` are the first of these, and give the draft
pub record IsDraftPart (also : Also) (past_end : ℕ) (spec : Spec) (lines : List ContentLine) (part : DraftPart) : Type 0 where
  pub front : List ContentLine
  pub whole : lines ≡ front ++ part.last ∷ part.others
  pub gives : reading_all also past_end spec (front ++ part.last ∷ []) ≡ Ok part.draft

module _ (also : Also) (spec : Spec) where
  -- lines that are taken before `end`
  taken : (draft : Draft) (lines : List ContentLine) (before : Draft) → language.AreTaken (draft_parts also spec) draft lines before
      → language.AreTaken (drafts also spec) draft lines before
  taken draft [] before e = e
  taken draft (line ∷ lines) before (between, gives, going, more) = (between, gives, refl, taken between lines before more)

  -- and with it
  taken_last : (draft : Draft) (lines : List ContentLine) (before : Draft) (last : ContentLine) (next : Draft)
      → language.AreTaken (draft_parts also spec) draft lines before → after_bytes also spec before last.bytes ≡ Ok next
      → language.AreTaken (drafts also spec) draft (lines ++ last ∷ []) next
  taken_last draft [] before last next e gives = (next, ap (λ d. after_bytes also spec d last.bytes) e ∙ gives, refl, refl)
  taken_last draft (line ∷ lines) before last next (between, given, going, more) gives =
      (between, given, refl, taken_last between lines before last next more gives)

  -- a draft that ended is what its lines give
  ended_reading : (past_end : ℕ) (draft : Draft) (lines : List ContentLine) (next : Draft) → language.AreTaken (drafts also spec) draft lines next
      → next.ended ≡ true → reading_from also past_end spec draft lines ≡ Ok next
  unfolding reading_from
  ended_reading past_end draft lines next are ended =
      laws.reading-means (drafts also spec) past_end draft lines (Ok next) (inr (record { next = next; taken = are; out = rw ended refl }))

  module _ (past_end : ℕ) where
    -- ---- behind the header

    record IsPartFrom (draft : Draft) (lines : List ContentLine) (part : DraftPart) : Type 0 where
      front : List ContentLine
      whole : lines ≡ front ++ part.last ∷ part.others
      gives : reading_from also past_end spec draft (front ++ part.last ∷ []) ≡ Ok part.draft

    read_part : (draft : Draft) (lines : List ContentLine) (part : DraftPart) → part_from also past_end spec draft lines ≡ Ok part
        → IsPartFrom draft lines part
    unfolding part_from
    read_part draft lines part e =
        elim (subst (language.LinesMean (draft_parts also spec) past_end draft lines) e (laws.means-reading (draft_parts also spec) past_end draft lines)) [
          | inl found ↦
              subst (IsPartFrom draft lines) found.value
              (record {
                front = found.reached.front;
                whole = found.reached.whole;
                gives =
                    ended_reading past_end draft (found.reached.front ++ found.last ∷ []) found.given
                    (taken_last draft found.reached.front found.before found.last found.given found.reached.taken found.gives) found.ended;
              })
          | inr out ↦ (let none = out.out in absurd cc)
        ]

    -- no line is taken that ends it
    taken_open : (draft : Draft) (lines : List ContentLine) (next : Draft) → draft.ended ≡ false
        → language.AreTaken (draft_parts also spec) draft lines next → next.ended ≡ false
    taken_open draft [] next going e = ap (λ (d : Draft). d.ended) (sym e) ∙ going
    taken_open draft (line ∷ lines) next going (between, given, open_still, more) = taken_open between lines next open_still more

    refused_part : (draft : Draft) (lines : List ContentLine) (broken : Broken) → draft.ended ≡ false → part_from also past_end spec draft lines ≡ Err broken
        → reading_from also past_end spec draft lines ≡ Err broken
    unfolding part_from reading_from
    refused_part draft lines broken going e =
        elim (subst (language.LinesMean (draft_parts also spec) past_end draft lines) e (laws.means-reading (draft_parts also spec) past_end draft lines)) [
          | inl found ↦
              laws.reading-means (drafts also spec) past_end draft lines (Err broken)
              (inl (record {
                before = found.before;
                line = found.line;
                others = found.others;
                reached = record {
                  front = found.reached.front;
                  whole = found.reached.whole;
                  taken = taken draft found.reached.front found.before found.reached.taken;
                };
                breaks = found.breaks;
                number = found.number;
              }))
          | inr out ↦
              (let still = taken_open draft lines out.next going out.taken in
              laws.reading-means (drafts also spec) past_end draft lines (Err broken)
              (inr (record {
                next = out.next;
                taken = taken draft lines out.next out.taken;
                out = rw still (same_out broken out.out);
              })))
        ]
      where
        same_out : (broken : Broken) → broken_at {X = DraftPart} S8 past_end ≡ Err broken → broken_at {X = Draft} S8 past_end ≡ Err broken
        same_out broken h = cc

    -- ---- the header

    head_part : (line : ContentLine) (others : List ContentLine) (found : Result ℕ LineRule) (part : DraftPart) → threads_of line.bytes ≡ found
        → part_behind also past_end spec (headed_by found line others) ≡ Ok part → IsDraftPart also past_end spec (line ∷ others) part
    head_part line others (Err rule) part is e = absurd cc
    head_part line others (Ok threads) part is e =
        let from = read_part (draft_of threads) others part e in
        record {
          front = line ∷ from.front;
          whole = ap (λ l. line ∷ l) from.whole;
          gives = ap (λ found. reading_behind also past_end spec (headed_by found line (from.front ++ part.last ∷ []))) is ∙ from.gives;
        }

    head_refused : (line : ContentLine) (others : List ContentLine) (found : Result ℕ LineRule) (broken : Broken)
        → part_behind also past_end spec (headed_by found line others) ≡ Err broken
        → reading_behind also past_end spec (headed_by found line others) ≡ Err broken
    head_refused line others (Err rule) broken e = cc
    head_refused line others (Ok threads) broken e = refused_part (draft_of threads) others broken refl e

    -- ---- all lines

    pub draft_part : (lines : List ContentLine) (part : DraftPart) → part_all also past_end spec lines ≡ Ok part → IsDraftPart also past_end spec lines part
    draft_part [] part e = absurd cc
    draft_part (line ∷ others) part e = head_part line others (threads_of line.bytes) part refl e

    pub part_refused : (lines : List ContentLine) (broken : Broken) → part_all also past_end spec lines ≡ Err broken
        → reading_all also past_end spec lines ≡ Err broken
    part_refused [] broken e = cc
    part_refused (line ∷ others) broken e = head_refused line others (threads_of line.bytes) broken e

-- ---- workloads

-- the lines up to that `end` are the first of these, and give the workload
pub record IsPartOf (also : Also) (past_end : ℕ) (spec : Spec) (lines : List ContentLine) (part : WorkPart) : Type 0 where
  pub front : List ContentLine
  pub whole : lines ≡ front ++ part.last ∷ part.others
  pub gives : work_by spec (reading_all also past_end spec (front ++ part.last ∷ [])) ≡ Ok part.work

-- a workload that is read up to its `end` is that of its lines up to there
abbrev pub PartsAreWorks : Type 0
PartsAreWorks = (also : Also) (spec : Spec) (place : TextPlace) (part : WorkPart) → part_reading also spec place ≡ Ok part
    → IsPartOf also (past_end_of place.text) spec (content_from place) part

abbrev read_as : WorkPart → Result WorkPart Broken
read_as part = Ok part

same_part : (x y : WorkPart) → read_as x ≡ read_as y → x ≡ y
same_part x y e = cc

work_part : (also : Also) (past_end : ℕ) (spec : Spec) (lines : List ContentLine) (found : Result DraftPart Broken) (part : WorkPart)
    → part_all also past_end spec lines ≡ found → work_part_by spec found ≡ Ok part → IsPartOf also past_end spec lines part
work_part also past_end spec lines (Err broken) part is e = absurd cc
work_part also past_end spec lines (Ok drafted) part is e =
    let of = draft_part also spec past_end lines drafted is in
    subst (IsPartOf also past_end spec lines) (same_part _ part e) (record { front = of.front; whole = of.whole; gives = ap (work_by spec) of.gives })

pub parts_are_works : PartsAreWorks
parts_are_works also spec place part e =
    work_part also (past_end_of place.text) spec (content_from place) (part_all also (past_end_of place.text) spec (content_from place)) part refl e

-- where one is refused, the whole is, for the same rule and line
abbrev pub PartsAreRefused : Type 0
PartsAreRefused = (also : Also) (spec : Spec) (place : TextPlace) (broken : Broken) → part_reading also spec place ≡ Err broken
    → work_by spec (reading_all also (past_end_of place.text) spec (content_from place)) ≡ Err broken

refused_work : (also : Also) (past_end : ℕ) (spec : Spec) (lines : List ContentLine) (found : Result DraftPart Broken) (broken : Broken)
    → part_all also past_end spec lines ≡ found → work_part_by spec found ≡ Err broken → work_by spec (reading_all also past_end spec lines) ≡ Err broken
refused_work also past_end spec lines (Ok drafted) broken is e = absurd cc
refused_work also past_end spec lines (Err other) broken is e = ap (work_by spec) (part_refused also spec past_end lines other is) ∙ same e
  where
    same : work_part_by spec (Err other) ≡ Err broken → work_by spec (Err other) ≡ Err broken
    same h = cc

pub parts_are_refused : PartsAreRefused
parts_are_refused also spec place broken e =
    refused_work also (past_end_of place.text) spec (content_from place) (part_all also (past_end_of place.text) spec (content_from place)) broken refl e
