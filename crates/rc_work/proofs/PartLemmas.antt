-- The answers of the code that reads a workload up to its `end`.
use Rattle.std.proofs.Common.{◌≡◌, ℕ, ◌+◌, List, [], ◌∷◌, Option, Some, None, Ok, Err, refl, sym, ap, ◌∙◌, subst, inl, inr}
use Rattle.rc_work.proofs.Imports.{IfSome, ContentLine, TextPlace, IsLineStart, content_from, content_of, past_end_of, AreRead, Comes, ReadsLast, Stops, Reads, Unread, Line, Spec, Refuses, refusal_at, Rest, LineFault, S8, ReadRefusal, Also, Draft, Work, IsRestBehind, IsWorkRefusal, ReadsDraftPart, ReadsPart, ReadsPartLine, fails_line, IsDraft, IsOfAlso, IsDraft-reading_all, IsOfAlso-reading_all, DraftPart, part_all, part_behind, draft_parts, part_reading, work_part_by, draft_part, part_refused, work_of, IsWorkRefusal-reading_all, broken_at, draft_of, headed}
use Rattle.rc_text.specs.Language as language
use Rattle.rc_text.specs.LanguageLaws as laws
use Rattle.rc_reader.specs.declared.refusal.LineFault.TheVariants as faults
use Rattle.rc_reader.specs.declared.refusal.ReadRefusal.TheVariants as refusals
use Rattle.rc_work.specs.PartGrammar.{part_from}

module _ (also : Also) (spec : Spec) where
  -- lines that are read break no rule
  taken : (draft : Draft) (lines : List ContentLine) (next : Draft) → AreRead (ReadsPartLine also spec) draft lines next
      → language.AreTaken (draft_parts also spec) draft lines next
  taken draft [] next e = e
  taken draft (line ∷ lines) next (between, is, read) = (between, is.gives, sym is.ends, taken between lines next read)

  reached : (draft : Draft) (lines : List ContentLine) (before : Draft) (line : ContentLine) (others : List ContentLine)
      → Comes (ReadsPartLine also spec) draft lines before line others → language.Reaches (draft_parts also spec) draft lines before line others
  reached draft lines before line others comes = record {
    front = comes.front;
    whole = comes.whole;
    taken = taken draft comes.front before comes.read;
  }

  module _ (past_end : ℕ) (draft : Draft) (lines : List ContentLine) where
    ended_at : (last : ContentLine) (others : List ContentLine) (next : Draft) → ReadsLast (ReadsPartLine also spec) draft lines last others next
        → part_from also past_end spec draft lines ≡ Ok (record { draft = next; last = last; others = others })
    unfolding part_from
    ended_at last others next read =
        laws.reading-means (draft_parts also spec) past_end draft lines (Ok (record { draft = next; last = last; others = others }))
        (inl (record {
          before = read.before;
          last = last;
          others = others;
          given = next;
          reached = reached draft lines read.before last others read.comes;
          gives = read.ends.gives;
          ended = sym read.ends.ends;
          value = refl;
        }))

    -- the line `end` is read
    pub ended : (answer : Option Line) (last : Line) (others : List ContentLine) (next : Draft) → answer ≡ Some last
        → Reads (ReadsPartLine also spec) (fails_line also spec) draft lines (Ok answer) next others
        → part_from also past_end spec draft lines ≡ Ok (record { draft = next; last = content_of last; others = others })
    ended answer last others next is read =
        ended_at (content_of last) others next
        (subst (λ (a : Option Line). Reads (ReadsPartLine also spec) (fails_line also spec) draft lines (Ok a) next others) is read)

    unended_at : (next : Draft) → AreRead (ReadsPartLine also spec) draft lines next → part_from also past_end spec draft lines ≡ broken_at S8 past_end
    unfolding part_from
    unended_at next read =
        laws.reading-means (draft_parts also spec) past_end draft lines (broken_at S8 past_end)
        (inr (record { next = next; taken = taken draft lines next read; out = refl }))

    -- the lines run out
    pub unended : (answer : Option Line) (others : List ContentLine) (next : Draft) → answer ≡ None
        → Reads (ReadsPartLine also spec) (fails_line also spec) draft lines (Ok answer) next others
        → part_from also past_end spec draft lines ≡ broken_at S8 past_end
    unended answer others next is read =
        unended_at next (subst (λ (a : Option Line). Reads (ReadsPartLine also spec) (fails_line also spec) draft lines (Ok a) next others) is read)

    broken : (fault : LineFault) (number : ℕ)
        → Stops (ReadsPartLine also spec) (fails_line also spec) draft lines (record { fault = fault; line = number })
        → Refuses (refusal_at fault number) (part_from also past_end spec draft lines)
    unfolding part_from
    broken faults.Memory number stops = tt
    broken (faults.Broken rule) number stops =
        laws.reading-means (draft_parts also spec) past_end draft lines (Err (record { rule = rule; line = number }))
        (inl (record {
          before = stops.before;
          line = stops.line;
          others = stops.others;
          reached = reached draft lines stops.before stops.line stops.others stops.comes;
          breaks = stops.stops;
          number = stops.number;
        }))

    -- a line is refused
    pub refused : (unread : Unread LineFault) → Stops (ReadsPartLine also spec) (fails_line also spec) draft lines unread
        → Refuses (refusal_at unread.fault unread.line) (part_from also past_end spec draft lines)
    refused unread stops = broken unread.fault unread.line stops

  -- behind the header, what the lines give from its draft is what all lines give
  pub behind_header : (old new : TextPlace) (threads : ℕ) (draft : Draft) → draft ≡ draft_of threads
      → headed (past_end_of old.text) (content_from old) ≡ Ok (record { threads = threads; others = content_from new })
      → part_all also (past_end_of old.text) spec (content_from old) ≡ part_from also (past_end_of old.text) spec draft (content_from new)
  behind_header old new threads draft is header =
      ap (part_behind also (past_end_of old.text) spec) header
      ∙ ap (λ (d : Draft). part_from also (past_end_of old.text) spec d (content_from new)) (sym is)

  -- ---- what holds of a part that is read, or refused

  module _ (past_end : ℕ) (lines : List ContentLine) where
    pub IsDraft-part : (part : DraftPart) → part_all also past_end spec lines ≡ Ok part → IsDraft spec part.draft
    IsDraft-part part e = let of = draft_part also spec past_end lines part e in IsDraft-reading_all also past_end spec _ part.draft of.gives

    pub IsOfAlso-part : (part : DraftPart) → part_all also past_end spec lines ≡ Ok part → IsOfAlso also part.draft
    IsOfAlso-part part e = let of = draft_part also spec past_end lines part e in IsOfAlso-reading_all also past_end spec _ part.draft of.gives

    pub IsWorkRefusal-part : (refusal : ReadRefusal) → Refuses refusal (part_all also past_end spec lines) → IsWorkRefusal also refusal
    IsWorkRefusal-part refusals.Memory e = tt
    IsWorkRefusal-part (refusals.Line rule line) e =
        IsWorkRefusal-reading_all also past_end spec lines (refusals.Line rule line)
        (part_refused also spec past_end lines (record { rule = rule; line = line }) e)

-- the rest of a text behind a line that was read
pub rest_behind : (old new : TextPlace) (answer : Option Line) (last : Line) (rest : Rest) (text : List ℕ) (version : ℕ) → old.text ≡ text → answer ≡ Some last
    → IfSome answer (λ line. new ≡ record { text = old.text; at = line.next; line = line.number + 1 }) → IsLineStart new
    → rest ≡ record { at = last.next; line = last.number + 1; version = version }
    → IsRestBehind text version rest (content_of last) (content_from new)
rest_behind old new answer last rest text version text_is is behind start rest_is =
    let here : new ≡ record { text = text; at = last.next; line = last.number + 1 } =
    subst (λ (a : Option Line). IfSome a (λ line. new ≡ record { text = old.text; at = line.next; line = line.number + 1 })) is behind
    ∙ ap (λ (t : List ℕ). record { text = t; at = last.next; line = last.number + 1 }) text_is in
    subst (λ (r : Rest). IsRestBehind text version r (content_of last) (content_from new)) (sym rest_is) (record {
      at = refl;
      line = refl;
      version_is = refl;
      start = subst IsLineStart here start;
      others_are = ap content_from (sym here);
    })

-- the workload of a draft that was read is what the text gives up to `end`
pub work_part_read : (also : Also) (spec : Spec) (place read : TextPlace) (draft : Draft) (rest : Rest) (version : ℕ) (work : Work) → read ≡ place
    → ReadsDraftPart read.text version (Ok (draft, rest)) (part_all also (past_end_of read.text) spec (content_from read)) → work ≡ work_of spec draft
    → ReadsPart place.text version (Ok (work, rest)) (part_reading also spec place)
work_part_read also spec place read draft rest version work same (part, gives, draft_is, behind) work_is =
    let value : work_of spec part.draft ≡ work = ap (work_of spec) draft_is ∙ sym work_is in (
      record { work = work; last = part.last; others = part.others },
      ap (λ (p : TextPlace). part_reading also spec p) (sym same) ∙ ap (work_part_by spec) gives
          ∙ ap (λ (w : Work). Ok (record { work = w; last = part.last; others = part.others })) value,
      refl,
      subst (λ (p : TextPlace). IsRestBehind p.text version rest part.last part.others) same behind,
    )
