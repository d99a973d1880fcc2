-- The answers of the code that reads a workload whose calls may bring their own operation.
use Rattle.std.proofs.Common.{◌≡◌, ℕ, Bool, true, false, List, [], ◌∷◌, Option, Some, None, Ok, Err, refl, sym, ap, ◌∙◌, inl, inr}
use Rattle.rc_work.proofs.Imports.{false≢true, ContentLine, TextPlace, content_from, past_end_of, AreRead, Comes, Stops, Reads, Unread, Line, Spec, Refuses, refusal_at, LineFault, S8, OpenDraft, ReadsOpenLine, fails_open_line, open_of, open_language, open_behind, open_all, broken_at, headed}
use Rattle.rc_text.specs.Language as language
use Rattle.rc_text.specs.LanguageLaws as laws
use Rattle.rc_reader.specs.declared.refusal.LineFault.TheVariants as faults
use Rattle.rc_work.specs.OpenGrammar.{open_from}

module _ (later : Bool) (spec : Spec) where
  -- lines that are read break no rule
  taken : (draft : OpenDraft) (lines : List ContentLine) (next : OpenDraft) → AreRead (ReadsOpenLine later spec) draft lines next
      → language.AreTaken (open_language later spec) draft lines next
  taken draft [] next e = e
  taken draft (line ∷ lines) next (between, is, read) = (between, is.gives, refl, taken between lines next read)

  -- none of them ends the reading
  all_read : (draft : OpenDraft) (lines : List ContentLine) (answer : Option Line) (next : OpenDraft) (others : List ContentLine)
      → Reads (ReadsOpenLine later spec) (fails_open_line later spec) draft lines (Ok answer) next others → AreRead (ReadsOpenLine later spec) draft lines next
  all_read draft lines None next others read = read
  all_read draft lines (Some last) next others read = absurd (false≢true (sym read.ends.goes_on))

  reached : (draft : OpenDraft) (lines : List ContentLine) (before : OpenDraft) (line : ContentLine) (others : List ContentLine)
      → Comes (ReadsOpenLine later spec) draft lines before line others → language.Reaches (open_language later spec) draft lines before line others
  reached draft lines before line others comes = record {
    front = comes.front;
    whole = comes.whole;
    taken = taken draft comes.front before comes.read;
  }

  module _ (past_end : ℕ) (draft : OpenDraft) (lines : List ContentLine) where
    -- `end` is one of the lines
    pub whole : (answer : Option Line) (next : OpenDraft) (others : List ContentLine)
        → Reads (ReadsOpenLine later spec) (fails_open_line later spec) draft lines (Ok answer) next others → next.draft.ended ≡ true
        → open_from later past_end spec draft lines ≡ Ok next
    unfolding open_from
    whole answer next others read ended =
        laws.reading-means (open_language later spec) past_end draft lines (Ok next)
        (inr (record { next = next; taken = taken draft lines next (all_read draft lines answer next others read); out = rw ended refl }))

    -- it is none of them
    pub unended : (answer : Option Line) (next : OpenDraft) (others : List ContentLine)
        → Reads (ReadsOpenLine later spec) (fails_open_line later spec) draft lines (Ok answer) next others → next.draft.ended ≡ false
        → open_from later past_end spec draft lines ≡ broken_at S8 past_end
    unfolding open_from
    unended answer next others read not_yet =
        laws.reading-means (open_language later spec) past_end draft lines (broken_at S8 past_end)
        (inr (record { next = next; taken = taken draft lines next (all_read draft lines answer next others read); out = rw not_yet refl }))

    broken : (fault : LineFault) (number : ℕ)
        → Stops (ReadsOpenLine later spec) (fails_open_line later spec) draft lines (record { fault = fault; line = number })
        → Refuses (refusal_at fault number) (open_from later past_end spec draft lines)
    unfolding open_from
    broken faults.Memory number stops = tt
    broken (faults.Broken rule) number stops =
        laws.reading-means (open_language later spec) past_end draft lines (Err (record { rule = rule; line = number }))
        (inl (record {
          before = stops.before;
          line = stops.line;
          others = stops.others;
          reached = reached draft lines stops.before stops.line stops.others stops.comes;
          breaks = stops.stops;
          number = stops.number;
        }))

    -- a line is refused
    pub refused : (unread : Unread LineFault) → Stops (ReadsOpenLine later spec) (fails_open_line later spec) draft lines unread
        → Refuses (refusal_at unread.fault unread.line) (open_from later past_end spec draft lines)
    refused unread stops = broken unread.fault unread.line stops

  -- behind the header, what the lines give from its draft is what all lines give
  pub behind_header : (old new : TextPlace) (threads : ℕ) (draft : OpenDraft) → draft ≡ open_of threads
      → headed (past_end_of old.text) (content_from old) ≡ Ok (record { threads = threads; others = content_from new })
      → open_all later (past_end_of old.text) spec (content_from old) ≡ open_from later (past_end_of old.text) spec draft (content_from new)
  behind_header old new threads draft is header =
      ap (open_behind later (past_end_of old.text) spec) header
      ∙ ap (λ (d : OpenDraft). open_from later (past_end_of old.text) spec d (content_from new)) (sym is)
