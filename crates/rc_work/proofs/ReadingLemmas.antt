-- The answers of the code that reads a workload.
use Rattle.std.proofs.Common.{◌≡◌, ℕ, true, false, List, [], ◌∷◌, Option, Some, None, Ok, Err, refl, sym, ap, ◌∙◌, inl, inr}
use Rattle.rc_work.proofs.Imports.{false≢true, ContentLine, TextPlace, content_from, past_end_of, AreRead, Comes, Stops, Reads, Unread, Line, Spec, Refuses, refusal_at, LineFault, S8, Also, Draft, ReadsLine, fails_line, broken_at, draft_of, drafts, headed, reading_behind, reading_all}
use Rattle.rc_text.specs.Language as language
use Rattle.rc_text.specs.LanguageLaws as laws
use Rattle.rc_reader.specs.declared.refusal.LineFault.TheVariants as faults
use Rattle.rc_work.specs.WorkGrammar.{reading_from}

module _ (also : Also) (spec : Spec) where
  -- lines that are read break no rule
  taken : (draft : Draft) (lines : List ContentLine) (next : Draft) → AreRead (ReadsLine also spec) draft lines next
      → language.AreTaken (drafts also spec) draft lines next
  taken draft [] next e = e
  taken draft (line ∷ lines) next (between, is, read) = (between, is.gives, refl, taken between lines next read)

  -- none of them ends the reading
  all_read : (draft : Draft) (lines : List ContentLine) (answer : Option Line) (next : Draft) (others : List ContentLine)
      → Reads (ReadsLine also spec) (fails_line also spec) draft lines (Ok answer) next others → AreRead (ReadsLine also spec) draft lines next
  all_read draft lines None next others read = read
  all_read draft lines (Some last) next others read = absurd (false≢true (sym read.ends.goes_on))

  reached : (draft : Draft) (lines : List ContentLine) (before : Draft) (line : ContentLine) (others : List ContentLine)
      → Comes (ReadsLine also spec) draft lines before line others → language.Reaches (drafts also spec) draft lines before line others
  reached draft lines before line others comes = record {
    front = comes.front;
    whole = comes.whole;
    taken = taken draft comes.front before comes.read;
  }

  module _ (past_end : ℕ) (draft : Draft) (lines : List ContentLine) where
    -- `end` is one of the lines
    pub whole : (answer : Option Line) (next : Draft) (others : List ContentLine)
        → Reads (ReadsLine also spec) (fails_line also spec) draft lines (Ok answer) next others → next.ended ≡ true
        → reading_from also past_end spec draft lines ≡ Ok next
    unfolding reading_from
    whole answer next others read ended =
        laws.reading-means (drafts also spec) past_end draft lines (Ok next)
        (inr (record { next = next; taken = taken draft lines next (all_read draft lines answer next others read); out = rw ended refl }))

    -- it is none of them
    pub unended : (answer : Option Line) (next : Draft) (others : List ContentLine)
        → Reads (ReadsLine also spec) (fails_line also spec) draft lines (Ok answer) next others → next.ended ≡ false
        → reading_from also past_end spec draft lines ≡ broken_at S8 past_end
    unfolding reading_from
    unended answer next others read not_yet =
        laws.reading-means (drafts also spec) past_end draft lines (broken_at S8 past_end)
        (inr (record { next = next; taken = taken draft lines next (all_read draft lines answer next others read); out = rw not_yet refl }))

    broken : (fault : LineFault) (number : ℕ)
        → Stops (ReadsLine also spec) (fails_line also spec) draft lines (record { fault = fault; line = number })
        → Refuses (refusal_at fault number) (reading_from also past_end spec draft lines)
    unfolding reading_from
    broken faults.Memory number stops = tt
    broken (faults.Broken rule) number stops =
        laws.reading-means (drafts also spec) past_end draft lines (Err (record { rule = rule; line = number }))
        (inl (record {
          before = stops.before;
          line = stops.line;
          others = stops.others;
          reached = reached draft lines stops.before stops.line stops.others stops.comes;
          breaks = stops.stops;
          number = stops.number;
        }))

    -- a line is refused
    pub refused : (unread : Unread LineFault) → Stops (ReadsLine also spec) (fails_line also spec) draft lines unread
        → Refuses (refusal_at unread.fault unread.line) (reading_from also past_end spec draft lines)
    refused unread stops = broken unread.fault unread.line stops

  -- behind the header, what the lines give from its draft is what all lines give
  pub behind_header : (old new : TextPlace) (threads : ℕ) (draft : Draft) → draft ≡ draft_of threads
      → headed (past_end_of old.text) (content_from old) ≡ Ok (record { threads = threads; others = content_from new })
      → reading_all also (past_end_of old.text) spec (content_from old) ≡ reading_from also (past_end_of old.text) spec draft (content_from new)
  behind_header old new threads draft is header =
      ap (reading_behind also (past_end_of old.text) spec) header
      ∙ ap (λ (d : Draft). reading_from also (past_end_of old.text) spec d (content_from new)) (sym is)
