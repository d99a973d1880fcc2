-- The answers of the code that reads a text of shapes.
use Rattle.std.proofs.Common.{◌≡◌, ℕ, List, [], ◌∷◌, Option, Some, None, Ok, Err, refl, sym, ap, ◌∙◌, inl, inr}
use Rattle.rc_work.proofs.Imports.{false≢true, ContentLine, TextPlace, content_from, past_end_of, start_of, AreRead, Stops, Reads, Unread, Line, Op, Spec, Refuses, refusal_at, LineFault, Version, ReadsShapeLine, fails_shape_line, shapes_language, shapes_of}
use Rattle.rc_text.specs.Language as language
use Rattle.rc_text.specs.LanguageLaws as laws
use Rattle.rc_reader.specs.declared.refusal.LineFault.TheVariants as faults
use Rattle.rc_work.specs.ShapesGrammar.{shapes_from}

module _ (version : Version) (spec : Spec) where
  -- lines that are read break no rule
  taken : (shapes : List Op) (lines : List ContentLine) (next : List Op) → AreRead (ReadsShapeLine version spec) shapes lines next
      → language.AreTaken (shapes_language version spec) shapes lines next
  taken shapes [] next e = e
  taken shapes (line ∷ lines) next (between, is, read) = (between, is.gives, refl, taken between lines next read)

  -- none of them ends the reading
  all_read : (shapes : List Op) (lines : List ContentLine) (answer : Option Line) (next : List Op) (others : List ContentLine)
      → Reads (ReadsShapeLine version spec) (fails_shape_line version spec) shapes lines (Ok answer) next others
      → AreRead (ReadsShapeLine version spec) shapes lines next
  all_read shapes lines None next others read = read
  all_read shapes lines (Some last) next others read = absurd (false≢true (sym read.ends.goes_on))

  module _ (past_end : ℕ) (shapes : List Op) (lines : List ContentLine) where
    -- all lines are read
    pub whole : (answer : Option Line) (next : List Op) (others : List ContentLine)
        → Reads (ReadsShapeLine version spec) (fails_shape_line version spec) shapes lines (Ok answer) next others
        → shapes_from version spec past_end shapes lines ≡ Ok next
    unfolding shapes_from
    whole answer next others read =
        laws.reading-means (shapes_language version spec) past_end shapes lines (Ok next)
        (inr (record { next = next; taken = taken shapes lines next (all_read shapes lines answer next others read); out = refl }))

    broken : (fault : LineFault) (number : ℕ)
        → Stops (ReadsShapeLine version spec) (fails_shape_line version spec) shapes lines (record { fault = fault; line = number })
        → Refuses (refusal_at fault number) (shapes_from version spec past_end shapes lines)
    unfolding shapes_from
    broken faults.Memory number stops = tt
    broken (faults.Broken rule) number stops =
        laws.reading-means (shapes_language version spec) past_end shapes lines (Err (record { rule = rule; line = number }))
        (inl (record {
          before = stops.before;
          line = stops.line;
          others = stops.others;
          reached = record {
            front = stops.comes.front;
            whole = stops.comes.whole;
            taken = taken shapes stops.comes.front stops.before stops.comes.read;
          };
          breaks = stops.stops;
          number = stops.number;
        }))

    -- a line is refused
    pub refused : (unread : Unread LineFault) → Stops (ReadsShapeLine version spec) (fails_shape_line version spec) shapes lines unread
        → Refuses (refusal_at unread.fault unread.line) (shapes_from version spec past_end shapes lines)
    refused unread stops = broken unread.fault unread.line stops

  -- the lines of a text are read from none on
  pub from_start : (text : List ℕ) (shapes : List Op) (place : TextPlace) → shapes ≡ [] → place ≡ start_of text
      → shapes_of version spec text ≡ shapes_from version spec (past_end_of text) shapes (content_from place)
  from_start text shapes place none at =
      ap (λ (p : TextPlace). shapes_from version spec (past_end_of text) [] (content_from p)) (sym at)
      ∙ ap (λ (s : List Op). shapes_from version spec (past_end_of text) s (content_from place)) (sym none)
