-- A specification that can be written is what its text is read as, and what a text is read as can be written.
use Rattle.std.proofs.Common.{◌≡◌, ◌↔◌, ℕ, ◌<◌, true, false, eqb, ◌||◌, List, [], ◌∷◌, ◌++◌, length, map, get_or, drop, Some, Result, Ok, refl, sym, ap, ◌∙◌, subst, inl, inr, arith, codes}
use Rattle.std.proofs.lemmas.Bool.{eqb-true}
use Rattle.rc_text_laws.specs.Imports.{In, ContentLine, start_of, content_from, past_end_of, bytes_of_content, content-printed, Spec, IsInRange, HasColumnAndNode, IsWellNamed, empty, option_and_then, version_word, Version, One, Two, FormText, header_line, end_line, Reading, Broken, is_end, ended_by, after_bytes, reading_from, version_of, header_version, spec_reading, nothing_after, spec_read, read_keeps, read_keeps_version, read_populated, goes_on, ends, IsSpecLineTaken, in_range-keeps, in_range-empty, well_named-keeps, well_named-empty, KeepsTextLimits, KeepsVersion, limits-keeps, limits-empty, version-keeps, version-empty, second_version}
use Rattle.rc_reader.specs.Grammar.{reading_all, alone, spec_of}
use Rattle.rc_text_laws.specs.Written.{words_of_form, CanBeLine, written_line, item_forms, spec_lines, spec_text, CanBeWritten}
use Rattle.rc_text_laws.specs.WordsLaws.{line_is_read}
use Rattle.rc_text_laws.specs.LineLaws.{line_read, takes}
use Rattle.rc_text_laws.specs.SectionsLaws.{AreFormsTaken, items_taken}
use Rattle.rc_text_laws.specs.ItemLaws.{IsItemLine, items_written, header_plain, end_written, spec_lines_printable}

-- ---- from the lines to the specification

-- a line that is taken, read from its bytes
taken_line : (version : Version) (spec : Spec) (form : FormText) (next : Spec) (bytes : List ℕ)
    → bytes ≡ written_line version form → CanBeLine version form → IsSpecLineTaken version spec form next
    → after_bytes version spec bytes ≡ Ok (record { ended = is_end form; spec = next })
taken_line version spec form next bytes e can_be_line taken =
    ap (after_bytes version spec) e ∙ line_read version spec form can_be_line
    ∙ ap (ended_by form) (takes version spec form next taken)

is_some_count : (n : ℕ) → 0 < n → eqb n 0 ≡ false
is_some_count n more =
    elim (eqb n 0) as (λ v. eqb n 0 ≡ v → v ≡ false)
    [ true ↦ λ e. absurd (let none = eqb-true n 0 e in omega arith) | false ↦ λ _. refl ] refl

-- the line `end` is taken
end_taken : (version : Version) (spec : Spec) → HasColumnAndNode spec → IsSpecLineTaken version spec end_line spec
end_taken version spec populated = record {
  names = refl;
  known = refl;
  range = refl;
  limit = refl;
  order = ap (λ v. v || eqb (length spec.nodes) 0) (is_some_count (length spec.columns) populated.column)
      ∙ is_some_count (length spec.nodes) populated.node;
  value = refl;
}

first_of_lines : (x y : List ℕ) (xs ys : List (List ℕ)) → x ∷ xs ≡ y ∷ ys → x ≡ y
first_of_lines x y xs ys e = ap (λ lines. get_or lines 0 []) e

other_lines : (x y : List ℕ) (xs ys : List (List ℕ)) → x ∷ xs ≡ y ∷ ys → xs ≡ ys
other_lines x y xs ys e = ap (λ (lines : List (List ℕ)). drop 1 lines) e

no_lines : (lines : List ContentLine) → bytes_of_content lines ≡ [] → lines ≡ []
no_lines [] e = refl
no_lines (line ∷ lines) e = absurd (omega (arith, ap length e))

-- the specification is read, in a text of the version, and nothing stands behind it
pub record IsReadBack (version : Version) (spec : Spec) (gives : Result Reading Broken) : Type 0 where
  pub reading : Reading
  pub read : gives ≡ Ok reading
  pub version_is : reading.version ≡ version
  pub spec_is : reading.spec ≡ spec
  pub none_behind : reading.others ≡ []

read_to_end : (version : Version) (past_end : ℕ) (next : Spec) → HasColumnAndNode next
    → (forms : List FormText) (lines : List ContentLine) (spec : Spec)
    → bytes_of_content lines ≡ map (written_line version) (forms ++ end_line ∷ [])
    → ((form : FormText) → In form forms → IsItemLine version form)
    → AreFormsTaken version spec forms next → IsReadBack version next (reading_from version past_end spec lines)
read_to_end version past_end next populated [] [] spec e each taken = absurd (omega (arith, ap length e))
read_to_end version past_end next populated [] (line ∷ lines) spec e each taken =
    let last_bytes = written_line version end_line in
    let bytes = first_of_lines line.bytes last_bytes (bytes_of_content lines) [] e in
    let last = taken_line version spec end_line spec line.bytes bytes (end_written version)
    (end_taken version spec (subst HasColumnAndNode (sym taken) populated)) in
    record {
      reading = record { version = version; spec = spec; last = line; others = lines };
      read = ends version past_end spec spec (line ∷ lines) line lines true refl last refl;
      version_is = refl;
      spec_is = taken;
      none_behind = no_lines lines (other_lines line.bytes last_bytes (bytes_of_content lines) [] e);
    }
read_to_end version past_end next populated (form ∷ forms) [] spec e each taken = absurd (omega (arith, ap length e))
read_to_end version past_end next populated (form ∷ forms) (line ∷ lines) spec e each (between, step, taken) =
    let first_bytes = written_line version form in
    let others = map (written_line version) (forms ++ end_line ∷ []) in
    let bytes = first_of_lines line.bytes first_bytes (bytes_of_content lines) others e in
    let item = each form (inl refl) in
    let here = taken_line version spec form between line.bytes bytes item.can_be_line step in
    subst (IsReadBack version next)
    (sym (goes_on version past_end spec between (line ∷ lines) line lines (is_end form) refl here item.goes_on))
    (read_to_end version past_end next populated forms lines between
    (other_lines line.bytes first_bytes (bytes_of_content lines) others e)
    (λ f m. each f (inr m)) taken)

named_version : (version : Version) → version_of (codes "relc" ∷ version_word version ∷ []) ≡ Some version
named_version One = refl
named_version Two = refl

header_is_read : (version : Version) (bytes : List ℕ) → bytes ≡ written_line version header_line
    → header_version bytes ≡ Some version
header_is_read version bytes e =
    ap header_version e
    ∙ ap (option_and_then version_of) (line_is_read (words_of_form version header_line) (header_plain version))
    ∙ named_version version

read_all : (version : Version) (past_end : ℕ) (spec : Spec) → CanBeWritten spec → KeepsVersion version spec
    → (lines : List ContentLine) → bytes_of_content lines ≡ spec_lines version spec
    → IsReadBack version spec (reading_all past_end lines)
read_all version past_end spec can keeps [] e = absurd (omega (arith, ap length e))
read_all version past_end spec can keeps (line ∷ lines) e =
    let first_bytes = written_line version header_line in
    let others = map (written_line version) (item_forms spec ++ end_line ∷ []) in
    let first = header_is_read version line.bytes (first_of_lines line.bytes first_bytes (bytes_of_content lines) others e) in
    rw first (read_to_end version past_end spec can.populated (item_forms spec) lines empty
    (other_lines line.bytes first_bytes (bytes_of_content lines) others e)
    (items_written version spec can keeps) (items_taken version spec can keeps))

-- the text of a specification, in either version that it keeps, is read as it
read_back : (version : Version) (spec : Spec) → CanBeWritten spec → KeepsVersion version spec
    → IsReadBack version spec (spec_reading (spec_text version spec))
read_back version spec can keeps =
    read_all version (past_end_of (spec_text version spec)) spec can keeps
    (content_from (start_of (spec_text version spec)))
    (content-printed 0 1 (spec_lines version spec) (spec_lines_printable version spec can keeps))

-- its version is told
pub version_is_read : (version : Version) (spec : Spec) → CanBeWritten spec → KeepsVersion version spec
    → (reading : Reading) × (spec_reading (spec_text version spec) ≡ Ok reading) × (reading.version ≡ version)
version_is_read version spec can keeps =
    let back = read_back version spec can keeps in (back.reading, back.read, back.version_is)

-- and nothing stands behind it
pub spec_is_read : (version : Version) (spec : Spec) → CanBeWritten spec → KeepsVersion version spec
    → spec_of (spec_text version spec) ≡ Ok spec
spec_is_read version spec can keeps =
    let back = read_back version spec can keeps in
    ap alone back.read ∙ ap (nothing_after back.reading.spec) back.none_behind ∙ ap (λ (s : Spec). Ok s) back.spec_is

-- each is read in the second version
second_is_read : (spec : Spec) → CanBeWritten spec → spec_of (spec_text Two spec) ≡ Ok spec
second_is_read spec can = spec_is_read Two spec can (second_version spec can.limits)

-- ---- what is read

-- so a specification that is read can be written, whatever stands behind it
pub reading_can_be_written : (text : List ℕ) (reading : Reading) → spec_reading text ≡ Ok reading
    → CanBeWritten reading.spec
reading_can_be_written text reading e = record {
  in_range = read_keeps IsInRange in_range-keeps in_range-empty text reading e;
  well_named = read_keeps IsWellNamed well_named-keeps well_named-empty text reading e;
  populated = read_populated text reading e;
  limits = read_keeps KeepsTextLimits limits-keeps limits-empty text reading e;
}

-- and in a text of its own version
pub reading_keeps_version : (text : List ℕ) (reading : Reading) → spec_reading text ≡ Ok reading
    → KeepsVersion reading.version reading.spec
reading_keeps_version text reading e = read_keeps_version KeepsVersion version-keeps version-empty text reading e

pub what_is_read : (text : List ℕ) (spec : Spec) → spec_of text ≡ Ok spec → CanBeWritten spec
what_is_read text spec e =
    let read = spec_read text spec (spec_reading text) refl e in
    subst CanBeWritten read.2 (reading_can_be_written text read.0 read.1)

-- a text gives a specification exactly where it can be written
pub some_text_gives : (spec : Spec) → ((text : List ℕ) × (spec_of text ≡ Ok spec)) ↔ CanBeWritten spec
some_text_gives spec = (
  (λ read. what_is_read read.0 spec read.1),
  (λ can. (spec_text Two spec, second_is_read spec can)),
)

abbrev ok_reading : Reading → Result Reading Broken
ok_reading reading = Ok reading

same_reading : (x y : Reading) → ok_reading x ≡ ok_reading y → x ≡ y
same_reading x y e = cc

-- specifications with the same text are the same, and of one version
pub same_text : (version other_version : Version) (spec other : Spec) → CanBeWritten spec → CanBeWritten other
    → KeepsVersion version spec → KeepsVersion other_version other
    → spec_text version spec ≡ spec_text other_version other → (version ≡ other_version) × (spec ≡ other)
same_text version other_version spec other can could keeps kept e =
    let back = read_back version spec can keeps in
    let again = read_back other_version other could kept in
    let same = same_reading back.reading again.reading (sym back.read ∙ ap spec_reading e ∙ again.read) in (
      sym back.version_is ∙ ap (λ (r : Reading). r.version) same ∙ again.version_is,
      sym back.spec_is ∙ ap (λ (r : Reading). r.spec) same ∙ again.spec_is,
    )
