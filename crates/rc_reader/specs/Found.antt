-- A line with its words looked up, as the code keeps it.
use Rattle.std.specs.Prelude.{Bool, false, ◌||◌, List, [], ◌∷◌, ℕ}
use Rattle.rc_reader.specs.Imports.{OpKind, Spec, op_names}
use Rattle.rc_reader.specs.declared.found.FoundLine.{FoundLine}
use Rattle.rc_reader.specs.declared.found.Addition.TheVariants as additions
use Rattle.rc_reader.specs.declared.refusal.LineRule.{LineRule}
use Rattle.rc_reader.specs.declared.refusal.LineRule.TheVariants.{S3, S4, S5, S6, S7}
use Rattle.rc_reader.specs.declared.sections.LineKind.{LineKind}
use Rattle.rc_reader.specs.declared.sections.LineKind.TheVariants as kinds
use Rattle.rc_reader.specs.Names.{is_refused_name}
use Rattle.rc_reader.specs.Forms.{FormText}
use Rattle.rc_reader.specs.declared.version.Version.{Version}
use Rattle.rc_reader.specs.Sections.{line_kind, line_count, is_full, is_misplaced}
use Rattle.rc_reader.specs.Rules.{repeats, lacks, breaks_names, breaks_known, breaks_range, operation_of, addition_of}

abbrev pub found_line : Spec → FormText → FoundLine
found_line spec form = record {
  kind = line_kind form;
  breaks_names = breaks_names spec form;
  breaks_known = breaks_known spec form;
  breaks_range = breaks_range form;
  addition = addition_of spec form;
}

-- an insert, a remove or an update
abbrev pub found_change : Spec → List ℕ → List (List ℕ) → OpKind → FoundLine
found_change spec name pattern kind = record {
  kind = kinds.Operation;
  breaks_names = is_refused_name (op_names spec.ops) name || repeats spec pattern;
  breaks_known = lacks spec pattern;
  breaks_range = false;
  addition = additions.Operation (operation_of spec name pattern kind);
}

-- the header or `end`
abbrev pub found_mark : LineKind → FoundLine
found_mark kind = record { kind = kind; breaks_names = false; breaks_known = false; breaks_range = false; addition = additions.Nothing }

-- the tests of a line that was looked up
abbrev pub tests_of : Version → Spec → FoundLine → List (LineRule × Bool)
tests_of version spec line =
    (S3, line.breaks_names)
    ∷ (S4, line.breaks_known)
    ∷ (S5, line.breaks_range)
    ∷ (S6, is_full version (line_count spec) line.kind)
    ∷ (S7, is_misplaced (line_count spec) line.kind)
    ∷ []
