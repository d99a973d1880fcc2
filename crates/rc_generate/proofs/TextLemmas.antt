-- Text that is written line by line.
use Rattle.std.proofs.Common.{◌≡◌, ℕ, List, [], ◌∷◌, ◌++◌, codes, ap, ◌∙◌}
use Rattle.std.proofs.lemmas.List.{append-nil, append_assoc}
use Rattle.rc_text.specs.Lines.{printed_lines}
use Rattle.rc_work.specs.Report.{count_line}
use Rattle.rc_generate.specs.declared.summary.Summary.{Summary}
use Rattle.rc_generate.specs.SummaryText.{summary_text}

-- once a line is written, the others are left
line_written : (before after : List ℕ) (line : List ℕ) (lines : List (List ℕ)) → after ≡ before ++ printed_lines (line ∷ [])
    → after ++ printed_lines lines ≡ before ++ printed_lines (line ∷ lines)
line_written before after line lines e =
    ap (λ (l : List ℕ). l ++ printed_lines lines) e ∙ append_assoc before (printed_lines (line ∷ [])) (printed_lines lines)
    ∙ ap (λ (l : List ℕ). before ++ (l ++ printed_lines lines)) (append-nil (line ++ 10 ∷ []))

-- a text to which each line of a summary is appended in turn
pub summary_written : (s : Summary) (a b c d e f g h i j k l : List ℕ)
    → b ≡ a ++ printed_lines (count_line (codes "calls") s.calls ∷ [])
    → c ≡ b ++ printed_lines (count_line (codes "inserted") s.inserted ∷ [])
    → d ≡ c ++ printed_lines (count_line (codes "present") s.present ∷ [])
    → e ≡ d ++ printed_lines (count_line (codes "conflict") s.conflict ∷ [])
    → f ≡ e ++ printed_lines (count_line (codes "removed") s.removed ∷ [])
    → g ≡ f ++ printed_lines (count_line (codes "absent") s.absent ∷ [])
    → h ≡ g ++ printed_lines (count_line (codes "queries") s.queries ∷ [])
    → i ≡ h ++ printed_lines (count_line (codes "rows") s.rows ∷ [])
    → j ≡ i ++ printed_lines (count_line (codes "many") s.many ∷ [])
    → k ≡ j ++ printed_lines (count_line (codes "final") s.tuples ∷ [])
    → l ≡ k ++ printed_lines (codes "end" ∷ [])
    → l ≡ a ++ summary_text s
summary_written s a b c d e f g h i j k l e1 e2 e3 e4 e5 e6 e7 e8 e9 e10 e11 =
    e11
    ∙ line_written j k (count_line (codes "final") s.tuples) l10 e10
    ∙ line_written i j (count_line (codes "many") s.many) l9 e9
    ∙ line_written h i (count_line (codes "rows") s.rows) l8 e8
    ∙ line_written g h (count_line (codes "queries") s.queries) l7 e7
    ∙ line_written f g (count_line (codes "absent") s.absent) l6 e6
    ∙ line_written e f (count_line (codes "removed") s.removed) l5 e5
    ∙ line_written d e (count_line (codes "conflict") s.conflict) l4 e4
    ∙ line_written c d (count_line (codes "present") s.present) l3 e3
    ∙ line_written b c (count_line (codes "inserted") s.inserted) l2 e2
    ∙ line_written a b (count_line (codes "calls") s.calls) l1 e1
  where
    l10 : List (List ℕ)
    l10 = codes "end" ∷ []

    l9 : List (List ℕ)
    l9 = count_line (codes "final") s.tuples ∷ l10

    l8 : List (List ℕ)
    l8 = count_line (codes "many") s.many ∷ l9

    l7 : List (List ℕ)
    l7 = count_line (codes "rows") s.rows ∷ l8

    l6 : List (List ℕ)
    l6 = count_line (codes "queries") s.queries ∷ l7

    l5 : List (List ℕ)
    l5 = count_line (codes "absent") s.absent ∷ l6

    l4 : List (List ℕ)
    l4 = count_line (codes "removed") s.removed ∷ l5

    l3 : List (List ℕ)
    l3 = count_line (codes "conflict") s.conflict ∷ l4

    l2 : List (List ℕ)
    l2 = count_line (codes "present") s.present ∷ l3

    l1 : List (List ℕ)
    l1 = count_line (codes "inserted") s.inserted ∷ l2
