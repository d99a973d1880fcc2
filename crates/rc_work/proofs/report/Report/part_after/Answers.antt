use Rattle.std.proofs.Common.{ℕ, List, [], ◌∷◌, Some, sym, ap, ◌∙◌}
use Rattle.rc_work.proofs.Imports.{option_map, printed_lines, final_part}
use Rattle.rc_work.proofs.report.Report.part_after.Goals as goal

pub returns-in_ok-with_feed-in-Some : goal.returns-in_ok-with_feed-in-Some
returns-in_ok-with_feed-in-Some c =
    ap (λ (l : List ℕ). Some l) c.in_ok-with_feed-in-Some.ensures
    ∙ sym (ap (option_map printed_lines)
    (final_part c.args.self.now.spec.now c.args.self.now.ranks.now c.args.self.now.rows.now c.args.number
    ∙ ap (option_map (λ (line : List ℕ). line ∷ [])) (sym c.in_ok-line.ensures ∙ ap (option_map (λ bytes. bytes.items)) c.in-Some.is)))

pub returns-in-None : goal.returns-in-None
returns-in-None c =
    sym (ap (option_map printed_lines)
    (final_part c.args.self.now.spec.now c.args.self.now.ranks.now c.args.self.now.rows.now c.args.number
    ∙ ap (option_map (λ (line : List ℕ). line ∷ [])) (sym c.in_ok-line.ensures ∙ ap (option_map (λ bytes. bytes.items)) c.in-None.is)))
