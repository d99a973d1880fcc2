use Rattle.std.proofs.Common.{◌≡◌, ℕ, ◌-◌, List, Option, Some, ap, sym, ◌∙◌, subst}
use Rattle.rc_work.proofs.Imports.{slice_get-get_or, option_map, printed_lines, entry_at, part_entry, part_after}
use Rattle.std.specs.Result.{IfOk}
use Rattle.rc_work.proofs.report.Report.part.Goals as goal

pub returns : goal.returns
returns c =
    subst (λ (o : Option (List (List ℕ))). IfOk c.part_after.result (λ part. option_map (λ bytes. bytes.items) part ≡ option_map printed_lines o))
    (sym (part_after c.args.self.now.spec.now c.args.self.now.ranks.now c.args.self.now.entries.now c.args.self.now.rows.now c.args.number c.if-number-eq0.false c.if-place-self.false))
    c.part_after.ensures

pub returns-then-place-self : goal.returns-then-place-self
returns-then-place-self c =
    ap (λ (l : List ℕ). Some l) c.in_ok-entry_text.ensures
    ∙ ap (option_map printed_lines)
    (sym (part_entry c.args.self.now.spec.now c.args.self.now.ranks.now c.args.self.now.entries.now c.args.self.now.rows.now c.args.number c.if-number-eq0.false c.if-place-self.true
    ∙ entry_at c.args.self.now.spec.now c.args.self.now.ranks.now c.args.self.now.entries.now (c.args.number - 1) _
    (slice_get-get_or c.args.self.now.entries.now (c.args.number - 1) c.index-self-place.result c.if-place-self.true)))
