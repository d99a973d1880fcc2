use Rattle.std.proofs.Common.{◌≡◌, ◌⊎◌, ℕ, List, inl, inr, sym, ap, subst, ◌∙◌}
use Rattle.rc_audit.proofs.Imports.{Run, Group, Pairs, Spec, final_lines, Form, lines_after, Keeps}
use Rattle.rc_audit.proofs.judge.Judge.tail.Goals as goal

-- a run, with groups or without
after_run : (form : Form) (spec : Spec) (ranks : List (List ℕ)) (r : List Pairs) → (form ≡ Run) ⊎ (form ≡ Group) → lines_after form spec ranks r ≡ final_lines spec ranks r
after_run form spec ranks r (inl is) = ap (λ f. lines_after f spec ranks r) is
after_run form spec ranks r (inr is) = ap (λ f. lines_after f spec ranks r) is

pub returns-in_ok-tuples-in-Run : goal.returns-in_ok-tuples-in-Run
returns-in_ok-tuples-in-Run c = λ r keeps.
    let spec = c.args.self.now.compiled.now.spec in
    let ranks = c.args.self.now.work.now.ranks in
    let kept = subst (λ s. Keeps s c.args.self.now.relation r) (sym c.accepted-accepted.ensures.value) keeps in
    ap (final_lines spec ranks) (c.in_ok-tuples-in-Run.ensures r kept) ∙ sym (after_run c.args.self.now.form spec ranks r c.in-Run.is)

pub returns-in-Journal : goal.returns-in-Journal
returns-in-Journal c = λ r keeps. ap (λ form. lines_after form c.args.self.now.compiled.now.spec c.args.self.now.work.now.ranks r) (sym c.in-Journal.is)
