use Rattle.std.proofs.Common.{◌≡◌, ◌↔◌, true, List, ℕ, Some, sym, ap, subst}
use Rattle.rc_check.proofs.Imports.{Within, range_columns, Statement, KeepsK6, OutputsAreVisited, pattern_columns, ProgressSets}
use Rattle.rc_check.proofs.found.keeps_k6.Goals as goal

pub returns-in-Emit : goal.returns-in-Emit
returns-in-Emit c = λ p e.
    let spec = c.args.spec.now in
    let op = c.args.op.now in
    subst (λ (x : Statement). (c.has_found_answer.result ≡ true) ↔ KeepsK6 spec op p x) (sym c.in-Emit.is)
    (subst (λ (xs : List ℕ). (c.has_found_answer.result ≡ true) ↔ (Within (pattern_columns op) xs × OutputsAreVisited op.kind xs × Within (range_columns op.kind) xs)) (ap (λ (s : ProgressSets). s.visited) e) c.has_found_answer.ensures)

pub returns-in-CheckAbsent : goal.returns-in-CheckAbsent
returns-in-CheckAbsent c = λ p e.
    let spec = c.args.spec.now in
    let op = c.args.op.now in
    subst (λ (x : Statement). (c.has_found.result ≡ true) ↔ KeepsK6 spec op p x) (sym c.in-CheckAbsent.is)
    (subst (λ (xs : List ℕ). (c.has_found.result ≡ true) ↔ ((p.probe ≡ Some xs) × Within xs p.visited)) c.pattern_of.ensures (c.has_found.ensures p e))
