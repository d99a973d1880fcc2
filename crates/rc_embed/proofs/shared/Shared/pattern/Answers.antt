use Rattle.std.proofs.Common.{ℕ, ◌≤◌, List, length, subst, sym, ap, ◌∙◌, arith}
use Rattle.rc_embed.proofs.Imports.{Op, Spec, spec_of, pattern_at}
use Rattle.rc_embed.proofs.DeclaringLemmas.{pattern_few}
use Rattle.rc_embed.proofs.shared.Shared.pattern.Goals as goal

pub overflow_cast-op : goal.overflow_cast-op
overflow_cast-op c = let few = c.spec.ensures.range.ops in let known = c.requires in omega arith

pub returns-clause-value : goal.returns-clause-value
returns-clause-value c =
    c.list.ensures ∙ ap (λ (op : Op). op.pattern) c.op.ensures.value
    ∙ ap (λ (s : Spec). pattern_at s c.args.op) c.spec.ensures.value

pub returns-clause-few : goal.returns-clause-few
returns-clause-few c =
    let spec = spec_of c.args.self.now.row in
    subst (λ (cols : List ℕ). length cols ≤ 32)
    (sym (c.list.ensures ∙ ap (λ (op : Op). op.pattern) c.op.ensures.value ∙ ap (λ (s : Spec). pattern_at s c.args.op) c.spec.ensures.value))
    (pattern_few spec c.spec.ensures.known c.args.op c.requires)
