use Rattle.std.proofs.Common.{◌≡◌, [], filter, sym, ap, ◌∙◌}
use Rattle.rc_spec.specs.Ranges.{in_ranges}
use Rattle.rc_machine.proofs.EmitLemmas.{none_outside, nothing}
use Rattle.rc_machine.proofs.emit.keep_asked.Goals as goal

-- without bounds all bindings are between them
pub returns-else-not-is_empty : goal.returns-else-not-is_empty
returns-else-not-is_empty c =
    let none : c.args.ranges.now ≡ [] = nothing c.args.ranges.now c.is_empty.result c.is_empty.ensures c.if-not-is_empty.false in
    sym (ap (λ rs. filter (in_ranges rs) c.args.bindings.now.tuples) none ∙ none_outside c.args.bindings.now.tuples)
