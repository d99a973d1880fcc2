use Rattle.std.proofs.Common.{◌≡◌, length, ap, ◌∙◌, arith}
use Rattle.rc_embed.proofs.Imports.{Op, Spec, spec_of, List}
use Rattle.rc_embed.proofs.opening.OpenStore.operation.Goals as goal

pub overflow_cast-result : goal.overflow_cast-result
overflow_cast-result c =
    let few = c.spec.ensures.range.ops in
    let known = c.in-Some.ensures.within in
    let count : length c.list.result.now ≡ length (spec_of c.args.self.now.store.row).ops =
    ap (λ (ops : List Op). length ops) c.list.ensures ∙ ap (λ (spec : Spec). length spec.ops) c.spec.ensures.value in
    omega arith
