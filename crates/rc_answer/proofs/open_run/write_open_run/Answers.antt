use Rattle.std.proofs.Common.{◌-◌, ◌∙◌, List, drop, length, subst, sym}
use Rattle.rc_answer.proofs.Imports.{Adds, AddsPrefix, adds_prefix_longer, adds_prefix_more, shapes_text, IsOpAmong, Spec, In, run_text}
use Rattle.rc_answer.proofs.OpenLemmas.{in_further, shapes_printed}
use Rattle.rc_answer.proofs.RanLemmas.{on_err_both}
use Rattle.rc_answer.proofs.WriteLemmas.{on_err}
use Rattle.rc_answer.proofs.open_run.write_open_run.Goals as goal

pub print_shapes-requires : goal.print_shapes-requires
print_shapes-requires g c = λ op m.
    let ops = c.list.ensures in
    subst (λ (s : Spec). IsOpAmong (length s.columns) op) (sym c.spec-spec.ensures.value)
    (c.spec-spec.ensures.sealed.in_range.known_ops op
    (subst (λ (s : Spec). In op s.ops) c.spec-spec.ensures.value
    (subst (In op) ops (in_further op c.list.result.now c.args.declared (length c.list.result.now - c.args.declared) m))))

pub returns-in_err-write_text-clause-prefix : goal.returns-in_err-write_text-clause-prefix
returns-in_err-write_text-clause-prefix g c =
    let made = c.args.ran.now.closed.compiled in
    let old = g.K.Sink.held c.args.sink.now in
    let new = g.K.Sink.held c.write_text.new.sink in
    let printed =
    shapes_printed made c.compiled-compiled.result.now c.spec-spec.result.now c.list.result.now c.args.declared c.deref.result.now c.compiled-compiled.ensures
    (c.spec-spec.ensures.value ∙ c.accepted.ensures.value) c.list.ensures (c.deref.ensures.value ∙ c.in_ok-shapes.ensures) in
    on_err _ c.from_residual-in_err-write_text.result
    (adds_prefix_longer old new (shapes_text made.spec (drop c.args.declared made.spec.ops)) (run_text c.args.work.now.ranks c.args.ran.now)
    (subst (λ (l : List _). AddsPrefix old l new) printed c.in_err-write_text.ensures.prefix))

pub returns-clause-prefix : goal.returns-clause-prefix
returns-clause-prefix g c =
    let made = c.args.ran.now.closed.compiled in
    let old = g.K.Sink.held c.args.sink.now in
    let mid = g.K.Sink.held c.write_text.new.sink in
    let new = g.K.Sink.held c.write_run.new.sink in
    let printed =
    shapes_printed made c.compiled-compiled.result.now c.spec-spec.result.now c.list.result.now c.args.declared c.deref.result.now c.compiled-compiled.ensures
    (c.spec-spec.ensures.value ∙ c.accepted.ensures.value) c.list.ensures (c.deref.ensures.value ∙ c.in_ok-shapes.ensures) in
    on_err_both c.write_run.result
    (λ part. adds_prefix_more old mid new (shapes_text made.spec (drop c.args.declared made.spec.ops)) (run_text c.args.work.now.ranks c.args.ran.now)
    (subst (λ (l : List _). Adds old l mid) printed c.in_ok-write_text.ensures.ok) part)
    c.write_run.ensures.prefix
