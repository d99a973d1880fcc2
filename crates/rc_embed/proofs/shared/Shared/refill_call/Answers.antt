use Rattle.std.proofs.Common.{ℕ, ◌<◌, List, length, sym, subst, ap, ◌∙◌, arith}
use Rattle.rc_embed.proofs.Imports.{Call, Spec, Fits, spec_of, HasKnownColumns, call_of, written_columns_at, Fits-call_over, IsOfWords}
use Rattle.rc_embed.proofs.shared.Shared.refill_call.Goals as goal

pub overflow_cast-number : goal.overflow_cast-number
overflow_cast-number c = let few = c.spec-spec.ensures.range.ops in let known = c.requires.known in omega arith

pub refill_call-requires-clause-columns : goal.refill_call-requires-clause-columns
refill_call-requires-clause-columns c = subst (λ (spec : Spec). HasKnownColumns spec) (sym c.spec-spec.ensures.value) c.spec-spec.ensures.known

pub refill_call-requires-clause-known : goal.refill_call-requires-clause-known
refill_call-requires-clause-known c = subst (λ (spec : Spec). c.args.op < length spec.ops) (sym c.spec-spec.ensures.value) c.requires.known

pub refill_call-requires-clause-cols : goal.refill_call-requires-clause-cols
refill_call-requires-clause-cols c = c.columns.ensures.value ∙ ap (λ (spec : Spec). written_columns_at spec c.args.op) (sym c.spec-spec.ensures.value)

pub refill_call-requires-clause-count : goal.refill_call-requires-clause-count
refill_call-requires-clause-count c = c.requires.count ∙ sym (ap (λ (cols : List ℕ). length cols) c.columns.ensures.value)

pub returns-clause-call : goal.returns-clause-call
returns-clause-call c =
    c.in_ok-refill_call.ensures.call ∙ ap (λ (spec : Spec). call_of spec c.args.op c.args.values.now) c.spec-spec.ensures.value

pub returns-clause-fits : goal.returns-clause-fits
returns-clause-fits c =
    let spec = spec_of c.args.self.now.row in
    let made = c.in_ok-refill_call.ensures.call ∙ ap (λ (s : Spec). call_of s c.args.op c.args.values.now) c.spec-spec.ensures.value in
    subst (λ (call : Call). Fits spec call) (sym made)
    (Fits-call_over spec c.args.op c.args.values.now c.requires.known c.spec-spec.ensures.known.distinct c.requires.count
    (subst (λ (call : Call). IsOfWords call) made c.in_ok-refill_call.ensures.words))
