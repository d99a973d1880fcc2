use Rattle.rc_embed.proofs.Imports.{zip, AreDistinct, In, gather, pair_cmp, Op, Spec, spec_of, declared_call, pattern_at}
use Rattle.std.proofs.Common.{◌≡◌, ◌<◌, ℕ, List, length, take, ap, ◌∙◌, sym, subst, arith}
use Rattle.rc_embed.proofs.DeclaringLemmas.{some_below, some_distinct, tuple_some}
use Rattle.rc_embed.proofs.shared.Shared.declare_call.Goals as goal

pub overflow_cast-number : goal.overflow_cast-number
overflow_cast-number c = let few = c.spec-spec.ensures.range.ops in let known = c.requires.known in omega arith

pub refill-requires-clause-below : goal.refill-requires-clause-below
refill-requires-clause-below c =
    let spec = spec_of c.args.self.now.row in
    let pattern : c.list-pattern.result.now ≡ pattern_at spec c.args.op =
    c.list-pattern.ensures ∙ ap (λ (op : Op). op.pattern) c.op.ensures.value
    ∙ ap (λ (s : Spec). pattern_at s c.args.op) c.spec-spec.ensures.value in
    subst (λ (cols : List ℕ). (col : ℕ) → In col (take (length c.args.values.now) cols) → col < 32) (sym pattern)
    (λ col m. some_below spec c.spec-spec.ensures.known c.args.op c.requires.known
    (length c.args.values.now) col m)

pub refill-requires-clause-distinct : goal.refill-requires-clause-distinct
refill-requires-clause-distinct c =
    let spec = spec_of c.args.self.now.row in
    let pattern : c.list-pattern.result.now ≡ pattern_at spec c.args.op =
    c.list-pattern.ensures ∙ ap (λ (op : Op). op.pattern) c.op.ensures.value
    ∙ ap (λ (s : Spec). pattern_at s c.args.op) c.spec-spec.ensures.value in
    subst (λ (cols : List ℕ). AreDistinct (take (length c.args.values.now) cols)) (sym pattern)
    (some_distinct spec c.spec-spec.ensures.known c.args.op c.requires.known
    (length c.args.values.now))

pub returns : goal.returns
returns c =
    let spec = spec_of c.args.self.now.row in
    let values = c.args.values.now in
    let pattern : c.list-pattern.result.now ≡ pattern_at spec c.args.op =
    c.list-pattern.ensures ∙ ap (λ (op : Op). op.pattern) c.op.ensures.value
    ∙ ap (λ (s : Spec). pattern_at s c.args.op) c.spec-spec.ensures.value in
    let args : c.refill.new.self ≡ (declared_call spec c.args.op values).args =
    c.in_ok-refill.ensures.ok
    ∙ ap (λ (cols : List ℕ). gather pair_cmp (zip (take (length values) cols) values)) pattern
    ∙ tuple_some spec c.args.op values in
    λ i. record { op = c.args.op; args = args i; ranges = c.clear.ensures i }
