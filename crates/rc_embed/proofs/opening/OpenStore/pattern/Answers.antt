use Rattle.std.proofs.Common.{◌≡◌, ℕ, List, length, Some, option_map, sym, ap, ◌∙◌, arith}
use Rattle.rc_embed.proofs.Imports.{slice_get-get_or, slice_get_past, Op, Spec, no_op, spec_of, StoreSeen, pattern_at}
use Rattle.rc_embed.proofs.opening.OpenStore.pattern.Goals as goal

pub returns-then-op-list : goal.returns-then-op-list
returns-then-op-list c =
    let spec = spec_of c.args.self.now.store.row in
    let count : length c.list.result.now ≡ length spec.ops =
    ap (λ (ops : List Op). length ops) c.list.ensures ∙ ap (λ (spec : Spec). length spec.ops) c.spec.ensures.value in
    sym (ap (option_map (λ (op : Op). op.pattern)) (slice_get_past spec.ops c.args.op (let past = c.if-op-list.true in omega arith)))

pub returns : goal.returns
returns c =
    let spec = spec_of c.args.self.now.store.row in
    let count : length c.list.result.now ≡ length spec.ops =
    ap (λ (ops : List Op). length ops) c.list.ensures ∙ ap (λ (spec : Spec). length spec.ops) c.spec.ensures.value in
    ap (λ (cols : List ℕ). Some cols) (c.pattern.ensures.value ∙ ap (λ (store : StoreSeen). pattern_at (spec_of store.row) c.args.op) c.shared.ensures)
    ∙ sym (ap (option_map (λ (op : Op). op.pattern)) (slice_get-get_or spec.ops c.args.op no_op (let known = c.if-op-list.false in omega arith)))
