use Rattle.std.proofs.Common.{◌≡◌, ℕ, List, length, Some, sym, ap, ◌∙◌, arith}
use Rattle.rc_embed.proofs.Imports.{Op, Spec, spec_of, StoreSeen, written_columns_at}
use Rattle.rc_embed.proofs.AskedLemmas.{columns_past, columns_there}
use Rattle.rc_embed.proofs.opening.OpenStore.columns.Goals as goal

pub returns-then-op-list : goal.returns-then-op-list
returns-then-op-list c =
    let count : length c.list.result.now ≡ length (spec_of c.args.self.now.store.row).ops =
    ap (λ (ops : List Op). length ops) c.list.ensures ∙ ap (λ (spec : Spec). length spec.ops) c.spec.ensures.value in
    sym (columns_past (spec_of c.args.self.now.store.row) c.args.op (let past = c.if-op-list.true in omega arith))

pub returns : goal.returns
returns c =
    let spec = spec_of c.args.self.now.store.row in
    let count : length c.list.result.now ≡ length spec.ops =
    ap (λ (ops : List Op). length ops) c.list.ensures ∙ ap (λ (spec : Spec). length spec.ops) c.spec.ensures.value in
    ap (λ (cols : List ℕ). Some cols) (c.columns.ensures.value ∙ ap (λ (store : StoreSeen). written_columns_at (spec_of store.row) c.args.op) c.shared.ensures)
    ∙ sym (columns_there spec c.args.op (let known = c.if-op-list.false in omega arith))
