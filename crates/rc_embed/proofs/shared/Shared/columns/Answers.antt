use Rattle.std.proofs.Common.{◌≡◌, ℕ, ◌<◌, ◌≤◌, List, length, slice_index_or, subst, sym, ap, ◌∙◌, arith}
use Rattle.rc_embed.proofs.Imports.{length-map-range_with_len, get_or-map-range_with_len, Spec, spec_of, StoreSeen, written_columns_at, written_columns_at-few, columns_of_all}
use Rattle.rc_embed.proofs.shared.Shared.columns.Goals as goal

pub index-requires : goal.index-requires
index-requires c =
    let spec = spec_of c.self.inside.store.row in
    let count : length c.self.inside.columns.items ≡ length spec.ops =
    ap (λ (cs : List (List ℕ)). length cs) c.self.invariant.columns ∙ length-map-range_with_len (written_columns_at spec) 0 (length spec.ops) in
    let same : length spec.ops ≡ length (spec_of c.args.self.now.row).ops = ap (λ (s : StoreSeen). length (spec_of s.row).ops) c.self.view_is in
    let known = c.requires in
    let long = c.self.inside.columns.ok in
    omega arith

-- the columns, in the order of their operation
found : (spec : Spec) (columns : List (List ℕ)) (op : ℕ) (cols : List ℕ) → columns ≡ columns_of_all spec → op < length spec.ops
    → cols ≡ slice_index_or columns op cols → cols ≡ written_columns_at spec op
found spec columns op cols all known is =
    is
    ∙ ap (λ (cs : List (List ℕ)). slice_index_or cs op cols) all
    ∙ get_or-map-range_with_len (written_columns_at spec) 0 (length spec.ops) op op cols known (omega arith)

pub returns-clause-value : goal.returns-clause-value
returns-clause-value c =
    let known = subst (λ (s : StoreSeen). c.args.op < length (spec_of s.row).ops) (sym c.self.view_is) c.requires in
    c.list.ensures
    ∙ found (spec_of c.self.inside.store.row) c.self.inside.columns.items c.args.op c.index.result.now c.self.invariant.columns known c.index.ensures
    ∙ ap (λ (s : StoreSeen). written_columns_at (spec_of s.row) c.args.op) c.self.view_is

pub returns-clause-few : goal.returns-clause-few
returns-clause-few c =
    let spec = spec_of c.self.inside.store.row in
    let known = subst (λ (s : StoreSeen). c.args.op < length (spec_of s.row).ops) (sym c.self.view_is) c.requires in
    subst (λ (cols : List ℕ). length cols ≤ 64)
    (sym (c.list.ensures ∙ found spec c.self.inside.columns.items c.args.op c.index.result.now c.self.invariant.columns known c.index.ensures))
    (written_columns_at-few spec c.args.op c.self.invariant.known)
