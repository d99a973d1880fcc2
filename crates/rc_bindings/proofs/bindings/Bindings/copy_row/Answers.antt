use Rattle.std.proofs.Common.{◌≡◌, ◌+◌, ◌*◌, ◌-◌, ◌<◌, ◌≤◌, ◌++◌, List, ℕ, [], ap, drop, get_or, length, refl, set, sym, take, ◌∙◌, arith}
use Rattle.rc_bindings.proofs.Imports.{mul-le-mul_right, append_assoc, length-drop, length-take-le, BindingList, seen_list, tuples_in, with_tuples, length-tuples_in, row_set, row_within, rows_as_long, tuple_at}
use Rattle.rc_bindings.proofs.bindings.Bindings.copy_row.Goals as goal
use Rattle.rc_bindings.proofs.bindings.Bindings.copy_row.Goals.{After-copy_within, After-self}

below : (c : After-self) → c.args.from < c.self.inside.count
below c =
    let seen = ap (λ (z : BindingList). length z.tuples) c.self.view_is in
    let count = length-tuples_in c.self.inside.cols c.self.inside.width c.self.inside.count c.self.inside.registers.items in
    let l = c.requires.within in
    omega (arith, l, seen, count)

within : (c : After-self) → c.args.from * c.self.inside.width + c.self.inside.width ≤ length c.self.inside.registers.items
within c = row_within c.self.inside.width c.self.inside.count c.self.inside.registers.items c.args.from c.self.invariant.rows (below c)

before : (c : After-self) → c.args.to * c.self.inside.width ≤ c.args.from * c.self.inside.width
before c = mul-le-mul_right c.self.inside.width c.requires.order

pub overflow_mul-start : goal.overflow_mul-start
overflow_mul-start c =
    let w = within (goal.at.overflow_mul-start c).After-self in
    let len = c.self.inside.registers.ok.0 in
    let small = c.self.inside.registers.small in
    omega (arith, w, len, small)

pub overflow_add-start : goal.overflow_add-start
overflow_add-start c =
    let w = within (goal.at.overflow_add-start c).After-self in
    let len = c.self.inside.registers.ok.0 in
    let small = c.self.inside.registers.small in
    omega (arith, w, len, small)

pub overflow_mul-to : goal.overflow_mul-to
overflow_mul-to c =
    let w = within (goal.at.overflow_mul-to c).After-self in
    let b = before (goal.at.overflow_mul-to c).After-self in
    let len = c.self.inside.registers.ok.0 in
    let small = c.self.inside.registers.small in
    omega (arith, w, b, len, small)

pub copy_within-requires-clause-in_bounds : goal.copy_within-requires-clause-in_bounds
copy_within-requires-clause-in_bounds c =
    let w = within (goal.at.copy_within-requires-clause-in_bounds c).After-self in
    let len = c.self.inside.registers.ok.0 in
    omega (arith, w, len)

pub copy_within-requires-clause-dest_in_bounds : goal.copy_within-requires-clause-dest_in_bounds
copy_within-requires-clause-dest_in_bounds c =
    let w = within (goal.at.copy_within-requires-clause-dest_in_bounds c).After-self in
    let b = before (goal.at.copy_within-requires-clause-dest_in_bounds c).After-self in
    let len = c.self.inside.registers.ok.0 in
    omega (arith, w, b, len)

-- the row that is copied
abbrev row : After-copy_within → List ℕ
row c = take c.self.inside.width (drop (c.args.from * c.self.inside.width) c.self.inside.registers.items)

wide : (c : After-copy_within) → c.args.from * c.self.inside.width + c.self.inside.width ≤ length c.self.inside.registers.items → length (row c) ≡ c.self.inside.width
wide c w =
    let left = length-drop (c.args.from * c.self.inside.width) c.self.inside.registers.items in
    length-take-le c.self.inside.width (drop (c.args.from * c.self.inside.width) c.self.inside.registers.items) (omega (arith, left, w))

-- it lies over the other one
laid : (c : After-copy_within) → c.copy_within.new.self.items
    ≡ take (c.args.to * c.self.inside.width) c.self.inside.registers.items ++ (row c ++ drop (c.args.to * c.self.inside.width + c.self.inside.width) c.self.inside.registers.items)
laid c =
    let w = c.self.inside.width in
    let items = c.self.inside.registers.items in
    let place = c.args.to * w in
    let width : c.args.from * w + w - c.args.from * w ≡ w = omega arith in
    c.copy_within.ensures.items
    ∙ ap (λ n. take place items ++ take n (drop (c.args.from * w) items) ++ drop (place + n) items) width
    ∙ append_assoc (take place items) (row c) (drop (place + w) items)

pub invariant_of-self : goal.invariant_of-self
invariant_of-self c =
    let len = c.copy_within.ensures.len in
    let before = c.self.inside.registers.ok.0 in
    let after = c.copy_within.new.self.ok.0 in
    record {
      columns = c.self.invariant.columns;
      some = c.self.invariant.some;
      few = c.self.invariant.few;
      rows = rows_as_long c.self.inside.width c.self.inside.count c.self.inside.registers.items c.copy_within.new.self.items (omega (arith, len, before, after)) c.self.invariant.rows;
    }

pub returns : goal.returns
returns c =
    let at = goal.at.returns c in
    let cols = c.self.inside.cols in
    let w = c.self.inside.width in
    let n = c.self.inside.count in
    let items = c.self.inside.registers.items in
    let l = below at.After-self in
    let order = c.requires.order in
    let seen = seen_list cols w n items in
    let tuples : tuples_in cols w n c.copy_within.new.self.items ≡ set seen.tuples c.args.to (get_or seen.tuples c.args.from []) =
    ap (tuples_in cols w n) (laid at.After-copy_within)
    ∙ row_set cols w n items (row at.After-copy_within) c.args.to (c.args.to * w) (wide at.After-copy_within (within at.After-self)) c.self.invariant.rows (omega (arith, l, order)) refl
    ∙ ap (set seen.tuples c.args.to) (sym (tuple_at cols w n items c.args.from l)) in
    ap (with_tuples seen) tuples ∙ ap (λ (z : BindingList). with_tuples z (set z.tuples c.args.to (get_or z.tuples c.args.from []))) c.self.view_is
