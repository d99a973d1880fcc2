use Rattle.std.proofs.Common.{◌≡◌, ◌+◌, ◌*◌, ◌-◌, ◌<◌, ◌≤◌, [], ap, drop, get_or, length, subst, sym, take, ◌∙◌, arith}
use Rattle.rc_bindings.proofs.Imports.{length-drop, length-take-le, IsSetBelow, BindingList, tuple_in, length-tuples_in, row_within, tuple_at}
use Rattle.rc_bindings.proofs.bindings.Bindings.get.Goals as goal
use Rattle.rc_bindings.proofs.bindings.Bindings.get.Goals.{After-self, After-part}

below : (c : After-self) → c.args.at < c.self.inside.count
below c =
    let seen = ap (λ (z : BindingList). length z.tuples) c.self.view_is in
    let count = length-tuples_in c.self.inside.cols c.self.inside.width c.self.inside.count c.self.inside.registers.items in
    let l = c.requires in
    omega (arith, l, seen, count)

within : (c : After-self) → c.args.at * c.self.inside.width + c.self.inside.width ≤ length c.self.inside.registers.items
within c = row_within c.self.inside.width c.self.inside.count c.self.inside.registers.items c.args.at c.self.invariant.rows (below c)

pub overflow_mul-start : goal.overflow_mul-start
overflow_mul-start c =
    let w = within (goal.at.overflow_mul-start c).After-self in
    let len = c.self.inside.registers.ok.0 in
    let small = c.self.inside.registers.small in
    omega (arith, w, len, small)

pub overflow_add-end : goal.overflow_add-end
overflow_add-end c =
    let w = within (goal.at.overflow_add-end c).After-self in
    let len = c.self.inside.registers.ok.0 in
    let small = c.self.inside.registers.small in
    omega (arith, w, len, small)

pub part-requires-clause-within : goal.part-requires-clause-within
part-requires-clause-within c =
    let w = within (goal.at.part-requires-clause-within c).After-self in
    let len = ap length c.deref.ensures.value in
    omega (arith, w, len)

-- the part is the row of the place
row : (c : After-part) → c.part.result.now ≡ take c.self.inside.width (drop (c.args.at * c.self.inside.width) c.self.inside.registers.items)
row c =
    let width : c.args.at * c.self.inside.width + c.self.inside.width - c.args.at * c.self.inside.width ≡ c.self.inside.width = omega arith in
    c.part.ensures.value ∙ ap (λ n. take n (drop (c.args.at * c.self.inside.width) c.deref.result.now)) width ∙ ap (λ l. take c.self.inside.width (drop (c.args.at * c.self.inside.width) l)) c.deref.ensures.value

-- and as wide
wide : (c : After-part) → c.args.at * c.self.inside.width + c.self.inside.width ≤ length c.self.inside.registers.items → length c.part.result.now ≡ c.self.inside.width
wide c w =
    let left = length-drop (c.args.at * c.self.inside.width) c.self.inside.registers.items in
    ap length (row c) ∙ length-take-le c.self.inside.width (drop (c.args.at * c.self.inside.width) c.self.inside.registers.items) (omega (arith, left, w))

pub invariant_of-result : goal.invariant_of-result
invariant_of-result c =
    let width = wide c (within (goal.at.invariant_of-result c).After-self) in
    record {
      columns = subst (λ n. IsSetBelow n c.self.inside.cols) (sym width) c.self.invariant.columns;
      few = subst (λ n. n ≤ 32) (sym width) c.self.invariant.few;
      words = c.part.ensures.words;
    }

pub returns-clause-tuple : goal.returns-clause-tuple
returns-clause-tuple c =
    ap (tuple_in c.self.inside.cols) (row c)
    ∙ sym (tuple_at c.self.inside.cols c.self.inside.width c.self.inside.count c.self.inside.registers.items c.args.at (below (goal.at.returns-clause-tuple c).After-self))
    ∙ ap (λ (z : BindingList). get_or z.tuples c.args.at []) c.self.view_is

pub returns-clause-columns : goal.returns-clause-columns
returns-clause-columns c = ap (λ (z : BindingList). z.columns) c.self.view_is

pub returns-clause-width : goal.returns-clause-width
returns-clause-width c = wide c (within (goal.at.returns-clause-width c).After-self) ∙ ap (λ (z : BindingList). z.width) c.self.view_is
