use Rattle.std.proofs.Common.{◌≡◌, ◌*◌, ◌≤◌, ap, length, refl, subst, sym, take, ◌∙◌, arith}
use Rattle.rc_bindings.proofs.Imports.{mul-le-mul_right, AreRows, BindingList, seen_list, tuples_in, with_tuples, first_rows, first_tuples, length-rows, length-tuples_in}
use Rattle.rc_bindings.proofs.bindings.Bindings.truncate.Goals as goal
use Rattle.rc_bindings.proofs.bindings.Bindings.truncate.Goals.{After-self}

fewer : (c : After-self) → c.args.count ≤ c.self.inside.count
fewer c =
    let seen = ap (λ (z : BindingList). length z.tuples) c.self.view_is in
    let count = length-tuples_in c.self.inside.cols c.self.inside.width c.self.inside.count c.self.inside.registers.items in
    let l = c.requires in
    omega (arith, l, seen, count)

pub overflow_mul-count : goal.overflow_mul-count
overflow_mul-count c =
    let less = mul-le-mul_right c.self.inside.width (fewer (goal.at.overflow_mul-count c).After-self) in
    let whole = length-rows c.self.inside.width c.self.inside.count c.self.inside.registers.items c.self.invariant.rows in
    let len = c.self.inside.registers.ok.0 in
    let small = c.self.inside.registers.small in
    omega (arith, less, whole, len, small)

pub invariant_of-self : goal.invariant_of-self
invariant_of-self c =
    let w = c.self.inside.width in
    let items = c.self.inside.registers.items in
    record {
      columns = c.self.invariant.columns;
      some = c.self.invariant.some;
      few = c.self.invariant.few;
      rows = subst (AreRows w c.args.count) (sym c.truncate.ensures.items)
          (first_rows w c.self.inside.count c.args.count items (c.args.count * w) c.self.invariant.rows (fewer (goal.at.invariant_of-self c).After-self) refl);
    }

pub returns : goal.returns
returns c =
    let cols = c.self.inside.cols in
    let w = c.self.inside.width in
    let n = c.self.inside.count in
    let items = c.self.inside.registers.items in
    let seen = seen_list cols w n items in
    let tuples : tuples_in cols w c.args.count c.truncate.new.self.items ≡ take c.args.count seen.tuples =
    ap (tuples_in cols w c.args.count) c.truncate.ensures.items
    ∙ first_tuples cols w n c.args.count items (c.args.count * w) c.self.invariant.rows (fewer (goal.at.returns c).After-self) refl in
    ap (with_tuples seen) tuples ∙ ap (λ (z : BindingList). with_tuples z (take c.args.count z.tuples)) c.self.view_is
