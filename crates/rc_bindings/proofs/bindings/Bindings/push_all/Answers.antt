use Rattle.std.proofs.Common.{◌≡◌, ◌<◌, ◌+◌, ◌*◌, ◌/◌, ◌++◌, ◌∷◌, [], List, ℕ, length, suc, take, true, subst, sym, ap, ◌∙◌, arith}
use Rattle.rc_bindings.proofs.Imports.{add-div_left, suc-mul, length-append, chunks_exact_rest, In, Pairs, merges_of, IsSetBelow, BindingList, IsRowWith, OneBinding, TakesRows, given, seen_list, AreBindings-push, HasPushed, all_pushed, cols_of-given, count_within, merged_row, next_row, tuples_in-push, all_written, fits_all, tuple_in, fits_apart, has_not, length-all_written}
use Rattle.rc_bindings.proofs.bindings.Bindings.push_all.Goals as goal
use Rattle.rc_bindings.proofs.bindings.Bindings.push_all.Goals.{After-split_at}

-- the binding is as wide as the list
wide : (c : After-split_at) → length c.binding.inside.registers.now ≡ c.loop-row.self-inside.width
wide c = ap (λ (z : OneBinding). z.width) c.binding.view_is ∙ c.requires.takes.width ∙ sym c.loop-row.invariant.width

below : (c : After-split_at) (n : ℕ) → In n c.args.self.now.columns → n < length c.binding.inside.registers.now
below c n m = subst (λ w. n < w) (sym (wide c)) (c.loop-row.invariant.bindings.columns.below n (subst (In n) (sym c.loop-row.invariant.columns) m))

pub push_merged-requires-clause-key_below : goal.push_merged-requires-clause-key_below
push_merged-requires-clause-key_below c n m = below (goal.at.push_merged-requires-clause-key_below c).After-split_at n (c.requires.takes.key_within n m)

pub push_merged-requires-clause-extra_below : goal.push_merged-requires-clause-extra_below
push_merged-requires-clause-extra_below c n m = below (goal.at.push_merged-requires-clause-extra_below c).After-split_at n (c.requires.takes.extra_within n m)

pub overflow_add-self : goal.overflow_add-self
overflow_add-self c =
    let now = c.loop-row.self-inside in
    let few = count_within now.width now.count now.registers.items c.loop-row.invariant.bindings.some c.loop-row.invariant.bindings.rows in
    let len = now.registers.ok.0 in
    let small = now.registers.small in
    omega (arith, few, len, small)

-- the pairs that are given, and the row that is added
abbrev pairs : After-split_at → Pairs
pairs c = given c.args.key c.split_at.result.0.now c.args.extra c.split_at.result.1.now

abbrev row_of : After-split_at → List ℕ
row_of c = all_written (pairs c) c.binding.inside.registers.now

key_count : (c : After-split_at) → length c.split_at.result.0.now ≡ length c.args.key
key_count c = c.split_at.ensures.front_len ∙ c.requires.keys

extra_count : (c : After-split_at) → length c.split_at.result.1.now ≡ length c.args.extra
extra_count c =
    let back = c.split_at.ensures.back_len in
    let all = c.in-Some.ensures.steps.1.1 ∙ c.loop-row.invariant.size in
    let count = c.requires.extras in
    omega (arith, back, all, count)

-- no column of the row is held, so that it agrees
fit : (c : After-split_at) → fits_all c.binding.inside.cols c.binding.inside.registers.now (pairs c) ≡ true
fit c =
    let held = c.binding.inside.cols in
    let columns = cols_of-given c.args.key c.split_at.result.0.now c.args.extra c.split_at.result.1.now (key_count c) (extra_count c) in
    fits_apart held c.binding.inside.registers.now (pairs c)
    (λ n m. has_not held n (λ h. c.requires.free n (subst (λ (z : OneBinding). In n z.columns) c.binding.view_is h) (subst (In n) columns m)))

merged : (c : After-split_at) (row : Pairs) → IsRowWith c.args.binding.now.tuple (pairs c) row → merges_of c.args.binding.now.tuple (row ∷ []) ≡ tuple_in c.loop-row.self-inside.cols (row_of c) ∷ []
merged c row is =
    let list = c.args.self.now in
    let own : IsSetBelow list.width list.columns = subst (λ w. IsSetBelow w list.columns) c.loop-row.invariant.width (subst (IsSetBelow c.loop-row.self-inside.width) c.loop-row.invariant.columns c.loop-row.invariant.bindings.columns) in
    let takes = subst (λ (z : OneBinding). TakesRows z c.args.key c.args.extra list) (sym c.binding.view_is) c.requires.takes in
    let with = subst (λ (z : OneBinding). IsRowWith z.tuple (pairs c) row) (sym c.binding.view_is) is in
    ap (λ (z : OneBinding). merges_of z.tuple (row ∷ [])) (sym c.binding.view_is)
    ∙ merged_row c.binding.inside.cols c.binding.inside.registers.now list c.args.key c.split_at.result.0.now c.args.extra c.split_at.result.1.now row
    c.binding.invariant.columns own takes c.within.ensures.set.rising c.within-2.ensures.set.rising (key_count c) (extra_count c) (fit c) with
    ∙ ap (λ xs. tuple_in xs (row_of c) ∷ []) (sym c.loop-row.invariant.columns)

pub loop-row-preserved : goal.loop-row-preserved
loop-row-preserved c =
    let at = (goal.at.loop-row-preserved c).After-split_at in
    let now = c.loop-row.self-inside in
    let row_wide : length (row_of at) ≡ now.width = length-all_written (pairs at) c.binding.inside.registers.now ∙ wide at in
    let step = c.in-Some.ensures.steps.1 in
    let size = c.args.keys + c.args.extras in
    let rest = chunks_exact_rest c.next.new.self in
    let long : length c.in-Some.row.now ≡ size = step.1 ∙ c.loop-row.invariant.size in
    record {
      size = c.in-Some.ensures.steps.0 ∙ c.loop-row.invariant.size;
      columns = c.loop-row.invariant.columns;
      width = c.loop-row.invariant.width;
      bindings = AreBindings-push now.cols now.width now.count now.registers.items (row_of at) _ c.loop-row.invariant.bindings row_wide c.push_merged.ensures.items;
      room =
          let both : length (chunks_exact_rest c.loop-row.row-iterator) ≡ size + length rest = ap length step.0 ∙ length-append c.in-Some.row.now rest ∙ ap (λ n. n + length rest) long in
          let one : length (chunks_exact_rest c.loop-row.row-iterator) / size ≡ length rest / size + 1 = ap (λ n. n / size) both ∙ add-div_left (length rest) c.requires.some in
          let more : length (chunks_exact_rest c.loop-row.row-iterator) / size * now.width ≡ length rest / size * now.width + now.width =
          ap (λ n. n * now.width) (one ∙ (let e : length rest / size + 1 ≡ suc (length rest / size) = omega arith in e)) ∙ suc-mul (length rest / size) now.width in
          let items = ap length c.push_merged.ensures.items ∙ length-append now.registers.items (row_of at) in
          let len = c.push_merged.new.registers.ok.0 in
          let old_len = now.registers.ok.0 in
          let room = c.loop-row.invariant.room in
          let cap = c.push_merged.ensures.capacity in
          omega (arith, more, items, len, old_len, room, cap, row_wide);
      pushed = λ rows are given_by.
          let b = c.args.binding.now.tuple in
          let key = c.args.key in
          let extra = c.args.extra in
          let values = c.in-Some.row.now in
          let xv = c.split_at.result.1.now in
          let seen : BindingList = seen_list now.cols now.width now.count now.registers.items in
          let before = subst (λ l. HasPushed b key extra l c.args.self.now seen rows) step.0 (c.loop-row.invariant.pushed rows are given_by) in
          let next = next_row b key extra c.args.keys c.args.extras c.requires.keys c.requires.extras c.args.self.now seen rows values rest long c.requires.some before in
          let with : IsRowWith b (pairs at) next.row = subst (λ v. IsRowWith b (given key v extra xv) next.row) (sym c.split_at.ensures.front)
          (subst (λ v. IsRowWith b (given key (take c.args.keys values) extra v) next.row) (sym c.split_at.ensures.back) next.with) in
          next.pushed (seen_list now.cols now.width (now.count + 1) c.push_merged.new.registers.items)
          (tuples_in-push now.cols now.width now.count now.registers.items (row_of at) _ c.loop-row.invariant.bindings row_wide c.push_merged.ensures.items ∙ ap (λ l. seen.tuples ++ l) (sym (merged at next.row with)));
    }

pub returns-clause-ok : goal.returns-clause-ok
returns-clause-ok c rows are given_by =
    let now = c.loop-row.self-inside in
    let rest = chunks_exact_rest c.loop-row.row-iterator in
    let short = subst (λ n. length rest < n) c.loop-row.invariant.size c.in-None.ensures.steps.1.0 in
    let all = all_pushed c.args.binding.now.tuple c.args.key c.args.extra c.args.keys c.args.extras c.requires.keys c.requires.extras c.args.self.now
    (seen_list now.cols now.width now.count now.registers.items) rows rest short (c.loop-row.invariant.pushed rows are given_by) in
    λ i. record { columns = c.loop-row.invariant.columns i; width = c.loop-row.invariant.width i; tuples = all i }
