use Rattle.std.proofs.Common.{◌≡◌, ◌<◌, inl, inr, length, take, subst, sym, ap, ◌∙◌}
use Rattle.rc_bindings.proofs.Imports.{eqb-true, false≢true, chunks_exact_rest, inter, union, union_left, union_right, In, has_in, in_append, BindingList, IsRowWith, OneBinding, TakesRows, given, with_tuples, HasPushed, all_pushed, next_row, none_shared}
use Rattle.rc_bindings.proofs.bindings.Bindings.push_rows.Goals as goal

pub push_all-requires-clause-free : goal.push_all-requires-clause-free
push_all-requires-clause-free c n m k =
    let key = c.args.key in
    let extra = c.args.extra in
    let held = c.binding.inside.cols in
    let none : length (inter held (union key extra)) ≡ 0 =
    ap (λ xs. length (inter held xs)) (sym c.union.ensures.value) ∙ ap length (sym c.inter.ensures.value) ∙ eqb-true (length c.inter.result) 0 (sym c.is_empty.ensures ∙ c.if-is_empty.true) in
    let own : In n held = subst (λ (z : OneBinding). In n z.columns) (sym c.binding.view_is) m in
    let other : In n (union key extra) = elim (in_append n key extra k) [ inl h ↦ union_left key extra n h | inr h ↦ union_right key extra n h ] in
    false≢true (sym (none_shared held (union key extra) n none other) ∙ has_in held n own)

pub push_row-requires-clause-takes : goal.push_row-requires-clause-takes
push_row-requires-clause-takes c =
    let takes = c.requires.takes in
    subst (TakesRows c.args.binding.now c.args.key c.args.extra) (sym c.loop-row.invariant.same)
    (record { width = takes.width; old_within = takes.old_within; key_within = takes.key_within; extra_within = takes.extra_within; parts = takes.parts; apart = takes.apart })

pub loop-row-preserved : goal.loop-row-preserved
loop-row-preserved c = record {
  size = c.in-Some.ensures.steps.0 ∙ c.loop-row.invariant.size;
  same = c.in_ok-push_row.ensures.same ∙ ap (λ z. with_tuples z c.push_row.new.self.tuples) c.loop-row.invariant.same;
  pushed = λ rows are given_by.
      let b = c.args.binding.now.tuple in
      let key = c.args.key in
      let extra = c.args.extra in
      let values = c.in-Some.row.now in
      let step = c.in-Some.ensures.steps.1 in
      let kv = c.split_at.result.0.now in
      let xv = c.split_at.result.1.now in
      let before = subst (λ l. HasPushed b key extra l c.args.self.now c.loop-row.self rows) step.0 (c.loop-row.invariant.pushed rows are given_by) in
      let next = next_row b key extra c.args.keys c.args.extras c.requires.keys c.requires.extras c.args.self.now c.loop-row.self rows values (chunks_exact_rest c.next.new.self)
      (step.1 ∙ c.loop-row.invariant.size) c.requires.some before in
      let with : IsRowWith b (given key kv extra xv) next.row = subst (λ v. IsRowWith b (given key v extra xv) next.row) (sym c.split_at.ensures.front)
      (subst (λ v. IsRowWith b (given key (take c.args.keys values) extra v) next.row) (sym c.split_at.ensures.back) next.with) in
      next.pushed c.push_row.new.self (ap (λ (z : BindingList). z.tuples) (c.in_ok-push_row.ensures.ok next.row with));
}

pub returns-clause-ok : goal.returns-clause-ok
returns-clause-ok c rows are given_by =
    let rest = chunks_exact_rest c.loop-row.row-iterator in
    let short = subst (λ n. length rest < n) c.loop-row.invariant.size c.in-None.ensures.steps.1.0 in
    c.loop-row.invariant.same ∙ ap (with_tuples c.args.self.now)
    (all_pushed c.args.binding.now.tuple c.args.key c.args.extra c.args.keys c.args.extras c.requires.keys c.requires.extras c.args.self.now c.loop-row.self rows rest short (c.loop-row.invariant.pushed rows are given_by))
