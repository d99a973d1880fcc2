use Rattle.std.proofs.Common.{◌≡◌, ◌<◌, ◌++◌, ◌∷◌, [], List, ℕ, drop, length, refl, take, subst, sym, ap, ◌∙◌, arith}
use Rattle.rc_bindings.proofs.Imports.{with_items_is, nat_cmp, In, IsRising, map_in, Pairs, cols_of, project, cols-project, BindingList, seen_list, with_tuples, AreBindings-push, count_within, tuples_in-push, written_behind, all_written, tuple_in, length-all_written, tuple_in-written}
use Rattle.rc_bindings.proofs.bindings.Bindings.push_projection.Goals as goal
use Rattle.rc_bindings.proofs.bindings.Bindings.push_projection.Goals.{After-write}

-- the pairs that are written, over the columns
abbrev pairs : After-write → Pairs
pairs c = project c.self.inside.cols c.args.tuple.now

columns : (c : After-write) → cols_of (pairs c) ≡ c.self.inside.cols
columns c =
    cols-project (cols_of c.args.tuple.now) c.self.inside.cols c.args.tuple.now c.pairs.ensures.tuple.rising c.self.invariant.columns.set.rising
    (λ k m. c.requires k (subst (λ (z : BindingList). In k z.columns) c.self.view_is m)) refl

-- the row that is written
abbrev row : After-write → List ℕ
row c = all_written (pairs c) c.in_ok-push_zeros.ensures.ok.more

wide : (c : After-write) → length (row c) ≡ c.self.inside.width
wide c = length-all_written (pairs c) c.in_ok-push_zeros.ensures.ok.more ∙ c.in_ok-push_zeros.ensures.ok.count

-- it lies behind what was there
behind : (c : After-write) → c.write.new.registers ≡ c.self.inside.registers.items ++ row c
behind c =
    let old = c.self.inside.registers.items in
    let more = c.in_ok-push_zeros.ensures.ok.more in
    let both : c.deref_mut.result.now ≡ old ++ more = c.deref_mut.ensures.value ∙ c.in_ok-push_zeros.ensures.ok.beside in
    let start : c.len-start.result ≡ length old = c.len-start.ensures ∙ c.self.inside.registers.ok.0 in
    c.write.ensures ∙ ap (λ l. take c.len-start.result l ++ all_written (project c.self.inside.cols c.pairs.result.now) (drop c.len-start.result l)) both
    ∙ ap (λ ps. take c.len-start.result (old ++ more) ++ all_written (project c.self.inside.cols ps) (drop c.len-start.result (old ++ more))) c.pairs.ensures.pairs
    ∙ written_behind (pairs c) old more c.len-start.result start

items : (c : After-write) → take c.push_zeros.new.registers.len (c.write.new.registers ++ drop (length c.write.new.registers) c.push_zeros.new.registers.items) ≡ c.self.inside.registers.items ++ row c
items c = with_items_is c.push_zeros.new.registers c.write.new.registers (c.write.auto.registers ∙ c.deref_mut.ensures.len) ∙ behind c

-- and is the projection
projected : (c : After-write) → tuple_in c.self.inside.cols (row c) ≡ pairs c
projected c =
    let below : (p : ℕ × ℕ) → In p (pairs c) → p.0 < length c.in_ok-push_zeros.ensures.ok.more = λ p m.
    subst (λ n. p.0 < n) (sym c.in_ok-push_zeros.ensures.ok.count) (c.self.invariant.columns.below p.0 (subst (In p.0) (columns c) (map_in (λ (q : ℕ × ℕ). q.0) p (pairs c) m))) in
    ap (λ xs. tuple_in xs (row c)) (sym (columns c)) ∙ tuple_in-written (pairs c) c.in_ok-push_zeros.ensures.ok.more (subst (IsRising nat_cmp) (sym (columns c)) c.self.invariant.columns.set.rising) below

pub overflow_add-self : goal.overflow_add-self
overflow_add-self c =
    let few = count_within c.self.inside.width c.self.inside.count c.self.inside.registers.items c.self.invariant.some c.self.invariant.rows in
    let len = c.self.inside.registers.ok.0 in
    let small = c.self.inside.registers.small in
    omega (arith, few, len, small)

pub invariant_of-self-2 : goal.invariant_of-self-2
invariant_of-self-2 c =
    let at = (goal.at.invariant_of-self-2 c).After-write in
    AreBindings-push c.self.inside.cols c.self.inside.width c.self.inside.count c.self.inside.registers.items (row at) _ c.self.invariant (wide at) (items at)

pub returns-clause-ok : goal.returns-clause-ok
returns-clause-ok c =
    let at = (goal.at.returns-clause-ok c).After-write in
    let tuples = tuples_in-push c.self.inside.cols c.self.inside.width c.self.inside.count c.self.inside.registers.items (row at) _ c.self.invariant (wide at) (items at) in
    let seen = seen_list c.self.inside.cols c.self.inside.width c.self.inside.count c.self.inside.registers.items in
    ap (with_tuples seen) (tuples ∙ ap (λ t. seen.tuples ++ t ∷ []) (projected at))
    ∙ ap (λ (z : BindingList). with_tuples z (z.tuples ++ project z.columns c.args.tuple.now ∷ [])) c.self.view_is
