use Rattle.std.proofs.Common.{◌≡◌, ◌<◌, ◌^◌, ◌++◌, ℕ, List, sym, ◌∙◌, ap, subst, arith}
use Rattle.rc_tuple.proofs.Imports.{zip, has, In, in_from_places, map_in, IsTuple, project, IsTuple-filter, IsTuple-merge, IsTuple-zip, cols_of-zip, in_project, rising_pairs}
use Rattle.rc_tuple.proofs.tuple.Tuple.refill_with.Goals.{After-push_projected}
use Rattle.rc_tuple.proofs.tuple.Tuple.refill_with.Goals as goal

-- the pairs of the other at the columns that are kept
projected_is : (c : After-push_projected) → c.push_projected.new.pairs.items ≡ project c.args.kept c.deref.result.now
projected_is c = c.push_projected.ensures.items ∙ ap (λ l. l ++ project c.args.kept c.deref.result.now) (c.in_ok-reserve.ensures.items ∙ c.clear.ensures.items)

projected : (c : After-push_projected) → IsTuple c.push_projected.new.pairs.items
projected c =
    subst IsTuple (sym (projected_is c))
    (IsTuple-filter (λ (p : ℕ × ℕ). has c.args.kept p.0) c.deref.result.now (subst IsTuple (sym c.deref.ensures.value) c.other.invariant))

pub put_columns-requires-clause-rising : goal.put_columns-requires-clause-rising
put_columns-requires-clause-rising c =
    rising_pairs c.push_projected.new.pairs.items (projected (goal.at.put_columns-requires-clause-rising c).After-push_projected)

pub invariant_of-self-2 : goal.invariant_of-self-2
invariant_of-self-2 c =
    let at = (goal.at.invariant_of-self-2 c).After-push_projected in
    let cols : List ℕ = c.args.cols in
    let vals : List ℕ = c.args.vals.now in
    subst IsTuple (sym c.put_columns.ensures.items)
    (IsTuple-merge c.push_projected.new.pairs.items (zip cols vals) (projected at)
    (IsTuple-zip cols vals c.requires.fits c.put_columns.ensures.set (in_from_places (λ v. v < 2 ^ 64) 0 vals (λ i h. let f = c.type_inv.vals i in omega arith)))
    (λ p q m n e. absurd (c.requires.apart p.0
    (in_project c.args.kept p c.deref.result.now (subst (In p) (projected_is at) m)).1
    (subst (λ k. In k cols) (sym e) (subst (In q.0) (cols_of-zip cols vals c.requires.fits) (map_in (λ (w : ℕ × ℕ). w.0) q (zip cols vals) n))))))
