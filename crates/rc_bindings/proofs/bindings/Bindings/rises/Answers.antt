use Rattle.std.proofs.Common.{◌≡◌, ◌∷◌, ◌++◌, ◌↔◌, List, ap, inl, is_lt, refl, subst, sym, true, ◌∙◌}
use Rattle.rc_bindings.proofs.Imports.{false≢true, chunks_exact_rest, chunks_exact_size, Ordering, Less, Equal, Greater, IsRising, Pairs, tuple_cmp, tuple_order, BindingList, tuples_in, HasFirst, first_row, rising_behind, tuple_in}
use Rattle.rc_bindings.proofs.bindings.Bindings.rises.Goals as goal
use Rattle.rc_bindings.proofs.bindings.Bindings.rises.Goals.{In-Some-later}

same_rise : (xs ys : List Pairs) → xs ≡ ys → IsRising tuple_cmp xs ↔ IsRising tuple_cmp ys
same_rise xs ys e = (subst (IsRising tuple_cmp) e, subst (IsRising tuple_cmp) (sym e))

pub loop-later-init : goal.loop-later-init
loop-later-init c =
    let cols = c.self.inside.cols in
    let w = c.self.inside.width in
    let items = c.self.inside.registers.items in
    let iterator = c.into_iter-later-iterator.ensures.into_iter_gives in
    let step = c.in-Some.ensures.steps.1 in
    let wide = step.1 ∙ c.chunks_exact-rows.ensures.size in
    let first : HasFirst cols w c.self.inside.count items c.in-Some.earlier.now (chunks_exact_rest c.into_iter-later-iterator.result) =
    first_row cols w c.self.inside.count items c.in-Some.earlier.now (chunks_exact_rest c.into_iter-later-iterator.result) c.self.invariant.some c.self.invariant.rows
    (sym (c.chunks_exact-rows.ensures.rest ∙ c.deref.ensures.value) ∙ step.0 ∙ ap (λ l. c.in-Some.earlier.now ++ chunks_exact_rest l) (sym iterator)) wide in
    record {
      size = ap chunks_exact_size iterator ∙ c.in-Some.ensures.steps.0 ∙ c.chunks_exact-rows.ensures.size;
      wide = wide;
      left = first.left;
      rows = first.rows;
      rest = same_rise c.args.self.now.tuples _ (sym (ap (λ (z : BindingList). z.tuples) c.self.view_is) ∙ first.tuples);
    }

-- the next row is the first of the rest
next : (c : In-Some-later) → HasFirst c.self.inside.cols c.self.inside.width c.loop-later.invariant.left (chunks_exact_rest c.loop-later.later-iterator) c.in-Some-later.later.now (chunks_exact_rest c.next-in-loop-later.new.self)
next c =
    let step = c.in-Some-later.ensures.steps.1 in
    first_row c.self.inside.cols c.self.inside.width c.loop-later.invariant.left (chunks_exact_rest c.loop-later.later-iterator) c.in-Some-later.later.now (chunks_exact_rest c.next-in-loop-later.new.self)
    c.self.invariant.some c.loop-later.invariant.rows step.0 (step.1 ∙ c.loop-later.invariant.size)

pub returns-then-not-is_lt : goal.returns-then-not-is_lt
returns-then-not-is_lt c =
    let row = next (goal.at.returns-then-not-is_lt c).In-Some-later in
    let earlier = tuple_in c.self.inside.cols c.loop-later.earlier.now in (
      λ h. absurd (false≢true h),
      λ h.
          let all = subst (λ l. IsRising tuple_cmp (earlier ∷ l)) row.tuples (c.loop-later.invariant.rest.0 h) in
          sym c.if-not-is_lt.true ∙ c.is_lt.ensures ∙ ap is_lt (c.compare.ensures ∙ all.0 (tuple_in c.self.inside.cols c.in-Some-later.later.now) (inl refl)),
    )

less : (o : Ordering) → is_lt o ≡ true → o ≡ Less
less Less e = refl
less Equal e = absurd (false≢true e)
less Greater e = absurd (false≢true e)

pub loop-later-preserved : goal.loop-later-preserved
loop-later-preserved c =
    let row = next (goal.at.loop-later-preserved c).In-Some-later in
    let cols = c.self.inside.cols in
    let earlier : Pairs = tuple_in cols c.loop-later.earlier.now in
    let later : Pairs = tuple_in cols c.in-Some-later.later.now in
    let rest : List Pairs = tuples_in cols c.self.inside.width row.left (chunks_exact_rest c.next-in-loop-later.new.self) in
    let below : tuple_cmp earlier later ≡ Less = sym c.compare.ensures ∙ less c.compare.result (sym c.is_lt.ensures ∙ c.if-not-is_lt.false) in
    record {
      size = c.in-Some-later.ensures.steps.0 ∙ c.loop-later.invariant.size;
      wide = c.in-Some-later.ensures.steps.1.1 ∙ c.loop-later.invariant.size;
      left = row.left;
      rows = row.rows;
      rest = (
        λ h. (subst (λ l. IsRising tuple_cmp (earlier ∷ l)) row.tuples (c.loop-later.invariant.rest.0 h)).1,
        λ h. c.loop-later.invariant.rest.1 (subst (λ l. IsRising tuple_cmp (earlier ∷ l)) (sym row.tuples) (rising_behind tuple_cmp tuple_order earlier later rest below h)),
      );
    }
