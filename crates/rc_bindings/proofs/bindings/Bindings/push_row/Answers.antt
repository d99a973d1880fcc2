use Rattle.std.proofs.Common.{◌≡◌, ◌<◌, ◌++◌, ◌∷◌, ◌&&◌, [], List, ℕ, Bool, true, false, length, refl, subst, sym, ap, ◌∙◌, arith}
use Rattle.rc_bindings.proofs.Imports.{and_from, append-nil, zip, In, Pairs, merges_of, BindingList, IsRowWith, OneBinding, TakesRows, given, seen_list, with_tuples, AreBindings-push, count_within, merged_row, no_merge, tuples_in-push, all_written, fits_all, fits_all-append, length-all_written}
use Rattle.rc_bindings.proofs.bindings.Bindings.push_row.Goals as goal
use Rattle.rc_bindings.proofs.bindings.Bindings.push_row.Goals.{After-binding, After-push_merged}

-- the binding is as wide as the list
wide : (c : After-binding) → length c.binding.inside.registers.now ≡ c.self.inside.width
wide c = ap (λ (z : OneBinding). z.width) c.binding.view_is ∙ c.requires.takes.width ∙ sym (ap (λ (z : BindingList). z.width) c.self.view_is)

key_below : (c : After-binding) (n : ℕ) → In n c.args.key → n < c.self.inside.width
key_below c n m = c.self.invariant.columns.below n (subst (λ (z : BindingList). In n z.columns) (sym c.self.view_is) (c.requires.takes.key_within n m))

extra_below : (c : After-binding) (n : ℕ) → In n c.args.extra → n < c.self.inside.width
extra_below c n m = c.self.invariant.columns.below n (subst (λ (z : BindingList). In n z.columns) (sym c.self.view_is) (c.requires.takes.extra_within n m))

-- the pairs that are given
abbrev pairs : After-binding → Pairs
pairs c = given c.args.key c.args.key_values.now c.args.extra c.args.extra_values.now

pub fits_values-requires-clause-below : goal.fits_values-requires-clause-below
fits_values-requires-clause-below c n m = let at = (goal.at.fits_values-requires-clause-below c).After-binding in subst (λ w. n < w) (sym (wide at)) (key_below at n m)

pub fits_values-requires-2-clause-below : goal.fits_values-requires-2-clause-below
fits_values-requires-2-clause-below c n m = let at = (goal.at.fits_values-requires-2-clause-below c).After-binding in subst (λ w. n < w) (sym (wide at)) (extra_below at n m)

-- where they don't fit, nothing is merged
unmerged : (c : After-binding) → fits_all c.binding.inside.cols c.binding.inside.registers.now (pairs c) ≡ false → (row : Pairs) → IsRowWith c.args.binding.now.tuple (pairs c) row
    → c.args.self.now ≡ with_tuples c.args.self.now (c.args.self.now.tuples ++ merges_of c.args.binding.now.tuple (row ∷ []))
unmerged c out row is =
    let none : merges_of c.args.binding.now.tuple (row ∷ []) ≡ [] =
    subst (λ (z : OneBinding). merges_of z.tuple (row ∷ []) ≡ []) c.binding.view_is
    (no_merge c.binding.inside.cols c.binding.inside.registers.now c.binding.invariant.columns.set.rising (pairs c) row (subst (λ (z : OneBinding). IsRowWith z.tuple (pairs c) row) (sym c.binding.view_is) is) out) in
    ap (with_tuples c.args.self.now) (sym (ap (λ l. c.args.self.now.tuples ++ l) none ∙ append-nil c.args.self.now.tuples))

pub returns-then-not-fits_values-clause-ok : goal.returns-then-not-fits_values-clause-ok
returns-then-not-fits_values-clause-ok c row is =
    let at = (goal.at.returns-then-not-fits_values-clause-ok c).After-binding in
    let values = c.binding.inside.registers.now in
    let key = zip c.args.key c.args.key_values.now in
    let extra = zip c.args.extra c.args.extra_values.now in
    unmerged at (fits_all-append c.binding.inside.cols values key extra ∙ ap (λ b. b && fits_all c.binding.inside.cols values extra) (sym c.fits_values.ensures.value ∙ c.if-not-fits_values.true)) row is

both_false : (a b : Bool) → b ≡ false → (a && b) ≡ false
both_false true b e = e
both_false false b e = refl

pub returns-then-not-fits_values-2-clause-ok : goal.returns-then-not-fits_values-2-clause-ok
returns-then-not-fits_values-2-clause-ok c row is =
    let at = (goal.at.returns-then-not-fits_values-2-clause-ok c).After-binding in
    let values = c.binding.inside.registers.now in
    let key = zip c.args.key c.args.key_values.now in
    let extra = zip c.args.extra c.args.extra_values.now in
    unmerged at (fits_all-append c.binding.inside.cols values key extra
    ∙ both_false (fits_all c.binding.inside.cols values key) (fits_all c.binding.inside.cols values extra) (sym c.fits_values-2.ensures.value ∙ c.if-not-fits_values-2.true)) row is

-- ---- where they fit

pub push_merged-requires-clause-key_below : goal.push_merged-requires-clause-key_below
push_merged-requires-clause-key_below c n m = let at = (goal.at.push_merged-requires-clause-key_below c).After-binding in subst (λ w. n < w) (sym (wide at)) (key_below at n m)

pub push_merged-requires-clause-extra_below : goal.push_merged-requires-clause-extra_below
push_merged-requires-clause-extra_below c n m = let at = (goal.at.push_merged-requires-clause-extra_below c).After-binding in subst (λ w. n < w) (sym (wide at)) (extra_below at n m)

-- the row that is added
abbrev row_of : After-push_merged → List ℕ
row_of c = all_written (given c.args.key c.args.key_values.now c.args.extra c.args.extra_values.now) c.binding.inside.registers.now

-- it lies behind what was there
items : (c : After-push_merged) → c.push_merged.new.registers.items ≡ c.self.inside.registers.items ++ row_of c
items c = c.push_merged.ensures.items ∙ ap (λ l. l ++ row_of c) c.in_ok-reserve.ensures.items

row_wide : (c : After-push_merged) → length c.binding.inside.registers.now ≡ c.self.inside.width → length (row_of c) ≡ c.self.inside.width
row_wide c w = length-all_written (given c.args.key c.args.key_values.now c.args.extra c.args.extra_values.now) c.binding.inside.registers.now ∙ w

pub overflow_add-self : goal.overflow_add-self
overflow_add-self c =
    let few = count_within c.self.inside.width c.self.inside.count c.self.inside.registers.items c.self.invariant.some c.self.invariant.rows in
    let len = c.self.inside.registers.ok.0 in
    let small = c.self.inside.registers.small in
    omega (arith, few, len, small)

pub invariant_of-self-2 : goal.invariant_of-self-2
invariant_of-self-2 c =
    let at = goal.at.invariant_of-self-2 c in
    AreBindings-push c.self.inside.cols c.self.inside.width c.self.inside.count c.self.inside.registers.items (row_of at.After-push_merged) _ c.self.invariant (row_wide at.After-push_merged (wide at.After-binding)) (items at.After-push_merged)

pub returns-clause-ok : goal.returns-clause-ok
returns-clause-ok c row is =
    let at = goal.at.returns-clause-ok c in
    let cols = c.binding.inside.cols in
    let values = c.binding.inside.registers.now in
    let key = zip c.args.key c.args.key_values.now in
    let extra = zip c.args.extra c.args.extra_values.now in
    let ps = given c.args.key c.args.key_values.now c.args.extra c.args.extra_values.now in
    let seen : BindingList = seen_list c.self.inside.cols c.self.inside.width c.self.inside.count c.self.inside.registers.items in
    let takes = subst (λ (z : OneBinding). TakesRows z c.args.key c.args.extra seen) (sym c.binding.view_is) (subst (TakesRows c.args.binding.now c.args.key c.args.extra) (sym c.self.view_is) c.requires.takes) in
    let fit : fits_all cols values ps ≡ true = fits_all-append cols values key extra
    ∙ and_from (fits_all cols values key) (fits_all cols values extra) (sym c.fits_values.ensures.value ∙ c.if-not-fits_values.false) (sym c.fits_values-2.ensures.value ∙ c.if-not-fits_values-2.false) in
    let merged = merged_row cols values seen c.args.key c.args.key_values.now c.args.extra c.args.extra_values.now row c.binding.invariant.columns c.self.invariant.columns takes
    c.fits_values.ensures.set.rising c.fits_values-2.ensures.set.rising c.requires.keys c.requires.extras fit (subst (λ (z : OneBinding). IsRowWith z.tuple ps row) (sym c.binding.view_is) is) in
    let tuples = tuples_in-push seen.columns seen.width c.self.inside.count c.self.inside.registers.items (row_of at.After-push_merged) _ c.self.invariant (row_wide at.After-push_merged (wide at.After-binding)) (items at.After-push_merged) in
    ap (with_tuples seen) (tuples ∙ ap (λ l. seen.tuples ++ l) (sym merged ∙ ap (λ (z : OneBinding). merges_of z.tuple (row ∷ [])) c.binding.view_is))
    ∙ ap (λ (z : BindingList). with_tuples z (z.tuples ++ merges_of c.args.binding.now.tuple (row ∷ []))) c.self.view_is
