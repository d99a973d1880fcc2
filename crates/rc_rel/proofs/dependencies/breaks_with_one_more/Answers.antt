use Rattle.std.proofs.Common.{◌≡◌, Bool, true, false, ◌||◌, not, sym, ap, ◌∙◌, refl}
use Rattle.rc_rel.proofs.Imports.{each_in, Pairs, cols_of, breaks, breaks_with, breaks-put, test_from_satisfies}
use Rattle.rc_rel.proofs.dependencies.breaks_with_one_more.Goals as goal

or_true : (b : Bool) → (b || true) ≡ true
or_true true = refl
or_true false = refl

or_false : (b : Bool) → (b || false) ≡ b
or_false true = refl
or_false false = refl

pub breaks-requires : goal.breaks-requires
breaks-requires c = λ t u m n.
    sym (each_in (λ (x : Pairs). cols_of c.args.tuple.now ≡ cols_of x) c.args.tuples.now c.requires.over t m)
    ∙ each_in (λ (x : Pairs). cols_of c.args.tuple.now ≡ cols_of x) c.args.tuples.now c.requires.over u n

pub returns-then-breaks_with : goal.returns-then-breaks_with
returns-then-breaks_with c =
    let e : breaks_with c.args.dep.now c.args.tuple.now c.args.tuples.now ≡ true = sym c.breaks_with.ensures ∙ c.if-breaks_with.true in
    c.if-breaks_with.true ∙ sym (breaks-put c.args.tuple.now c.args.tuples.now c.args.dep.now ∙ ap (λ b. breaks c.args.tuples.now c.args.dep.now || b) e
    ∙ or_true (breaks c.args.tuples.now c.args.dep.now))

pub returns-then-not-is_satisfied : goal.returns-then-not-is_satisfied
returns-then-not-is_satisfied c =
    let e : breaks_with c.args.dep.now c.args.tuple.now c.args.tuples.now ≡ false = sym c.breaks_with.ensures ∙ c.if-breaks_with.false in
    c.breaks.ensures ∙ sym (breaks-put c.args.tuple.now c.args.tuples.now c.args.dep.now ∙ ap (λ b. breaks c.args.tuples.now c.args.dep.now || b) e
    ∙ or_false (breaks c.args.tuples.now c.args.dep.now))

pub returns-else-not-is_satisfied : goal.returns-else-not-is_satisfied
returns-else-not-is_satisfied c =
    let e : breaks_with c.args.dep.now c.args.tuple.now c.args.tuples.now ≡ false = sym c.breaks_with.ensures ∙ c.if-breaks_with.false in
    let f : breaks c.args.tuples.now c.args.dep.now ≡ false = test_from_satisfies c.args.tuples.now c.args.dep.now (c.requires.satisfied c.if-not-is_satisfied.false) in
    ap not c.if-not-is_satisfied.false ∙ sym (breaks-put c.args.tuple.now c.args.tuples.now c.args.dep.now ∙ ap (λ b. breaks c.args.tuples.now c.args.dep.now || b) e
    ∙ or_false (breaks c.args.tuples.now c.args.dep.now) ∙ f)
