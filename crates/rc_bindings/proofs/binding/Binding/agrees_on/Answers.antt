use Rattle.std.proofs.Common.{◌≡◌, ◌≤◌, Bool, true, false, not, inl, inr, subst, sym, ap, refl, ◌∙◌, arith}
use Rattle.rc_bindings.proofs.Imports.{eq-or-lt_of_le, false≢true, In, has_in, IsTuple, agree_on, get, project, same_from_test, test_from_same, OneBinding, IsTuple-tuple_in, get-same, option_same, not_different, project-same_values}
use Rattle.rc_bindings.proofs.binding.Binding.agrees_on.Goals as goal
use Rattle.rc_bindings.proofs.binding.Binding.agrees_on.Goals.{else-has-via-then-has+else-ne, else-has-via-else-has}

pub returns-then-ne : goal.returns-then-ne
returns-then-ne c = go (agree_on c.args.cols c.args.self.now.tuple c.args.other.now) refl
  where
    go : (b : Bool) → agree_on c.args.cols c.args.self.now.tuple c.args.other.now ≡ b → false ≡ b
    go false e = refl
    go true e =
        let same : get c.args.self.now.tuple c.loop-col.col ≡ get c.args.other.now c.loop-col.col =
        get-same c.args.cols c.args.self.now.tuple c.args.other.now c.loop-col.col (sym c.has.ensures.found ∙ c.if-has.true)
        (same_from_test (project c.args.cols c.args.self.now.tuple) (project c.args.cols c.args.other.now) e) in
        absurd (false≢true (ap not (sym (option_same _ _ (c.get.ensures ∙ same ∙ sym c.get-then-has.ensures))) ∙ sym c.ne.ensures ∙ c.if-ne.true))

pub loop-col-preserved : goal.loop-col-preserved
loop-col-preserved c k m l =
    elim (eq-or-lt_of_le (let k≤ : k ≤ c.loop-col.col = omega (arith, l) in k≤)) [
      | inl e ↦ subst (λ n. get c.args.self.now.tuple n ≡ get c.args.other.now n) (sym e) (here (subst (λ n. In n c.args.cols) e m))
      | inr less ↦ c.loop-col.invariant k m less
    ]
  where
    here : In c.loop-col.col c.args.cols → get c.args.self.now.tuple c.loop-col.col ≡ get c.args.other.now c.loop-col.col
    here m = elim c.else-has.branch [
      | else-has-via-then-has+else-ne w ↦ sym w.get.ensures ∙ not_different w.get.result w.get-then-has.result (sym w.ne.ensures ∙ w.if-ne.false) ∙ w.get-then-has.ensures
      | else-has-via-else-has w ↦ absurd (false≢true (sym w.if-has.false ∙ c.has.ensures.found ∙ has_in c.args.cols c.loop-col.col m))
    ]

pub returns : goal.returns
returns c =
    let seen = ap (λ (z : OneBinding). z.width) c.self.view_is in
    let l = c.loop-col-test.false in
    let tuple : IsTuple c.args.self.now.tuple =
    subst (λ (z : OneBinding). IsTuple z.tuple) c.self.view_is (IsTuple-tuple_in c.self.inside.cols c.self.inside.registers.now c.self.invariant.columns c.self.invariant.words) in
    sym (test_from_same (project c.args.cols c.args.self.now.tuple) (project c.args.cols c.args.other.now)
    (project-same_values c.args.cols c.args.self.now.tuple c.args.other.now tuple c.requires.tuple
    (λ k m. c.loop-col.invariant k m (let b = c.requires.columns.below k m in omega (arith, seen, l, b)))))
