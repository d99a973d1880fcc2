use Rattle.std.proofs.Common.{◌≡◌, ◌+◌, ◌++◌, ◌∷◌, [], ap, get_or, length, suc, sym, take, ◌∙◌, arith}
use Rattle.rc_bindings.proofs.Imports.{take-suc, take_all, BindingList, length-tuples_in}
use Rattle.rc_bindings.proofs.bindings.Bindings.tuples.Goals as goal
use Rattle.rc_bindings.proofs.bindings.Bindings.tuples.Goals.{After-self}

count : (c : After-self) → length c.args.self.now.tuples ≡ c.self.inside.count
count c =
    sym (ap (λ (z : BindingList). length z.tuples) c.self.view_is) ∙ length-tuples_in c.self.inside.cols c.self.inside.width c.self.inside.count c.self.inside.registers.items

pub get-requires : goal.get-requires
get-requires c = let n = count (goal.at.get-requires c).After-self in let l = c.loop-at-test.true in omega (arith, n, l)

pub loop-at-preserved : goal.loop-at-preserved
loop-at-preserved c =
    let ts = c.args.self.now.tuples in
    let n = count (goal.at.loop-at-preserved c).After-self in
    let l = c.loop-at-test.true in
    let more : suc c.loop-at.at ≡ c.loop-at.at + 1 = omega arith in
    c.in_ok-push.ensures.items ∙ ap (λ t. c.loop-at.tuples.items ++ t ∷ []) (c.in_ok-tuple.ensures ∙ c.get.ensures.tuple) ∙ ap (λ l. l ++ get_or ts c.loop-at.at [] ∷ []) c.loop-at.invariant
    ∙ sym (take-suc ts c.loop-at.at [] (omega (arith, n, l))) ∙ ap (λ k. take k ts) more

pub returns : goal.returns
returns c =
    let n = count (goal.at.returns c).After-self in
    let l = c.loop-at-test.false in
    c.loop-at.invariant ∙ take_all c.loop-at.at c.args.self.now.tuples (omega (arith, n, l))
