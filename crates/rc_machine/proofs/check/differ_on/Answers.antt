use Rattle.std.proofs.Common.{◌≡◌, ◌<◌, ◌&&◌, ◌||◌, ◌∷◌, [], Bool, false, get_or, length, not, sym, subst, ap, take, ◌∙◌, arith}
use Rattle.rc_machine.proofs.Imports.{list_any, take_more, list_any-append, list_any_at, Pairs, agree_on, AreBelow, stays_beside, is_beside}
use Rattle.rc_machine.proofs.CheckLemmas.{told_beside}
use Rattle.rc_machine.proofs.check.differ_on.Goals as goal
use Rattle.rc_machine.proofs.check.differ_on.Goals.{After-conflicts}

-- the test of a binding
abbrev tests : After-conflicts → Pairs → Bool
tests c b = stays_beside c.args.op.now.kind c.args.op.now.pattern c.args.args.now b && not (agree_on c.args.cols b c.args.args.now)

-- is what was asked of it
asked : (c : After-conflicts) → tests c (get_or c.args.bindings.now.tuples c.loop-at.at []) ≡ c.conflicts.result
asked c =
    let t = c.args.args.now in
    let b = c.get.result.tuple in
    let side : is_beside c.told_by-telling.result t b ≡ stays_beside c.args.op.now.kind c.args.op.now.pattern t b =
    ap (λ o. is_beside o t b) c.told_by-telling.ensures.value ∙ told_beside c.args.op.now.kind c.args.op.now.pattern t b in
    ap (tests c) (sym c.get.ensures.tuple) ∙ sym (c.conflicts.ensures ∙ ap (λ s. s && not (agree_on c.args.cols b t)) side)

there : (c : After-conflicts) → c.loop-at.at < length c.args.bindings.now.tuples
there c = let test = c.loop-at-test.true in let len = c.len-at-end.ensures in omega (arith, test, len)

pub told_by-telling-requires : goal.told_by-telling-requires
told_by-telling-requires c n m =
    let below : n < c.args.bindings.now.width = c.requires.pattern n m in
    let few = c.requires.few in
    omega (arith, below, few)

pub conflicts-requires-clause-telling : goal.conflicts-requires-clause-telling
conflicts-requires-clause-telling c =
    c.told_by-telling.ensures.below c.get.result.width (subst (λ w. AreBelow w c.args.op.now.pattern) (sym c.get.ensures.width) c.requires.pattern)

pub returns-then-conflicts : goal.returns-then-conflicts
returns-then-conflicts c =
    let at = (goal.at.returns-then-conflicts c).After-conflicts in
    sym (list_any_at (tests at) c.args.bindings.now.tuples c.loop-at.at [] (there at) (asked at ∙ c.if-conflicts.true))

pub loop-at-preserved : goal.loop-at-preserved
loop-at-preserved c =
    let at = (goal.at.loop-at-preserved c).After-conflicts in
    let ts = c.args.bindings.now.tuples in
    let last : list_any (tests at) (get_or ts c.loop-at.at [] ∷ []) ≡ false = ap (λ b. b || false) (asked at ∙ c.if-conflicts.false) in
    ap (list_any (tests at)) (take_more ts c.loop-at.at [] (there at))
    ∙ list_any-append (tests at) (take c.loop-at.at ts) (get_or ts c.loop-at.at [] ∷ [])
    ∙ (λ i. c.loop-at.invariant i || last i)
