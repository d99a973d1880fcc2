use Rattle.std.proofs.Common.{◌≡◌, ◌-◌, ◌<◌, ◌≤◌, List, length, get_or, subst, sym, ap, arith}
use Rattle.rc_machine.proofs.Imports.{In, get_or_in, Dep, AreBelow, IsSetBelow}
use Rattle.rc_machine.proofs.check.some_differs.Goals as goal

pub differ_on-requires-clause-columns : goal.differ_on-requires-clause-columns
differ_on-requires-clause-columns c =
    let dep : Dep = c.index-list-dep.result in
    let l : c.args.dep - 1 < length c.args.spec.now.deps = let k = c.requires.known in let s = c.requires.some in omega (arith, k, s) in
    let is : get_or c.list.result.now (c.args.dep - 1) dep ≡ get_or c.args.spec.now.deps (c.args.dep - 1) dep = ap (λ (ds : List Dep). get_or ds (c.args.dep - 1) dep) c.list.ensures in
    let there : In (get_or c.list.result.now (c.args.dep - 1) dep) c.args.spec.now.deps = subst (λ d. In d c.args.spec.now.deps) (sym is) (get_or_in c.args.spec.now.deps (c.args.dep - 1) dep l) in
    subst (λ w. IsSetBelow w (get_or c.list.result.now (c.args.dep - 1) dep).right) (sym c.requires.wide) (c.requires.sealed.in_range.known_deps (get_or c.list.result.now (c.args.dep - 1) dep) there).right

pub differ_on-requires-clause-pattern : goal.differ_on-requires-clause-pattern
differ_on-requires-clause-pattern c = subst (λ w. AreBelow w c.args.op.now.pattern) (sym c.requires.wide) c.requires.pattern

pub differ_on-requires-clause-few : goal.differ_on-requires-clause-few
differ_on-requires-clause-few c = subst (λ w. w ≤ 32) (sym c.requires.wide) c.requires.sealed.in_range.columns
