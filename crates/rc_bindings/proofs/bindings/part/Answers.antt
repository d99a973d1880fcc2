use Rattle.std.proofs.Common.{◌<◌, ◌^◌, ◌-◌, drop, take, subst, arith}
use Rattle.rc_bindings.proofs.Imports.{In, append_in_left, append_in_right, in_from_places, take-append-drop}
use Rattle.rc_bindings.proofs.bindings.part.Goals as goal

pub returns-clause-words : goal.returns-clause-words
returns-clause-words c v m =
    let all = c.args.registers.now in
    let behind = drop c.args.start all in
    let here : In v behind = subst (In v) (take-append-drop (c.args.end - c.args.start) behind) (append_in_left v (take (c.args.end - c.args.start) behind) (drop (c.args.end - c.args.start) behind) m) in
    let inside : In v all = subst (In v) (take-append-drop c.args.start all) (append_in_right v (take c.args.start all) behind here) in
    in_from_places (λ x. x < 2 ^ 64) 0 all (λ i h. let f = c.type_inv.registers i in omega arith) v inside
