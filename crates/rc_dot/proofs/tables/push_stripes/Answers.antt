use Rattle.std.proofs.Common.{◌≡◌, ◌+◌, ◌-◌, ◌++◌, codes}
use Rattle.rc_dot.proofs.Imports.{decimal, on_ok_weaker}
use Rattle.rc_dot.proofs.DotLemmas.{behind}
use Rattle.rc_dot.proofs.tables.push_stripes.Goals as goal

pub returns : goal.returns
returns c =
    let text = c.args.text.now.items in
    let start = codes ")</td><td>" in
    let count = decimal c.args.stripes in
    let next = codes "</td><td>" in
    let first = decimal c.args.start in
    let dots = codes ".." in
    let last = decimal (c.args.start + c.args.stripes - 1) in
    let end = codes "</td></tr>\n" in
    let one = c.push_bytes.new.out.items in
    let two = c.push_u64.new.out.items in
    let three = c.push_bytes-2.new.out.items in
    let four = c.push_u64-2.new.out.items in
    let five = c.push_bytes-3.new.out.items in
    let six = c.push_u64-3.new.out.items in
    let all = c.push_bytes-4.new.out.items in
    let second = behind text start count one two c.in_ok-push_bytes.ensures.ok c.in_ok-push_u64.ensures.ok in
    let third = behind text (start ++ count) next two three second c.in_ok-push_bytes-2.ensures.ok in
    let fourth = behind text (start ++ count ++ next) first three four third c.in_ok-push_u64-2.ensures.ok in
    let fifth = behind text (start ++ count ++ next ++ first) dots four five fourth c.in_ok-push_bytes-3.ensures.ok in
    let sixth = behind text (start ++ count ++ next ++ first ++ dots) last five six fifth c.in_ok-push_u64-3.ensures.ok in
    on_ok_weaker c.push_bytes-4.result
    (λ (seventh : all ≡ six ++ end). behind text (start ++ count ++ next ++ first ++ dots ++ last) end six all sixth seventh)
    c.push_bytes-4.ensures.ok
