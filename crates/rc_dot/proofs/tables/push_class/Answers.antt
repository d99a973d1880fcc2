use Rattle.std.proofs.Common.{◌≡◌, ◌∙◌, ◌++◌, ap, codes}
use Rattle.rc_dot.proofs.Imports.{on_ok_weaker, Class, class_at, colour_of}
use Rattle.rc_dot.proofs.DotLemmas.{behind}
use Rattle.rc_dot.proofs.tables.push_class.Goals as goal

pub returns : goal.returns
returns c =
    let text = c.args.text.now.items in
    let start = codes "    <tr><td bgcolor=\"" in
    let colour = colour_of c.args.class in
    let font = codes "\"><font color=\"white\">" in
    let name = (class_at c.args.spec.now c.args.class).name in
    let end = codes "</font></td><td>(" in
    let one = c.push_bytes.new.out.items in
    let two = c.push_bytes-2.new.out.items in
    let three = c.push_bytes-3.new.out.items in
    let four = c.push_bytes-4.new.out.items in
    let all = c.push_bytes-5.new.out.items in
    let second : two ≡ one ++ colour = c.in_ok-push_bytes-2.ensures.ok ∙ ap (λ l. one ++ l) c.colour_of.ensures in
    let fourth : four ≡ three ++ name = c.in_ok-push_bytes-4.ensures.ok ∙ ap (λ l. three ++ l) (c.name.ensures ∙ ap (λ (k : Class). k.name) c.class.ensures.value) in
    on_ok_weaker c.push_bytes-5.result
    (λ (fifth : all ≡ four ++ end).
    behind text (start ++ colour ++ font ++ name) end four all
    (behind text (start ++ colour ++ font) name three four
    (behind text (start ++ colour) font two three (behind text start colour one two c.in_ok-push_bytes.ensures.ok second) c.in_ok-push_bytes-3.ensures.ok) fourth) fifth)
    c.push_bytes-5.ensures.ok
