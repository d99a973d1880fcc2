use Rattle.std.proofs.Common.{◌≡◌, ℕ, ◌-◌, ◌+◌, drop, length, take, ap, sym, ◌∙◌, arith}
use Rattle.std.proofs.lemmas.List.{length-drop, take_all}
use Rattle.rc_embed.proofs.text_page.part_from.Goals as goal

pub returns-then-left-le-MAX_PART-clause-part : goal.returns-then-left-le-MAX_PART-clause-part
returns-then-left-le-MAX_PART-clause-part c =
    let rest = drop c.args.at c.args.text.now in
    let count = length-drop c.args.at c.args.text.now in
    take_all (length c.args.text.now - c.args.at) rest (omega (arith, count))
    ∙ sym (take_all 4096 rest (omega (arith, count, c.if-left-le-MAX_PART.true)))

pub returns-else-left-le-MAX_PART-clause-part : goal.returns-else-left-le-MAX_PART-clause-part
returns-else-left-le-MAX_PART-clause-part c =
    let count : c.args.at + 4096 - c.args.at ≡ 4096 = omega arith in
    ap (λ (n : ℕ). take n (drop c.args.at c.args.text.now)) count
