use Rattle.std.proofs.Common.{◌≡◌, ◌*◌, List, ℕ, length, sym, ap, ◌∙◌, arith}
use Rattle.rc_machine.proofs.Imports.{flat_map, length-map, take_all, Pairs, pick, rows_of_width, length-flat_map_width, rows_of_width-flat_map}
use Rattle.rc_machine.proofs.emit.rows.Goals as goal
use Rattle.rc_machine.proofs.emit.rows.Goals.{After-len-2}

-- each row has a value for each output
wide : (outs : List ℕ) (t : Pairs) → length (pick outs t) ≡ length outs
wide outs t = length-map outs _

-- after the last binding the values are those of all rows
whole : (c : After-len-2) → c.loop-at.values.items ≡ flat_map (pick c.args.outs.now) c.args.bindings.now.tuples
whole c =
    let end = c.loop-at-test.false in
    let len = c.len-at-end.ensures in
    c.loop-at.invariant ∙ ap (flat_map (pick c.args.outs.now)) (take_all c.loop-at.at c.args.bindings.now.tuples (omega (arith, end, len)))

width : (c : After-len-2) → c.list-width.result.now ≡ c.args.outs.now
width c = c.list-width.ensures

pub of_width-requires : goal.of_width-requires
of_width-requires c =
    ap length (whole c)
    ∙ length-flat_map_width (pick c.args.outs.now) (length c.args.outs.now) (wide c.args.outs.now) c.args.bindings.now.tuples
    ∙ ap (λ n. n * length c.args.outs.now) (sym c.len-2.ensures) ∙ ap (λ (l : List ℕ). c.len-2.result * length l) (sym (width c))

pub returns : goal.returns
returns c =
    let d = (goal.at.returns c).After-len-2 in
    c.of_width.ensures
    ∙ ap (rows_of_width (length c.list-width.result.now) c.len-2.result) (whole d)
    ∙ ap (λ (l : List ℕ). rows_of_width (length l) c.len-2.result (flat_map (pick c.args.outs.now) c.args.bindings.now.tuples)) (width d)
    ∙ ap (λ n. rows_of_width (length c.args.outs.now) n (flat_map (pick c.args.outs.now) c.args.bindings.now.tuples)) c.len-2.ensures
    ∙ rows_of_width-flat_map (pick c.args.outs.now) (length c.args.outs.now) (wide c.args.outs.now) c.args.bindings.now.tuples
