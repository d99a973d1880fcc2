use Rattle.std.proofs.Common.{ℕ, List, length, ap, arith}
use Rattle.std.proofs.lemmas.List.{take_rest}
use Rattle.rc_text.specs.Reader.{place_of}
use Rattle.rc_text.specs.Lines.{TextPlace, lines_of, past_end_of}
use Rattle.rc_text.specs.LinesLaws.{start-within, past_end_is, past_end-le}
use Rattle.rc_text.proofs.lines.Lines.past_end.Goals as goal

pub slice_bounds-rest-count : goal.slice_bounds-rest-count
slice_bounds-rest-count c = start-within (place_of c.self.inside) c.self.invariant.start

pub slice_bounds-rest-start : goal.slice_bounds-rest-start
slice_bounds-rest-start c = start-within (place_of c.self.inside) c.self.invariant.start

pub loop-rest-init : goal.loop-rest-init
loop-rest-init c =
    let here = take_rest c.self.inside.bytes.now c.self.inside.at in
    let whole = past_end_is (place_of c.self.inside) c.self.invariant.start in
    omega (arith, whole, ap (λ (bytes : List ℕ). length (lines_of bytes)) here, ap (λ (place : TextPlace). past_end_of place.text) c.self.view_is)

pub overflow_add-line : goal.overflow_add-line
overflow_add-line c =
    omega (arith, past_end-le c.self.inside.bytes.now, c.self.invariant.short, ap (λ (place : TextPlace). past_end_of place.text) c.self.view_is, c.loop-rest.invariant)
