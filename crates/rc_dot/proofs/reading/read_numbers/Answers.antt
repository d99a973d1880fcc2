use Rattle.std.proofs.Common.{◌≡◌, ◌∙◌, ℕ, get_or, ap, sym, refl, Vec, Global}
use Rattle.rc_dot.proofs.Imports.{at_found, Statement, Commit}
use Rattle.rc_dot.proofs.DotLemmas.{numbers_with, numbers_without}
use Rattle.rc_dot.proofs.reading.read_numbers.Goals as goal
use Rattle.rc_dot.proofs.reading.read_numbers.Goals.{then-is_read_of+in_ok-push, else-is_read_of}

pub loop-place-preserved : goal.loop-place-preserved
loop-place-preserved c =
    let plan = c.args.plan.now in
    let place = c.loop-place.place in
    let x : Statement = c.index-plan-place.result in
    let there : get_or plan place Commit ≡ x = at_found plan plan place Commit x refl c.loop-place-test.true c.index-plan-place.is in
    elim c.if-is_read_of.branch [
      | then-is_read_of+in_ok-push w ↦ ap (λ (v : Vec ℕ Global). v.items) w.numbers-is
          ∙ numbers_with plan c.args.edge place x c.loop-place.numbers.items w.push.new.self.items there (sym c.is_read_of.ensures ∙ w.if-is_read_of.true) c.loop-place.invariant w.in_ok-push.ensures.items
      | else-is_read_of w ↦ ap (λ (v : Vec ℕ Global). v.items) w.numbers-is
          ∙ numbers_without plan c.args.edge place x c.loop-place.numbers.items there (sym c.is_read_of.ensures ∙ w.if-is_read_of.false) c.loop-place.invariant
    ]
