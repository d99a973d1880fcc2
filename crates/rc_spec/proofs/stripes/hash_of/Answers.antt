use Rattle.std.proofs.Common.{arith, sym, ap, ◌∙◌}
use Rattle.rc_spec.proofs.Imports.{unwrap_or, slice_get_there, value, mix, hash_of_more}
use Rattle.rc_spec.proofs.stripes.hash_of.Goals as goal
use Rattle.rc_spec.proofs.stripes.hash_of.Goals.{in-Some, in_default}

pub loop-place-preserved : goal.loop-place-preserved
loop-place-preserved c =
    elim c.match-nth.branch [
      | in-Some w ↦
          w.hash-is ∙ w.mix-hash.ensures ∙ ap (mix c.loop-place.hash) (w.unwrap_or.ensures ∙ ap (λ o. unwrap_or o 0) w.get.ensures)
          ∙ ap (λ h. mix h (value c.args.tuple.now w.in-Some.col)) c.loop-place.invariant
          ∙ sym (hash_of_more c.args.cols c.args.tuple.now c.loop-place.place w.in-Some.col (sym w.in-Some.ensures.value))
      | in_default w ↦
          absurd (slice_get_there c.args.cols c.loop-place.place (omega (arith, c.loop-place-test.true, c.len-place-end.ensures.value)) (sym w.in_default.ensures.value))
    ]
