use Rattle.std.proofs.Common.{◌+◌, ◌∷◌, ◌++◌, [], ℕ, sym, ap, ◌∙◌}
use Rattle.rc_multi.proofs.Imports.{append_assoc, map-append, range_with_len, range_with_len_more, StripeLock, in_mode}
use Rattle.rc_multi.proofs.locks.push_band.Goals as goal

pub loop-place-preserved : goal.loop-place-preserved
loop-place-preserved c =
    let start : ℕ = c.band_start-start.result in
    let place : ℕ = c.loop-place.place in
    let new : StripeLock = (start + place, c.args.mode) in
    c.in_ok-push.ensures.items ∙ ap (λ ls. ls ++ new ∷ []) c.loop-place.invariant
    ∙ append_assoc c.args.locks.now.items (in_mode c.args.mode (range_with_len start place)) (new ∷ [])
    ∙ ap (λ ls. c.args.locks.now.items ++ ls)
    (sym (map-append (λ (s : ℕ). let l : StripeLock = (s, c.args.mode) in l) (range_with_len start place) ((start + place) ∷ []))
    ∙ ap (in_mode c.args.mode) (sym (range_with_len_more start place)))
