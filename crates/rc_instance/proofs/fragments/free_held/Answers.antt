use Rattle.std.proofs.Common.{◌≡◌, ◌+◌, ◌<◌, ℕ, length, drop, get_or, sym, ap, ◌∙◌, arith, Some, None}
use Rattle.rc_instance.proofs.Imports.{List, Option, slice_get, drop_more, length-set, get_or_in, Mode, each_at, place_in}
use Rattle.rc_instance.proofs.NumberLemmas.{with_at-set}
use Rattle.rc_instance.proofs.fragments.free_held.Goals as goal

pub bounds-held-stripe : goal.bounds-held-stripe
bounds-held-stripe c =
    let i : ℕ = c.loop-stripe.stripe-index in
    let l : get_or c.args.stripes.now i 0 < length c.args.held.now = c.requires (get_or c.args.stripes.now i 0) (get_or_in c.args.stripes.now i 0 c.loop-stripe-test.true) in
    omega (arith, l, c.loop-stripe.invariant.long)

pub loop-stripe-preserved : goal.loop-stripe-preserved
loop-stripe-preserved c =
    let i : ℕ = c.loop-stripe.stripe-index in
    let ns : List ℕ = c.args.stripes.now in
    let n : ℕ = get_or ns i 0 in
    let xs : List (Option Mode) = c.loop-stripe.held in
    let l : n < length c.args.held.now = c.requires n (get_or_in ns i 0 c.loop-stripe-test.true) in
    let at : (x : Option Mode) × (slice_get xs n ≡ Some x) = place_in xs n (omega (arith, l, c.loop-stripe.invariant.long)) in
    let free : Option Mode → Option Mode = λ _. None in
    record {
      long = length-set xs n None ∙ c.loop-stripe.invariant.long;
      rest = ap (each_at free (drop (i + 1) ns)) (with_at-set free xs n at.0 at.1)
          ∙ ap (λ z. each_at free z xs) (sym (drop_more ns i 0 c.loop-stripe-test.true))
          ∙ c.loop-stripe.invariant.rest;
    }
