use Rattle.std.proofs.Common.{◌≡◌, ◌+◌, ◌<◌, ℕ, length, drop, get_or, refl, sym, ap, ◌∙◌, arith}
use Rattle.rc_instance.proofs.Imports.{List, slice_get, Some, set, drop_more, length-set, slice_get_read, get_or_in, FragmentRows, rolled_back, each_at}
use Rattle.rc_instance.proofs.NumberLemmas.{with_at-set}
use Rattle.rc_instance.proofs.fragments.revert_held.Goals as goal

pub bounds-fragments-stripe : goal.bounds-fragments-stripe
bounds-fragments-stripe c =
    let i : ℕ = c.loop-stripe.stripe-index in
    let l : get_or c.args.stripes.now i 0 < length c.args.fragments.now = c.requires (get_or c.args.stripes.now i 0) (get_or_in c.args.stripes.now i 0 c.loop-stripe-test.true) in
    omega (arith, l, c.loop-stripe.invariant.long)

pub loop-stripe-preserved : goal.loop-stripe-preserved
loop-stripe-preserved c =
    let i : ℕ = c.loop-stripe.stripe-index in
    let ns : List ℕ = c.args.stripes.now in
    let n : ℕ = get_or ns i 0 in
    let xs : List FragmentRows = c.loop-stripe.fragments in
    let old : FragmentRows = c.index-fragments-stripe.result in
    let l : n < length c.args.fragments.now = c.requires n (get_or_in ns i 0 c.loop-stripe-test.true) in
    let at : slice_get xs n ≡ Some old = slice_get_read xs (length xs) n old refl (omega (arith, l, c.loop-stripe.invariant.long)) c.index-fragments-stripe.is in
    record {
      long = length-set xs n c.revert.new.self ∙ c.loop-stripe.invariant.long;
      rest = ap (λ z. each_at rolled_back (drop (i + 1) ns) (set xs n z)) (c.revert.ensures ∙ ap rolled_back (sym c.index-fragments-stripe.is))
          ∙ ap (each_at rolled_back (drop (i + 1) ns)) (with_at-set rolled_back xs n old at)
          ∙ ap (λ z. each_at rolled_back z xs) (sym (drop_more ns i 0 c.loop-stripe-test.true))
          ∙ c.loop-stripe.invariant.rest;
    }
