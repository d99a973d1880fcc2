use Rattle.std.proofs.Common.{arith, ◌≡◌, ◌*◌, ◌+◌, ◌/◌, ◌<◌, ℕ, Bool, false, List, [], ◌∷◌, ◌++◌, length, get_or, set, sym, ap, ◌∙◌, inl, inr, length-append}
use Rattle.rc_row.proofs.Imports.{cases_eq, false≢true, get_or-set_same, get_or-set_other, slice_get, slots_items, slots_filled, Filled, KeptRows, Slot, kept_in, slot_place}
use mathlib.Core.Option.{some-injective}
use lib.ListN.{get_elem?}
use Rattle.rc_row.proofs.ClosingLemmas.{taken_more}
use Rattle.rc_row.proofs.close.take_all.Goals as goal

-- the slots behind one that is taken are still there
left : (was now : List Bool) (i n : ℕ) → now ≡ set was i false → Filled was i n → Filled now (i + 1) n
left was now i n is there k le lt = ap (λ (xs : List Bool). get_or xs k false) is ∙ get_or-set_other was i k false false (λ e. omega arith) ∙ there k (omega arith) (omega arith)

-- and those up to it are gone
gone : (was now : List Bool) (i : ℕ) → now ≡ set was i false → i < length was → ((k : ℕ) → k < i → get_or was k false ≡ false) → (k : ℕ) → k < i + 1 → get_or now k false ≡ false
gone was now i is inside before k lt = ap (λ (xs : List Bool). get_or xs k false) is ∙ elim (cases_eq k i) [
  | inl e ↦ ap (λ j. get_or (set was i false) j false) e ∙ get_or-set_same was i false false inside
  | inr apart ↦ get_or-set_other was i k false false apart ∙ before k (omega arith)
]

pub loop-i-preserved-then-not-is_of_stripe : goal.loop-i-preserved-then-not-is_of_stripe
loop-i-preserved-then-not-is_of_stripe c =
    let kept = c.loop-i.invariant in
    let i : ℕ = c.loop-i.i in
    let was : List Bool = slots_filled c.loop-i.closed.slots in
    let others = c.take-slot.ensures.others in
    let t = c.loop-i-test.true in let n = c.slot_count-count.ensures in
    let wide = c.loop-i.closed.slots.ok.1 in let old = kept.0 in let near = kept.5 in (
      others.2 ∙ kept.0,
      others.0 ∙ kept.1,
      (λ k le lt. left was _ i _ others.1 kept.2 k le (omega arith)),
      gone was _ i others.1 (omega arith) kept.3,
      kept.4,
      omega arith,
      (λ less. (let far = kept.6 less in elim (cases_eq i (4 * length c.loop-i.fragments.items)) [
        | inl e ↦ absurd (false≢true (sym c.if-not-is_of_stripe.true ∙ c.is_of_stripe.ensures.1 (omega (arith, e), omega (arith, e, less))))
        | inr apart ↦ omega (arith, far, apart)
      ])),
      kept.7,
      kept.8,
    )

pub into_keep-requires : goal.into_keep-requires
into_keep-requires c =
    let kept = c.loop-i.invariant in
    let i : ℕ = c.loop-i.i in
    let here = c.is_of_stripe.ensures.0 c.if-not-is_of_stripe.false in
    let place : slot_place (i / 4) ≡ i = (let h = here.0 in omega arith) in
    let keep = c.requires.some (i / 4) here.1 in
    let at = ap (λ (xs : List Slot). get_elem? xs i) (sym kept.1) ∙ c.take-slot.ensures.value in
    (keep.0, keep.1, some-injective c.take-slot.result (kept_in keep.0 keep.1) (sym at ∙ ap (get_elem? (slots_items c.args.closed.slots)) (sym place) ∙ keep.2))

pub loop-i-preserved : goal.loop-i-preserved
loop-i-preserved c =
    let kept = c.loop-i.invariant in
    let i : ℕ = c.loop-i.i in
    let was : List Bool = slots_filled c.loop-i.closed.slots in
    let taken = c.loop-i.fragments.items in
    let others = c.take-slot.ensures.others in
    let few = kept.4 in let near = kept.5 in let room = kept.7 in let old = kept.0 in
    let t = c.loop-i-test.true in let n = c.slot_count-count.ensures in
    let wide = c.loop-i.closed.slots.ok.1 in
    let here = c.is_of_stripe.ensures.0 c.if-not-is_of_stripe.false in
    let first = here.0 in let low = here.1 in
    let far = kept.6 (omega arith) in
    let next : length taken ≡ i / 4 = omega (arith, far) in
    let place : slot_place (i / 4) ≡ i = omega arith in
    let keep = c.requires.some (i / 4) here.1 in
    let read = ap (λ (xs : List Slot). get_elem? xs i) (sym kept.1) ∙ c.take-slot.ensures.value in
    let at = ap (λ (p : ℕ). get_elem? (slots_items c.args.closed.slots) (slot_place p)) next ∙ keep.2 in
    let is = some-injective c.take-slot.result (kept_in keep.0 keep.1) (sym read ∙ ap (get_elem? (slots_items c.args.closed.slots)) (sym place) ∙ keep.2) in
    let got = c.into_keep.ensures keep.0 keep.1 is in
    let more = ap (λ (xs : List KeptRows). length xs) c.push_reserved.ensures.items ∙ length-append taken (c.into_keep.result ∷ []) in
    let now = c.push_reserved.ensures.items ∙ ap (λ (k : KeptRows). taken ++ k ∷ []) got in
    let cap = c.push_reserved.ensures.capacity in (
      others.2 ∙ kept.0,
      others.0 ∙ kept.1,
      (λ k le lt. left was _ i _ others.1 kept.2 k le (omega arith)),
      gone was _ i others.1 (omega arith) kept.3,
      omega arith,
      omega arith,
      (λ less. omega (arith, less)),
      omega arith,
      (λ p handed k lt e. ap (λ (xs : List KeptRows). slice_get xs p) now ∙ taken_more (slots_items c.args.closed.slots) taken keep.0 keep.1 at kept.8 p handed k (omega (arith, lt)) e),
    )

pub push_reserved-requires : goal.push_reserved-requires
push_reserved-requires c =
    let kept = c.loop-i.invariant in
    let here = c.is_of_stripe.ensures.0 c.if-not-is_of_stripe.false in
    let near = kept.5 in let room = kept.7 in let low = here.1 in let first = here.0 in
    let len = c.loop-i.fragments.ok.0 in
    omega arith

pub returns-clause-count : goal.returns-clause-count
returns-clause-count c =
    let kept = c.loop-i.invariant in
    let few = kept.4 in let ends = c.loop-i-test.false in let n = c.slot_count-count.ensures in let wide = c.requires.inside in
    elim (cases_eq (length c.loop-i.fragments.items) c.args.stripes) [
      | inl e ↦ e
      | inr apart ↦ absurd (let far = kept.6 (omega (arith, apart)) in omega (arith, far))
    ]

pub returns-clause-items : goal.returns-clause-items
returns-clause-items c =
    let kept = c.loop-i.invariant in
    let few = kept.4 in let ends = c.loop-i-test.false in let n = c.slot_count-count.ensures in let wide = c.requires.inside in
    let all : length c.loop-i.fragments.items ≡ c.args.stripes = elim (cases_eq (length c.loop-i.fragments.items) c.args.stripes) [
      | inl e ↦ e
      | inr apart ↦ absurd (let far = kept.6 (omega (arith, apart)) in omega (arith, far))
    ] in
    λ p handed keep lt e. kept.8 p handed keep (omega (arith, lt, all)) e
