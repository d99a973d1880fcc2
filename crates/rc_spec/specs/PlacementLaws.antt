-- Laws of placements and stripes.
use Rattle.std.proofs.Common.{◌≡◌, ℕ, zero, suc, ◌+◌, ◌<◌, ◌≤◌, ◌==◌, Bool, true, false, cond, List, [], ◌∷◌, length, take, Some, refl, ap, subst, inl, inr, arith}
use Rattle.rc_spec.specs.Imports.{find, filter, fold, slice_get, sum_by, option_map_or, In, Pairs, value}
use Rattle.std.proofs.lemmas.List.{take_all}
use Rattle.std.proofs.lemmas.List.Sums.{sum_by_more_le}
use Rattle.std.proofs.Math.Nat.{mod-lt}
use Rattle.rc_spec.specs.declared.items.Class.{Class}
use Rattle.rc_spec.specs.declared.items.Place.{Place}
use Rattle.rc_spec.specs.declared.spec.Spec.{Spec}
use Rattle.rc_spec.specs.InRange.{IsInRange}
use Rattle.rc_spec.specs.Placement.{class_at, class_of, no_class, stripes_of_first, KeepsP1, IsPlaced}
use Rattle.rc_spec.specs.Stripes.{mix, hash_of, stripe_of, stripe_total, physical_stripe}

found_class : (e classes : ℕ) (places : List Place) → ((p : Place) → In p places → p.class < classes) → 0 < length (filter (λ (p : Place). p.edge == e) places)
    → option_map_or (λ (p : Place). p.class) (find (λ (p : Place). p.edge == e) places) 0 < classes
found_class e classes [] f h = absurd (omega arith)
found_class e classes (p ∷ places) f h = go (p.edge == e) refl h (λ k. found_class e classes places (λ q m. f q (inr m)) k)
  where
    go : (b : Bool) → (p.edge == e) ≡ b → 0 < length (cond b (p ∷ filter (λ (q : Place). q.edge == e) places) (filter (λ (q : Place). q.edge == e) places))
        → (0 < length (filter (λ (q : Place). q.edge == e) places) → option_map_or (λ (q : Place). q.class) (find (λ (q : Place). q.edge == e) places) 0 < classes)
        → option_map_or (λ (q : Place). q.class) (cond b (Some p) (find (λ (q : Place). q.edge == e) places)) 0 < classes
    go true k h rest = f p (inl refl)
    go false k h rest = rest h

-- an edge that is placed once is placed on a class of the specification
pub class_of_known : (spec : Spec) (e : ℕ) → IsInRange spec → KeepsP1 spec e → class_of spec e < length spec.classes
class_of_known spec e range once = found_class e (length spec.classes) spec.places (λ p m. (range.known_places p m).class) (omega (arith, once))

-- the hash of the first columns, with one more
pub hash_of_more : (cols : List ℕ) (t : Pairs) (i c : ℕ) → slice_get cols i ≡ Some c → hash_of (take (i + 1) cols) t ≡ mix (hash_of (take i cols) t) (value t c)
hash_of_more cols t i c e = subst (λ n. hash_of (take n cols) t ≡ mix (hash_of (take i cols) t) (value t c)) (let n : suc i ≡ i + 1 = omega arith in n) (go 7 cols i e)
  where
    go : (h : ℕ) (cols : List ℕ) (i : ℕ) → slice_get cols i ≡ Some c
        → fold (λ hash k. mix hash (value t k)) h (take (suc i) cols) ≡ mix (fold (λ hash k. mix hash (value t k)) h (take i cols)) (value t c)
    go h [] i e = cc
    go h (k ∷ cols) zero e = let same : k ≡ c = cc in ap (λ z. mix h (value t z)) same
    go h (k ∷ cols) (suc i) e = go (mix h (value t k)) cols i e

-- ---- all stripes

-- a well placed specification has at most 256 stripes
pub placed_total : (spec : Spec) → IsPlaced spec → stripe_total spec ≤ 256
placed_total spec h = go (length spec.classes) refl
  where
    go : (n : ℕ) → length spec.classes ≡ n → stripes_of_first spec n ≤ 256
    go zero e = omega arith
    go (suc n) e = subst (λ k. stripes_of_first spec k ≤ 256) (let k : n + 1 ≡ suc n = omega arith in k) (h.p6 n (omega (arith, e))).few

-- each tuple falls on one of them
pub physical_stripe_below : (spec : Spec) (c : ℕ) (t : Pairs) → IsPlaced spec → c < length spec.classes → physical_stripe spec c t < stripe_total spec
physical_stripe_below spec c t h l =
    let stripe : stripe_of (class_at spec c) t < (class_at spec c).stripes = mod-lt (hash_of (class_at spec c).cols t) (h.p6 c l).some in
    let band : stripes_of_first spec c + (class_at spec c).stripes ≤ sum_by (λ (class : Class). class.stripes) spec.classes = sum_by_more_le (λ (class : Class). class.stripes) spec.classes c no_class l in
    let all : stripe_total spec ≡ sum_by (λ (class : Class). class.stripes) spec.classes = ap (sum_by (λ (class : Class). class.stripes)) (take_all (length spec.classes) spec.classes (omega arith)) in
    omega (arith, stripe, band, all)
