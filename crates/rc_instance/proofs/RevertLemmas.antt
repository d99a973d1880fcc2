-- What all stripes are once each has its rows as they were taken.
use Rattle.std.specs.Prelude.{◌≡◌, ℕ, zero, suc, List, [], ◌∷◌, ◌++◌, Option, None, Some, map}
use Rattle.std.proofs.Common.{refl, sym, ap, ◌∙◌}
use Rattle.rc_instance.proofs.Imports.{map-append, length-map, In, in_map, Mode, Spec, FragmentRows, rolled_back, all_reverted, lent_reverted, holding, lent_part, lent_from, offered_at, stripes_of, table_of, IsInstance, IsOfOneRelation, Stripe}
use Rattle.rc_instance.proofs.StripeLemmas.{same_sound}

-- the stripe with its rows as they were taken
abbrev pub reverted_stripe : Stripe → Stripe
reverted_stripe s = record { fragment = rolled_back s.fragment; held = s.held }

pub stripes_of-reverted : (fs : List FragmentRows) (ms : List (Option Mode)) → stripes_of (map rolled_back fs) ms ≡ map reverted_stripe (stripes_of fs ms)
stripes_of-reverted [] ms = refl
stripes_of-reverted (f ∷ fs) [] = ap (λ z. (let s : Stripe = record { fragment = rolled_back f; held = None } in s) ∷ z) (stripes_of-reverted fs [])
stripes_of-reverted (f ∷ fs) (m ∷ ms) = ap (λ z. (let s : Stripe = record { fragment = rolled_back f; held = m } in s) ∷ z) (stripes_of-reverted fs ms)

table-reverted : (v : List Stripe) → table_of (map reverted_stripe v) ≡ table_of v
table-reverted [] = refl
table-reverted (s ∷ ss) = refl

part-reverted : (n : ℕ) (f : FragmentRows) (m : Option Mode) → lent_part n (rolled_back f) m ≡ map lent_reverted (lent_part n f m)
part-reverted n f None = refl
part-reverted n f (Some mode) = refl

lent-reverted : (n : ℕ) (v : List Stripe) → lent_from n (map reverted_stripe v) ≡ map lent_reverted (lent_from n v)
lent-reverted n [] = refl
lent-reverted n (s ∷ ss) = (λ i. part-reverted n s.fragment s.held i ++ lent-reverted (suc n) ss i) ∙ sym (map-append lent_reverted (lent_part n s.fragment s.held) (lent_from (suc n) ss))

offered-reverted : (v : List Stripe) → map (λ (s : Stripe). Some s.fragment.taken) (map reverted_stripe v) ≡ map (λ (s : Stripe). Some s.fragment.taken) v
offered-reverted [] = refl
offered-reverted (s ∷ ss) = ap (λ z. Some s.fragment.taken ∷ z) (offered-reverted ss)

pub holding-reverted : (v : List Stripe) → holding (map reverted_stripe v) ≡ all_reverted (holding v)
holding-reverted v = λ i. record { table = table-reverted v i; lent = lent-reverted 0 v i; lends = None; offered = offered-reverted v i; refusals = 0; last_refusal = None; through = 0 }

pub instance-reverted : (v : List Stripe) → IsInstance v → IsInstance (map reverted_stripe v)
instance-reverted v i = record {
  table = λ s m. let w : (x : Stripe) × In x v × (s ≡ reverted_stripe x) = in_map reverted_stripe s v m in ap (λ (z : Stripe). z.fragment.table) w.2 ∙ i.table w.0 w.1 ∙ sym (table-reverted v);
  free = λ s m _.
      let w : (x : Stripe) × In x v × (s ≡ reverted_stripe x) = in_map reverted_stripe s v m in
      record { taken = ap (λ (z : Stripe). z.fragment.taken) w.2 ∙ sym (ap (λ (z : Stripe). z.fragment.now) w.2); changes = ap (λ (z : Stripe). z.fragment.changes) w.2 };
}

offers-reverted : (v : List Stripe) (p : ℕ) → offered_at (map reverted_stripe v) p ≡ offered_at v p
offers-reverted [] p = refl
offers-reverted (s ∷ ss) zero = refl
offers-reverted (s ∷ ss) (suc p) = offers-reverted ss p

pub sound-reverted : (v : List Stripe) (spec : Spec) → IsOfOneRelation v spec → IsOfOneRelation (map reverted_stripe v) spec
sound-reverted v = same_sound v (map reverted_stripe v) (table-reverted v) (length-map v reverted_stripe) (offers-reverted v)
