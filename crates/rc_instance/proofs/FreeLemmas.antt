-- What stripes are once all are free and have their rows now as taken.
use Rattle.std.specs.Prelude.{◌≡◌, ℕ, List, [], ◌∷◌, ◌++◌, Option, None, Some}
use Rattle.rc_instance.proofs.Imports.{AllZip, slice_get, AllZip-long, slice_get_in, Mode, FragmentRows, IsHeld, IsAtRest, held_from, offered_at, rows_of_fragments, stripes_of, taken_in, AreReleased, IsInstance, Stripe, IsHeldFrom, in_held_from, as_held, held_from_in}
use Rattle.std.proofs.Common.{refl, sym, ap, ◌∙◌, arith, replicate}
use Rattle.rc_instance.proofs.AlikeLemmas.{IsSettled, OfOneTable, alike_at, alike_in, alike_one_table, alike_table}
use Rattle.rc_instance.proofs.StripesOfLemmas.{fragments_have_one_table, instance_of, none_held, now_in, now_of, room_of, stripes_of-length, stripes_of-now, stripes_of-offered, stripes_of-room, stripes_of-rows, stripes_of-table, taken_of}

-- ---- settled fragments

settled_rests : (f g : FragmentRows) → IsSettled f g → IsAtRest g
settled_rests f g e = record { taken = ap (λ (z : FragmentRows). z.taken) e ∙ sym (ap (λ (z : FragmentRows). z.now) e); changes = ap (λ (z : FragmentRows). z.changes) e }

settled_rows : (old new : List FragmentRows) → AllZip IsSettled old new → rows_of_fragments new ≡ rows_of_fragments old
settled_rows [] [] a = refl
settled_rows [] (g ∷ gs) a = absurd a
settled_rows (f ∷ fs) [] a = absurd a
settled_rows (f ∷ fs) (g ∷ gs) a = λ i. (a.0 i).now ++ settled_rows fs gs a.1 i

module _ (old new : List FragmentRows) (a : AllZip IsSettled old new) where
  settled_offered : (ms : List (Option Mode)) (n : ℕ) → offered_at (stripes_of new ms) n ≡ now_in (slice_get old n)
  settled_offered ms n = stripes_of-offered new ms n ∙ alike_at IsSettled (λ f g. taken_of g ≡ now_in f) refl (λ f g r. ap (λ (z : FragmentRows). Some z.taken) r) old new a n

  settled_instance : (ms : List (Option Mode)) → OfOneTable old → IsInstance (stripes_of new ms)
  settled_instance ms one =
      instance_of new ms (alike_one_table IsSettled (λ f g r. ap (λ (z : FragmentRows). z.table) r) old new a one) (λ g m. let w = alike_in IsSettled old new a g m in settled_rests w.0 g w.2)

-- ---- released

-- what a stripe that isn't held offers
free_offers : (ss : List Stripe) → IsInstance ss → (n : ℕ) → (IsHeld (held_from 0 ss) n → ⊥) → now_of (slice_get ss n) ≡ offered_at ss n
free_offers ss i n d = go (slice_get ss n) refl
  where
    free : (s : Stripe) → slice_get ss n ≡ Some s → (m : Option Mode) → s.held ≡ m → s.held ≡ None
    free s e None h = h
    free s e (Some mode) h = absurd (d (as_held n mode s.fragment, held_from_in 0 ss n n s mode e (omega arith) h, refl))

    go : (o : Option Stripe) → slice_get ss n ≡ o → now_of o ≡ offered_at ss n
    go None e = ap taken_in (sym e)
    go (Some s) e = ap Some (sym (i.free s (slice_get_in ss n s e) (free s e s.held refl)).taken) ∙ ap taken_in (sym e)

-- the fragments were held so
module _ (old new : List FragmentRows) (a : AllZip IsSettled old new) (ms : List (Option Mode)) (i : IsInstance (stripes_of old ms)) where
  pub released_instance : (n : ℕ) → IsInstance (stripes_of new (replicate n None))
  released_instance n = settled_instance old new a (replicate n None) (fragments_have_one_table old ms i)

  pub released : (n : ℕ) → AreReleased (stripes_of old ms) (stripes_of new (replicate n None))
  released n =
      let ss : List Stripe = stripes_of old ms in
      let ts : List Stripe = stripes_of new (replicate n None) in
      record {
        held = none_held 0 n new;
        rows = stripes_of-rows new _ ∙ settled_rows old new a ∙ sym (stripes_of-rows old ms);
        settled = λ h m.
            let w : IsHeldFrom 0 ss h = in_held_from 0 ss h m in
            let p : h.stripe ≡ w.place = omega (arith, w.numbered) in
            settled_offered old new a _ h.stripe ∙ sym (stripes_of-now old ms h.stripe) ∙ ap (λ z. now_of (slice_get ss z)) p ∙ ap now_of w.there ∙ ap Some (sym w.now);
        others = λ p d. settled_offered old new a _ p ∙ sym (stripes_of-now old ms p) ∙ free_offers ss i p d;
        room = λ p.
            stripes_of-room new (replicate n None) p ∙ alike_at IsSettled (λ f g. room_of g ≡ room_of f) refl (λ f g r. ap (λ (z : FragmentRows). z.room) r) old new a p ∙ sym (stripes_of-room old ms p);
        stripes = stripes_of-length new _ ∙ AllZip-long IsSettled old new a ∙ sym (stripes_of-length old ms);
        table = stripes_of-table new _ ∙ alike_table IsSettled (λ f g r. ap (λ (z : FragmentRows). z.table) r) old new a ∙ sym (stripes_of-table old ms);
      }
