-- Stripes that are put together from fragments and how they are held.
use Rattle.std.specs.Prelude.{◌≡◌, ℕ, zero, suc, ◌<◌, List, [], ◌∷◌, ◌++◌, Option, None, Some, length, map}
use Rattle.rc_instance.proofs.Imports.{slice_get, set, same_Some, In, in_map, EdgeRow, Mode, FragmentRows, IsAtRest, KeptRows, at_rest, held_from, HaveOneTable, kept_stripe, offered_at, room_at, room_in, rows_of, rows_of_fragments, stripes_of, table_of, table_of_fragments, taken_in, IsInstance, Stripe}
use Rattle.std.proofs.Common.{inl, inr, refl, sym, ap, subst, ◌∙◌, arith, get_or, replicate}
use Rattle.rc_instance.proofs.AlikeLemmas.{OfOneTable}

-- ---- what is seen of them

pub stripes_of-length : (fs : List FragmentRows) (ms : List (Option Mode)) → length (stripes_of fs ms) ≡ length fs
stripes_of-length [] ms = refl
stripes_of-length (f ∷ fs) [] = ap suc (stripes_of-length fs [])
stripes_of-length (f ∷ fs) (m ∷ ms) = ap suc (stripes_of-length fs ms)

pub stripes_of-table : (fs : List FragmentRows) (ms : List (Option Mode)) → table_of (stripes_of fs ms) ≡ table_of_fragments fs
stripes_of-table [] ms = refl
stripes_of-table (f ∷ fs) [] = refl
stripes_of-table (f ∷ fs) (m ∷ ms) = refl

pub stripes_of-rows : (fs : List FragmentRows) (ms : List (Option Mode)) → rows_of (stripes_of fs ms) ≡ rows_of_fragments fs
stripes_of-rows [] ms = refl
stripes_of-rows (f ∷ fs) [] = ap (λ z. f.now ++ z) (stripes_of-rows fs [])
stripes_of-rows (f ∷ fs) (m ∷ ms) = ap (λ z. f.now ++ z) (stripes_of-rows fs ms)

-- what is seen of the fragment alone, where there is one, is seen of the stripe
stripes_of-at : {X : Type 0} (g : Option Stripe → X) (h : Option FragmentRows → X) → g None ≡ h None → ((s : Stripe) → g (Some s) ≡ h (Some s.fragment))
    → (fs : List FragmentRows) (ms : List (Option Mode)) (n : ℕ) → g (slice_get (stripes_of fs ms) n) ≡ h (slice_get fs n)
stripes_of-at g h none some [] ms n = none
stripes_of-at g h none some (f ∷ fs) [] zero = some _
stripes_of-at g h none some (f ∷ fs) (m ∷ ms) zero = some _
stripes_of-at g h none some (f ∷ fs) [] (suc n) = stripes_of-at g h none some fs [] n
stripes_of-at g h none some (f ∷ fs) (m ∷ ms) (suc n) = stripes_of-at g h none some fs ms n

abbrev pub taken_of : Option FragmentRows → Option (List EdgeRow)
taken_of None = None
taken_of (Some f) = Some f.taken

abbrev pub room_of : Option FragmentRows → ℕ
room_of None = 0
room_of (Some f) = f.room

abbrev pub now_of : Option Stripe → Option (List EdgeRow)
now_of None = None
now_of (Some s) = Some s.fragment.now

pub stripes_of-offered : (fs : List FragmentRows) (ms : List (Option Mode)) (n : ℕ) → offered_at (stripes_of fs ms) n ≡ taken_of (slice_get fs n)
stripes_of-offered = stripes_of-at taken_in taken_of refl (λ s. refl)

pub stripes_of-room : (fs : List FragmentRows) (ms : List (Option Mode)) (n : ℕ) → room_at (stripes_of fs ms) n ≡ room_of (slice_get fs n)
stripes_of-room = stripes_of-at room_in room_of refl (λ s. refl)

abbrev pub now_in : Option FragmentRows → Option (List EdgeRow)
now_in None = None
now_in (Some f) = Some f.now

pub stripes_of-now : (fs : List FragmentRows) (ms : List (Option Mode)) (n : ℕ) → now_of (slice_get (stripes_of fs ms) n) ≡ now_in (slice_get fs n)
stripes_of-now = stripes_of-at now_of now_in refl (λ s. refl)

-- ---- their members

pub fragment_in : (fs : List FragmentRows) (ms : List (Option Mode)) (s : Stripe) → In s (stripes_of fs ms) → In s.fragment fs
fragment_in [] ms s i = absurd i
fragment_in (f ∷ fs) [] s (inl p) = inl (ap (λ (z : Stripe). z.fragment) p)
fragment_in (f ∷ fs) [] s (inr i) = inr (fragment_in fs [] s i)
fragment_in (f ∷ fs) (m ∷ ms) s (inl p) = inl (ap (λ (z : Stripe). z.fragment) p)
fragment_in (f ∷ fs) (m ∷ ms) s (inr i) = inr (fragment_in fs ms s i)

-- and each fragment is that of a stripe
stripe_of : (fs : List FragmentRows) (ms : List (Option Mode)) (f : FragmentRows) → In f fs → (s : Stripe) × In s (stripes_of fs ms) × (s.fragment ≡ f)
stripe_of [] ms f i = absurd i
stripe_of (x ∷ fs) [] f (inl p) = (_, inl refl, sym p)
stripe_of (x ∷ fs) [] f (inr i) = let w = stripe_of fs [] f i in (w.0, inr w.1, w.2)
stripe_of (x ∷ fs) (m ∷ ms) f (inl p) = (_, inl refl, sym p)
stripe_of (x ∷ fs) (m ∷ ms) f (inr i) = let w = stripe_of fs ms f i in (w.0, inr w.1, w.2)

pub fragments_have_one_table : (fs : List FragmentRows) (ms : List (Option Mode)) → IsInstance (stripes_of fs ms) → OfOneTable fs
fragments_have_one_table fs ms i f m =
    let w : (s : Stripe) × In s (stripes_of fs ms) × (s.fragment ≡ f) = stripe_of fs ms f m in
    ap (λ (z : FragmentRows). z.table) (sym w.2) ∙ i.table w.0 w.1 ∙ stripes_of-table fs ms

-- fragments with one table and no change pending may be held anyhow
pub instance_of : (fs : List FragmentRows) (ms : List (Option Mode)) → OfOneTable fs → ((f : FragmentRows) → In f fs → IsAtRest f) → IsInstance (stripes_of fs ms)
instance_of fs ms one same = record {
  table = λ s i. one s.fragment (fragment_in fs ms s i) ∙ sym (stripes_of-table fs ms);
  free = λ s i none. same s.fragment (fragment_in fs ms s i);
}

-- ---- all of them are free

pub none_held : (k n : ℕ) (fs : List FragmentRows) → held_from k (stripes_of fs (replicate n None)) ≡ []
none_held k n [] = refl
none_held k zero (f ∷ fs) = none_held (suc k) zero fs
none_held k (suc n) (f ∷ fs) = none_held (suc k) n fs

-- ---- kept fragments

pub stripes_of-kept : (ks : List KeptRows) (n : ℕ) → stripes_of (map at_rest ks) (replicate n None) ≡ map kept_stripe ks
stripes_of-kept [] n = refl
stripes_of-kept (k ∷ ks) zero = ap (λ z. kept_stripe k ∷ z) (stripes_of-kept ks zero)
stripes_of-kept (k ∷ ks) (suc n) = ap (λ z. kept_stripe k ∷ z) (stripes_of-kept ks n)

pub kept_one_table : (ks : List KeptRows) → HaveOneTable ks → OfOneTable (map at_rest ks)
kept_one_table [] one f m = absurd m
kept_one_table (k ∷ ks) one f m =
    let w : (j : KeptRows) × In j (k ∷ ks) × (f ≡ at_rest j) = in_map at_rest f (k ∷ ks) m in
    ap (λ (z : FragmentRows). z.table) w.2 ∙ one w.0 k w.1 (inl refl)

pub kept_rest : (ks : List KeptRows) (f : FragmentRows) → In f (map at_rest ks) → IsAtRest f
kept_rest ks f m =
    let w : (j : KeptRows) × In j ks × (f ≡ at_rest j) = in_map at_rest f ks m in
    subst IsAtRest (sym w.2) record { taken = refl; changes = refl }

-- ---- one of them changes

abbrev pub mode_at : List (Option Mode) → ℕ → Option Mode
mode_at ms k = get_or ms k None

pub stripes_of-there : (fs : List FragmentRows) (ms : List (Option Mode)) (k : ℕ) (f : FragmentRows) → slice_get fs k ≡ Some f
    → slice_get (stripes_of fs ms) k ≡ Some (let s : Stripe = record { fragment = f; held = mode_at ms k } in s)
stripes_of-there [] ms k f e = cc
stripes_of-there (x ∷ fs) [] zero f e = ap (λ z. Some (let s : Stripe = record { fragment = z; held = None } in s)) (same_Some _ _ e)
stripes_of-there (x ∷ fs) [] (suc k) f e = stripes_of-there fs [] k f e
stripes_of-there (x ∷ fs) (m ∷ ms) zero f e = ap (λ z. Some (let s : Stripe = record { fragment = z; held = m } in s)) (same_Some _ _ e)
stripes_of-there (x ∷ fs) (m ∷ ms) (suc k) f e = stripes_of-there fs ms k f e

pub stripes_of-set : (fs : List FragmentRows) (ms : List (Option Mode)) (k : ℕ) (f : FragmentRows) → stripes_of (set fs k f) ms ≡ set (stripes_of fs ms) k (record { fragment = f; held = mode_at ms k })
stripes_of-set [] ms k f = refl
stripes_of-set (x ∷ fs) [] zero f = refl
stripes_of-set (x ∷ fs) [] (suc k) f = ap (λ z. (let s : Stripe = record { fragment = x; held = None } in s) ∷ z) (stripes_of-set fs [] k f)
stripes_of-set (x ∷ fs) (m ∷ ms) zero f = refl
stripes_of-set (x ∷ fs) (m ∷ ms) (suc k) f = ap (λ z. (let s : Stripe = record { fragment = x; held = m } in s) ∷ z) (stripes_of-set fs ms k f)

-- a stripe is held otherwise, where there is a place for it
pub stripes_of-held : (fs : List FragmentRows) (ms : List (Option Mode)) (k : ℕ) (f : FragmentRows) (m : Option Mode) → slice_get fs k ≡ Some f → k < length ms
    → stripes_of fs (set ms k m) ≡ set (stripes_of fs ms) k (record { fragment = f; held = m })
stripes_of-held [] ms k f m e l = refl
stripes_of-held (x ∷ fs) [] k f m e l = absurd (let a : k < 0 = l in omega (arith, a))
stripes_of-held (x ∷ fs) (o ∷ ms) zero f m e l = ap (λ z. (let s : Stripe = record { fragment = z; held = m } in s) ∷ stripes_of fs ms) (same_Some _ _ e)
stripes_of-held (x ∷ fs) (o ∷ ms) (suc k) f m e l =
    ap (λ z. (let s : Stripe = record { fragment = x; held = o } in s) ∷ z) (stripes_of-held fs ms k f m e (let a : suc k < suc (length ms) = l in omega (arith, a)))
