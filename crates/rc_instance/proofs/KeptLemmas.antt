-- The fragments of an instance none of whose stripes is held.
use Rattle.std.proofs.Common.{◌≡◌, ℕ, suc, List, [], ◌∷◌, length, map, Option, Some, None, refl, ap, inl, inr}
use Rattle.rc_instance.proofs.Imports.{AllByRecursion, In, Mode, FragmentRows, IsAtRest, KeptRows, kept_rows, Stripe, held_from, kept_stripe, stripes_of}

-- no change of any of them is pending
pub free_at_rest : (n : ℕ) (fs : List FragmentRows) (ms : List (Option Mode)) → held_from n (stripes_of fs ms) ≡ []
    → ((s : Stripe) → In s (stripes_of fs ms) → s.held ≡ None → IsAtRest s.fragment) → AllByRecursion IsAtRest fs
free_at_rest n [] ms none rest = tt
free_at_rest n (f ∷ fs) [] none rest = (rest (record { fragment = f; held = None }) (inl refl) refl, free_at_rest (suc n) fs [] none (λ s m. rest s (inr m)))
free_at_rest n (f ∷ fs) (None ∷ ms) none rest = (rest (record { fragment = f; held = None }) (inl refl) refl, free_at_rest (suc n) fs ms none (λ s m. rest s (inr m)))
free_at_rest n (f ∷ fs) (Some m ∷ ms) none rest = cc

pub many_fragments : (fs : List FragmentRows) (ms : List (Option Mode)) → length (stripes_of fs ms) ≡ length fs
many_fragments [] ms = refl
many_fragments (f ∷ fs) [] = ap suc (many_fragments fs [])
many_fragments (f ∷ fs) (m ∷ ms) = ap suc (many_fragments fs ms)

pub fragments_kept : (fs : List FragmentRows) (ms : List (Option Mode)) → map kept_rows fs ≡ map (λ (s : Stripe). kept_rows s.fragment) (stripes_of fs ms)
fragments_kept [] ms = refl
fragments_kept (f ∷ fs) [] = ap (λ l. kept_rows f ∷ l) (fragments_kept fs [])
fragments_kept (f ∷ fs) (m ∷ ms) = ap (λ l. kept_rows f ∷ l) (fragments_kept fs ms)

pub kept_again : (kept : List KeptRows) → map (λ (s : Stripe). kept_rows s.fragment) (map kept_stripe kept) ≡ kept
kept_again [] = refl
kept_again (k ∷ kept) = ap (λ l. k ∷ l) (kept_again kept)
