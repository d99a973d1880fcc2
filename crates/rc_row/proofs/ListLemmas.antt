-- What stands at a place of a list after it was set, and what is true of all elements.
use Rattle.std.proofs.Common.{◌≡◌, ℕ, zero, suc, List, [], ◌∷◌, ◌++◌, length, set, take, drop, Some, ap, refl, sym, subst, arith, length-append}
use Rattle.rc_row.proofs.Imports.{All, slice_get, All-append, get_or_from_slice_get, get_or-append_seam, get_or_append_left, at_below}
use mathlib.Core.Option.{some, some-ne-none}
use lib.ListN.{get_elem?}

module _ {A : Type 0} where
  pub set_there : (l : List A) (i : ℕ) (a b : A) → get_elem? l i ≡ some b → get_elem? (set l i a) i ≡ some a
  set_there [] i a b e = absurd (some-ne-none b (sym e))
  set_there (x ∷ xs) zero a b e = refl
  set_there (x ∷ xs) (suc i) a b e = set_there xs i a b e

  pub all_before : (P : A → Type 0) (xs : List A) (x : A) → All P (xs ++ x ∷ []) → All P xs
  all_before P xs x h k d lt = subst P (get_or_append_left xs (x ∷ []) d k lt) (h k d (let n = length-append xs (x ∷ []) in omega arith))

  pub all_last : (P : A → Type 0) (xs : List A) (x : A) → All P (xs ++ x ∷ []) → P x
  all_last P xs x h = subst P (get_or-append_seam xs x [] x) (h (length xs) x (let n = length-append xs (x ∷ []) in omega arith))

  all_one : (P : A → Type 0) (x : A) → P x → All P (x ∷ [])
  all_one P x h zero d lt = h
  all_one P x h (suc k) d lt = absurd (omega arith)

  pub all_end : (P : A → Type 0) (xs : List A) (x : A) → All P xs → P x → All P (xs ++ x ∷ [])
  all_end P xs x h last = All-append P xs (x ∷ []) h (all_one P x last)

  pub all_at : (P : A → Type 0) (xs : List A) (k : ℕ) (x : A) → All P xs → slice_get xs k ≡ Some x → P x
  all_at P xs k x h e = subst P (get_or_from_slice_get xs k x x e) (h k x (at_below xs k x e))

  pub get_before : (xs ys : List A) (k : ℕ) (x : A) → slice_get xs k ≡ Some x → slice_get (xs ++ ys) k ≡ Some x
  get_before [] ys k x e = cc
  get_before (y ∷ xs) ys zero x e = e
  get_before (y ∷ xs) ys (suc k) x e = get_before xs ys k x e

  pub get_last : (xs : List A) (x : A) → slice_get (xs ++ x ∷ []) (length xs) ≡ Some x
  get_last [] x = refl
  get_last (y ∷ xs) x = get_last xs x

  pub take_whole : (xs : List A) (n : ℕ) → length (drop n xs) ≡ 0 → take n xs ≡ xs
  take_whole [] zero e = refl
  take_whole [] (suc n) e = refl
  take_whole (x ∷ xs) zero e = absurd (omega arith)
  take_whole (x ∷ xs) (suc n) e = ap (λ l. x ∷ l) (take_whole xs n e)
