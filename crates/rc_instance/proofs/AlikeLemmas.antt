-- Lists that are alike, one by one.
use Rattle.std.specs.Prelude.{◌≡◌, ℕ, zero, suc, List, [], ◌∷◌, ◌++◌, Option, None, Some, length}
use Rattle.rc_instance.proofs.Imports.{AllZip, slice_get, take_all, drop_all, In, FragmentRows, settled, table_of_fragments}
use Rattle.std.proofs.Common.{inl, inr, refl, sym, ap, subst, ◌∙◌, arith, take, drop, append-nil}

-- a list written back in place of one as long
pub written : {A : Type 0} (n : ℕ) (new items : List A) → n ≡ length items → length new ≡ length items → take n (new ++ drop (length new) items) ≡ new
written n new items a b =
    let none : drop (length new) items ≡ [] = drop_all (length new) items (omega (arith, b)) in
    ap (λ z. take n (new ++ z)) none ∙ ap (take n) (append-nil new) ∙ take_all n new (omega (arith, a, b))

-- ---- what alike lists have

pub alike_at : {A B : Type 0} (R : A → B → Type 0) (P : Option A → Option B → Type 0) → P None None → ((x : A) (y : B) → R x y → P (Some x) (Some y))
    → (xs : List A) (ys : List B) → AllZip R xs ys → (n : ℕ) → P (slice_get xs n) (slice_get ys n)
alike_at R P none some [] [] a n = none
alike_at R P none some [] (y ∷ ys) a n = absurd a
alike_at R P none some (x ∷ xs) [] a n = absurd a
alike_at R P none some (x ∷ xs) (y ∷ ys) a zero = some x y a.0
alike_at R P none some (x ∷ xs) (y ∷ ys) a (suc n) = alike_at R P none some xs ys a.1 n

pub alike_in : {A B : Type 0} (R : A → B → Type 0) (xs : List A) (ys : List B) → AllZip R xs ys → (y : B) → In y ys → (x : A) × In x xs × R x y
alike_in R [] [] a y m = absurd m
alike_in R [] (z ∷ ys) a y m = absurd a
alike_in R (x ∷ xs) [] a y m = absurd a
alike_in R (x ∷ xs) (z ∷ ys) a y (inl p) = (x, inl refl, subst (R x) (sym p) a.0)
alike_in R (x ∷ xs) (z ∷ ys) a y (inr m) = let w = alike_in R xs ys a.1 y m in (w.0, inr w.1, w.2)

-- the same fragment, whose rows now count as taken
abbrev pub IsSettled : FragmentRows → FragmentRows → Type 0
IsSettled old new = new ≡ settled old

-- all fragments have one edge table
abbrev pub OfOneTable : List FragmentRows → Type 0
OfOneTable fs = (f : FragmentRows) → In f fs → f.table ≡ table_of_fragments fs

-- fragments that keep their tables
module _ (R : FragmentRows → FragmentRows → Type 0) (kept : (f g : FragmentRows) → R f g → g.table ≡ f.table) where
  pub alike_table : (old new : List FragmentRows) → AllZip R old new → table_of_fragments new ≡ table_of_fragments old
  alike_table [] [] a = refl
  alike_table [] (g ∷ gs) a = absurd a
  alike_table (f ∷ fs) [] a = absurd a
  alike_table (f ∷ fs) (g ∷ gs) a = kept f g a.0

  pub alike_one_table : (old new : List FragmentRows) → AllZip R old new → OfOneTable old → OfOneTable new
  alike_one_table old new a one g m =
      let w : (f : FragmentRows) × In f old × R f g = alike_in R old new a g m in
      kept w.0 g w.2 ∙ one w.0 w.1 ∙ sym (alike_table old new a)
