-- Laws of ordered maps of std from plain numbers and from vectors.
use Rattle.std.specs.Prelude.{◌≡◌, ℕ, Bool, Option, List}
use Rattle.rc_maps.specs.Imports.{is_at, Ordering, eq_by_cmp, nat_cmp, IsStrictlySortedBy, lookup, keys_of, KeepsOthers, Values, values_cmp, written}
use Rattle.std.specs.FinMap as fin
use Rattle.std.proofs.Common.{refl, sym, ap, subst, ◌∙◌}
use Rattle.std.proofs.lemmas.Map.Keys.{IsDistinct-from_sorted}
use Rattle.rc_maps.specs.Keyed.{AreApart, IsKeyed, by_many, by_one}
use Rattle.rc_maps.specs.HashLaws.{VecKey}
use Rattle.rc_maps.specs.TableLaws.{apart_by_values, get-whole, many, one, one_at, one_cmp, sorted_by_values, whole, whole-changed}

abbrev pub is_number : ℕ → ℕ → Bool
is_number n k = is_at (nat_cmp n) k

abbrev pub vec_cmp : VecKey → VecKey → Ordering
vec_cmp x y = values_cmp x.items y.items

abbrev pub is_vec : Values → VecKey → Bool
is_vec key k = is_at (λ (k : VecKey). values_cmp key k.items) k

module _ {X : Type 0} where
  pub found_one : (key : Values) (n : ℕ) (o : Option X) (es : List (ℕ × X)) → key ≡ one n → o ≡ lookup (is_number n) es
      → fin.get (fin.from_entries {R = values_cmp} (by_one es)) key ≡ o
  found_one key n o es e h = ap (fin.get (whole one es)) e ∙ get-whole one (is_number n) (one n) (one_at n) es ∙ sym h

  pub found_many : (key : Values) (o : Option X) (es : List (VecKey × X)) → o ≡ lookup (is_vec key) es
      → fin.get (fin.from_entries {R = values_cmp} (by_many es)) key ≡ o
  found_many key o es h = get-whole many (is_vec key) key (λ k. refl) es ∙ sym h

  pub changed_one : (key : Values) (n : ℕ) (w : Option X) (old new : List (ℕ × X)) → key ≡ one n
      → KeepsOthers (eq_by_cmp nat_cmp) (is_number n) old new → lookup (is_number n) new ≡ w
      → fin.from_entries {R = values_cmp} (by_one new) ≡ written (fin.from_entries (by_one old)) key w
  changed_one key n w old new e keeps here =
      whole-changed one (eq_by_cmp nat_cmp) one_at (one n) (is_number n) (one_at n) w old new keeps here
      ∙ ap (λ z. written (whole one old) z w) (sym e)

  pub changed_many : (key : Values) (w : Option X) (old new : List (VecKey × X)) → KeepsOthers (eq_by_cmp vec_cmp) (is_vec key) old new
      → lookup (is_vec key) new ≡ w
      → fin.from_entries {R = values_cmp} (by_many new) ≡ written (fin.from_entries (by_many old)) key w
  changed_many key w old new keeps here =
      whole-changed many (eq_by_cmp vec_cmp) (λ x y. refl) key (is_vec key) (λ k. refl) w old new keeps here

  pub rising_one : (es : List (ℕ × X)) → IsStrictlySortedBy nat_cmp (keys_of es) → IsKeyed (by_one es)
  rising_one es h =
      sorted_by_values one es (subst (λ (R : ℕ → ℕ → Ordering). IsStrictlySortedBy R (keys_of es)) (λ i x y. sym (one_cmp x y) i) h)

  pub rising_many : (es : List (VecKey × X)) → IsStrictlySortedBy vec_cmp (keys_of es) → IsKeyed (by_many es)
  rising_many es h = sorted_by_values many es h

  pub apart_one : (es : List (ℕ × X)) → IsStrictlySortedBy nat_cmp (keys_of es) → AreApart (by_one es)
  apart_one es h = apart_by_values one (eq_by_cmp nat_cmp) one_at es (IsDistinct-from_sorted nat_cmp (keys_of es) h)

  pub apart_many : (es : List (VecKey × X)) → IsStrictlySortedBy vec_cmp (keys_of es) → AreApart (by_many es)
  apart_many es h = apart_by_values many (eq_by_cmp vec_cmp) (λ x y. refl) es (IsDistinct-from_sorted vec_cmp (keys_of es) h)
