-- Laws of hash maps of std from plain numbers and from vectors.
use Rattle.std.specs.Prelude.{◌≡◌, ℕ, Bool, nat_eq, Option, List}
use Rattle.rc_maps.specs.Imports.{pointwise, IsDistinct, lookup, keys_of, KeepsOthers, Values, values_cmp, pointwise_same, written}
use Rattle.std.specs.FinMap as fin
use Rattle.std.proofs.Common.{Vec, Global, sym, ap, ◌∙◌}
use Rattle.rc_maps.specs.Keyed.{AreApart, by_many, by_one}
use Rattle.rc_maps.specs.TableLaws.{apart_by_values, get-whole, many, one, one_eq, whole, whole-changed}

abbrev pub VecKey : Type 0
VecKey = Vec ℕ Global

-- `==` on vectors, and on a slice and a vector
abbrev pub vec_eq : VecKey → VecKey → Bool
vec_eq x y = pointwise nat_eq x.items y.items

abbrev pub is_vec : Values → VecKey → Bool
is_vec key y = pointwise nat_eq key y.items

module _ {X : Type 0} where
  pub found_one : (key : Values) (n : ℕ) (o : Option X) (es : List (ℕ × X)) → key ≡ one n → o ≡ lookup (nat_eq n) es
      → fin.get (fin.from_entries {R = values_cmp} (by_one es)) key ≡ o
  found_one key n o es e h = ap (fin.get (whole one es)) e ∙ get-whole one (nat_eq n) (one n) (one_eq n) es ∙ sym h

  pub found_many : (key : Values) (o : Option X) (es : List (VecKey × X)) → o ≡ lookup (is_vec key) es
      → fin.get (fin.from_entries {R = values_cmp} (by_many es)) key ≡ o
  found_many key o es h = get-whole many (is_vec key) key (λ k. pointwise_same key k.items) es ∙ sym h

  pub changed_one : (key : Values) (n : ℕ) (w : Option X) (old new : List (ℕ × X)) → key ≡ one n → KeepsOthers nat_eq (nat_eq n) old new
      → lookup (nat_eq n) new ≡ w
      → fin.from_entries {R = values_cmp} (by_one new) ≡ written (fin.from_entries (by_one old)) key w
  changed_one key n w old new e keeps here =
      whole-changed one nat_eq one_eq (one n) (nat_eq n) (one_eq n) w old new keeps here ∙ ap (λ z. written (whole one old) z w) (sym e)

  pub changed_many : (key : Values) (w : Option X) (old new : List (VecKey × X)) → KeepsOthers vec_eq (is_vec key) old new
      → lookup (is_vec key) new ≡ w
      → fin.from_entries {R = values_cmp} (by_many new) ≡ written (fin.from_entries (by_many old)) key w
  changed_many key w old new keeps here =
      whole-changed many vec_eq (λ x y. pointwise_same x.items y.items) key (is_vec key) (λ k. pointwise_same key k.items) w old new keeps here

  pub apart_one : (es : List (ℕ × X)) → IsDistinct nat_eq (keys_of es) → AreApart (by_one es)
  apart_one es h = apart_by_values one nat_eq one_eq es h

  pub apart_many : (es : List (VecKey × X)) → IsDistinct vec_eq (keys_of es) → AreApart (by_many es)
  apart_many es h = apart_by_values many vec_eq (λ x y. pointwise_same x.items y.items) es h
