-- Laws of lists of values in their order.
use Rattle.std.specs.Prelude.{◌≡◌, Bool, true, false, nat_eq}
use Rattle.rc_edges.specs.Imports.{pointwise, pointwise_decides, is_eq, tied_itself, IsOrder, is_eq_equal, number_lists_order}
use Rattle.std.proofs.Common.{refl, sym, ap, ◌∙◌}
use Rattle.std.proofs.lemmas.Bool.{false≢true}
use Rattle.std.proofs.lemmas.Bool.Decides.{same_from_decides, Decides-eqb}
use Rattle.rc_edges.specs.Values.{Values, values_cmp, values_eq}

pub values_order : IsOrder values_cmp
values_order = number_lists_order

pub same_from_test : (x y : Values) → values_eq x y ≡ true → x ≡ y
same_from_test x y e = values_order.ties x y (is_eq_equal (values_cmp x y) e)

pub test_from_same : (x y : Values) → x ≡ y → values_eq x y ≡ true
test_from_same x y e = ap (λ z. values_eq x z) (sym e) ∙ ap is_eq (tied_itself values_order.total x)

-- `==` on slices is the same test
pub pointwise_same : (x y : Values) → pointwise nat_eq x y ≡ values_eq x y
pointwise_same x y = same_from_decides (pointwise nat_eq x y) (values_eq x y) (pointwise_decides Decides-eqb x y) (same_from_test x y, test_from_same x y)

pub test_symmetric : (x y : Values) → values_eq x y ≡ values_eq y x
test_symmetric x y = go (values_eq x y) refl (values_eq y x) refl
  where
    go : (a : Bool) → values_eq x y ≡ a → (b : Bool) → values_eq y x ≡ b → a ≡ b
    go true e true f = refl
    go true e false f = absurd (false≢true (sym f ∙ test_from_same y x (sym (same_from_test x y e))))
    go false e true f = absurd (false≢true (sym e ∙ test_from_same x y (sym (same_from_test y x f))))
    go false e false f = refl
