-- Laws of a singleton whose entry stands in place: i is its key and its entry, and m what its rows are.
use Rattle.std.specs.Prelude.{◌≡◌, Bool, true, false, cond, nat_eq, Option, None, Some, IsSome, [], ◌∷◌, Result, Ok, Err, IfOk, OnOk}
use Rattle.rc_edges.specs.Imports.{pointwise, option_and_then}
use Rattle.std.specs.FinMap as fin
use Rattle.std.proofs.Common.{refl, sym, ap, subst, ◌∙◌}
use Rattle.std.proofs.lemmas.Bool.{false≢true}
use Rattle.rc_edges.specs.Values.{Values, values_eq}
use Rattle.rc_edges.specs.ValuesLaws.{same_from_test, pointwise_same, test_symmetric}
use Rattle.rc_edges.specs.EdgeMap.{Counted, HasAsMany, Rows, found, present, swept}
use Rattle.rc_edges.specs.Entry.{is_tombstone}
use Rattle.rc_edges.specs.ListMap.{Items, rows_in}
use Rattle.rc_edges.specs.ListMapLaws.{get-whole, get_at, found_at, set_at, swept_out, rows-none}
use Rattle.rc_edges.specs.OneMap.{rows_at}
use Rattle.rc_edges.specs.declared.one_map.Place.{Place}
use Rattle.rc_edges.specs.declared.one_map.Place.TheVariants.{One, Several}

abbrev pub alone : Values × Counted → Items
alone i = i ∷ []

pub in_place : (m : Rows) (place : Place) (one : Option (Values × Counted)) (i : Values × Counted) → rows_at place ≡ m → place ≡ One one
    → one ≡ Some i
    → rows_in (alone i) ≡ m
in_place m place one i is e f = ap rows_at (sym (e ∙ ap One f)) ∙ is

pub no_place : (m : Rows) (place : Place) (one : Option (Values × Counted)) → rows_at place ≡ m → place ≡ One one → one ≡ None
    → rows_in [] ≡ m
no_place m place one is e f = rows-none ∙ ap rows_at (sym (e ∙ ap One f)) ∙ is

pub in_list : (m : Rows) (place : Place) (list : Rows) → rows_at place ≡ m → place ≡ Several list → list ≡ m
in_list m place list is e = ap rows_at (sym e) ∙ is

-- where `==` finds the values seen of the entry's key the same as these
pub is_own : (own key seen : Values) (b : Bool) → seen ≡ own → b ≡ pointwise nat_eq seen key → b ≡ true → key ≡ own
is_own own key seen b s e h =
    sym (same_from_test own key (sym (pointwise_same own key) ∙ ap (λ z. pointwise nat_eq z key) (sym s) ∙ sym e ∙ h))

pub is_other : (own key seen : Values) (b : Bool) → seen ≡ own → b ≡ pointwise nat_eq seen key → b ≡ false → values_eq key own ≡ false
is_other own key seen b s e h = test_symmetric key own ∙ sym (pointwise_same own key) ∙ ap (λ z. pointwise nat_eq z key) (sym s) ∙ sym e ∙ h

module _ (m : Rows) (i : Values × Counted) (is : rows_in (alone i) ≡ m) where
  -- at another key nothing is kept
  pub other_none : (key : Values) → values_eq key i.0 ≡ false → fin.get m key ≡ None
  other_none key n = ap (λ z. fin.get z key) (sym is) ∙ get-whole (alone i) key ∙ ap (λ b. cond b (Some i.1) None) n

  -- a key at which something is kept is the entry's
  own_key : (key : Values) → (fin.get m key ≡ None → ⊥) → key ≡ i.0
  own_key key there = go (values_eq key i.0) refl
    where
      go : (b : Bool) → values_eq key i.0 ≡ b → key ≡ i.0
      go true t = same_from_test key i.0 t
      go false t = absurd (there (other_none key t))

  pub own_there : (key : Values) → IsSome (found m key) → key ≡ i.0
  own_there key h = own_key key (λ e. false≢true (subst (λ o. IsSome (option_and_then present o)) e h))

  pub own_kept : (key extra : Values) → HasAsMany (fin.get m key) extra → key ≡ i.0
  own_kept key extra h = own_key key (λ e. subst (λ o. HasAsMany o extra) e h)

  pub own_get : (key : Values) → key ≡ i.0 → fin.get m key ≡ Some i.1
  own_get key h = get_at m key (alone i) 0 i is h refl

  pub own_found : (key : Values) → key ≡ i.0 → found m key ≡ present i.1
  own_found key h = found_at m key (alone i) 0 i is h refl

  pub set_own : (key : Values) (w : Counted) → key ≡ i.0 → rows_in (alone (i.0, w)) ≡ fin.insert m key w
  set_own key w h = set_at m key (alone i) 0 i w is tt h refl

  -- the entry alone, where its row was taken out, is swept
  pub swept_own : (key : Values) → key ≡ i.0 → is_tombstone i.1 ≡ true → fin.empty ≡ swept m key
  swept_own key h v = sym rows-none ∙ swept_out m key (alone i) 0 i is tt h refl v

-- what follows from what holds at `Ok` holds at `Ok`
pub on_ok : {X Y : Type 0} {P Q : Type 0} (r : Result X Y) → (P → Q) → OnOk r P → OnOk r Q
on_ok (Ok x) f h = f h
on_ok (Err y) f h = h

-- and what follows from what holds of its value holds of its value
pub if_ok : {X Y : Type 0} {P Q : X → Type 0} (r : Result X Y) → ((x : X) → P x → Q x) → IfOk r P → IfOk r Q
if_ok (Ok x) f h = f x h
if_ok (Err y) f h = h
