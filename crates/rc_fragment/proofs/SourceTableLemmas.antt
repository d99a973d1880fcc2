-- What the place of the source without columns is as a map.
use Rattle.std.specs.Prelude.{◌≡◌, ◌==◌, ℕ, Bool, true, false, cond, Option, None, Some, List, [], ◌∷◌, ◌++◌, length, map}
use Rattle.std.specs.List.{IsDistinct}
use Rattle.rc_fragment.proofs.Imports.{OnSome, option_map, get-empty, eqb-true, nil_from_length, none-some, Values, values_cmp, values_eq, written, get-written, written_again, written_twice, AreApart, pair_of, Keyed, Container, containers_of, width_for, AreSeenAlike, seen_container, Root}
use Rattle.std.specs.FinMap as fin
use Rattle.std.proofs.Common.{refl, sym, ap, subst, ◌∙◌}
use Rattle.rc_edges.specs.ValuesLaws.{same_from_test, test_from_same}

-- ---- widths

-- only sources without columns have none
pub no_width : (n : ℕ) → None ≡ width_for n → n ≡ 0
no_width n h = go (n == 0) refl h
  where
    go : (b : Bool) → (n == 0) ≡ b → None ≡ cond b None (Some (n == 1)) → n ≡ 0
    go true t q = eqb-true n 0 t
    go false t q = absurd (none-some _ q)

-- ---- the place

module _ (place : Option Container) (source : Values) where
  pub root-here : length source ≡ 0 → fin.get (containers_of (Root place)) source ≡ place
  root-here h =
      let e : source ≡ [] = nil_from_length source h in
      get-written (fin.empty {X = Container}) [] place source ∙ ap (λ b. cond b place (fin.get (fin.empty {X = Container} {R = values_cmp}) source)) (test_from_same source [] e)

  pub root-other : (length source ≡ 0 → ⊥) → fin.get (containers_of (Root place)) source ≡ None
  root-other h = get-written (fin.empty {X = Container}) [] place source ∙ go (values_eq source []) refl
    where
      go : (b : Bool) → values_eq source [] ≡ b → cond b place (fin.get (fin.empty {X = Container} {R = values_cmp}) source) ≡ None
      go true t = absurd (h (ap length (same_from_test source [] t)))
      go false t = get-empty values_cmp source

  pub root-changed : (new : Option Container) → length source ≡ 0 → containers_of (Root new) ≡ written (containers_of (Root place)) source new
  root-changed new h =
      let e : source ≡ [] = nil_from_length source h in
      sym (ap (λ z. written (containers_of (Root place)) z new) e ∙ written_twice fin.empty [] place new)

  pub root-without : (length source ≡ 0 → ⊥) → containers_of (Root place) ≡ written (containers_of (Root place)) source None
  root-without h = sym (written_again (containers_of (Root place)) source None (root-other h))

-- no container at the source without columns
pub root-empty : containers_of (Root None) ≡ fin.empty
root-empty = written_again fin.empty [] None (get-empty values_cmp [])

-- what holds whether or not there is a value, holds where there is one
pub on_some_any : {X Q : Type 0} (r : Option X) → Q → OnSome r Q
on_some_any None q = tt
on_some_any (Some x) q = q

-- a place that is seen as the one before is
pub root-alike : (old new : Option Container) → option_map seen_container new ≡ option_map seen_container old → AreSeenAlike (containers_of (Root old)) (containers_of (Root new))
root-alike old new same s =
    ap (option_map seen_container) (get-written (fin.empty {X = Container}) [] new s)
    ∙ go (values_eq s [])
    ∙ sym (ap (option_map seen_container) (get-written (fin.empty {X = Container}) [] old s))
  where
    rest : Option Container
    rest = fin.get (fin.empty {X = Container} {R = values_cmp}) s

    go : (b : Bool) → option_map seen_container (cond b new rest) ≡ option_map seen_container (cond b old rest)
    go true = same
    go false = refl

-- ---- a list of the containers with their sources

-- of none
module _ (items : List (Keyed Container)) (none : items ≡ []) where
  pub none-apart : AreApart (map pair_of items)
  unfolding IsDistinct
  none-apart = subst (λ ks. AreApart (map pair_of ks)) (sym none) tt

  pub none-entries : fin.from_entries (map pair_of items) ≡ containers_of (Root None)
  none-entries = ap (λ ks. fin.from_entries (map pair_of ks)) none ∙ sym root-empty

-- of one, pushed upon none
module _ (items old : List (Keyed Container)) (k : Keyed Container) (pushed : items ≡ old ++ k ∷ []) (none : old ≡ []) where
  one : items ≡ k ∷ []
  one = pushed ∙ ap (λ ks. ks ++ k ∷ []) none

  pub one-apart : AreApart (map pair_of items)
  unfolding IsDistinct
  one-apart = subst (λ ks. AreApart (map pair_of ks)) (sym one) (tt, tt)

  pub one-entries : k.key.now ≡ [] → fin.from_entries (map pair_of items) ≡ containers_of (Root (Some k.value.now))
  one-entries root = ap (λ ks. fin.from_entries (map pair_of ks)) one ∙ ap (λ source. written fin.empty source (Some k.value.now)) root
