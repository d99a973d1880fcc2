-- Giving a stripe back whose changes are taken back first.
use Rattle.std.proofs.Common.{◌≡◌, ℕ, ◌<◌, ◌==◌, Bool, true, false, List, [], ◌∷◌, not, cond, sym, refl, ap, ◌∙◌, subst}
use Rattle.rc_row.proofs.Imports.{eq-eqb, All-nil, All-cons, All-map, All-weaker, In, map_in, Mode, edge_table, FragmentRows, rolled_back, IsAtRest, Hold, hold, held_in, stripes_in, stripes_have, HeldRows, IsPassOf, OfHeld, PassSeen, RowSeen, core_of, held_with, held_without, holds_taken, spec_of, stripes_of, with_fragment, with_held, without_stripe, IsHeldSo}

-- without the stripe, what its fragment was is of no matter
without_with : (p : ℕ) (change : FragmentRows → FragmentRows) (held : List HeldRows) → held_without (held_with p change held) p ≡ held_without held p
without_with p change [] = refl
without_with p change (h ∷ held) = go (h.stripe == p) (without_with p change held)
  where
    go : (b : Bool) → held_without (held_with p change held) p ≡ held_without held p
        → cond (not b) (record h { fragment = cond b (change h.fragment) h.fragment } ∷ held_without (held_with p change held) p) (held_without (held_with p change held) p)
        ≡ cond (not b) (h ∷ held_without held p) (held_without held p)
    go true same = same
    go false same = ap (λ (hs : List HeldRows). h ∷ hs) same

-- what is taken back is at rest
rest_back : (p : ℕ) (held : List HeldRows) → OfHeld (held_with p rolled_back held) p IsAtRest
rest_back p [] = All-nil (λ (h : HeldRows). h.stripe ≡ p → IsAtRest h.fragment)
rest_back p (h ∷ held) = All-cons (λ (x : HeldRows). x.stripe ≡ p → IsAtRest x.fragment) (record h { fragment = cond (h.stripe == p) (rolled_back h.fragment) h.fragment }) (held_with p rolled_back held)
    (λ e. subst (λ (b : Bool). IsAtRest (cond b (rolled_back h.fragment) h.fragment)) (sym (eq-eqb h.stripe p e)) (record { taken = refl; changes = refl })) (rest_back p held)

same_table : (b : Bool) (f : FragmentRows) → (cond b (rolled_back f) f).table ≡ f.table
same_table true f = refl
same_table false f = refl

-- a pass after the changes of a stripe are taken back
module _ (row : RowSeen) (pass new : PassSeen) (p : ℕ) (is : new ≡ with_held p rolled_back pass) where
  pub rest_there : OfHeld new.held p IsAtRest
  rest_there = subst (λ (s : PassSeen). OfHeld s.held p IsAtRest) (sym is) (rest_back p pass.held)

  pub without_there : without_stripe p new ≡ without_stripe p pass
  without_there = ap (without_stripe p) is ∙ (λ i. record (without_stripe p pass) { held = without_with p rolled_back pass.held i })

  pub of_row_there : IsPassOf row pass → IsPassOf row new
  of_row_there of = subst (IsPassOf row) (sym is) (record {
    table = of.table;
    inside = All-map (λ (h : HeldRows). h.stripe < stripes_of row) (with_fragment back) pass.held of.inside;
    shapes = All-map (λ (h : HeldRows). h.fragment.table ≡ edge_table (spec_of row)) (with_fragment back) pass.held
        (All-weaker (λ (h : HeldRows). h.fragment.table ≡ edge_table (spec_of row)) (λ (h : HeldRows). (back h).table ≡ edge_table (spec_of row)) (λ h e. same_table (h.stripe == p) h.fragment ∙ e) pass.held of.shapes);
    keeps = of.keeps;
  })
    where
      back : HeldRows → FragmentRows
      back h = cond (h.stripe == p) (rolled_back h.fragment) h.fragment

  pub held_there : (q : ℕ) (mode : Mode) → In q (stripes_in (held_in mode (core_of pass).held)) → In q (stripes_in (held_in mode (core_of new).held))
  held_there q mode m = subst (λ (s : PassSeen). In q (stripes_in (held_in mode (core_of s).held))) (sym is) m

-- the core has a held stripe
pub stripe_held : (held : List HeldRows) (holds : List Hold) (p : ℕ) (mode : Mode) → IsHeldSo held p mode → holds_taken held ≡ holds → In p (stripes_in holds)
stripe_held held holds p mode h is =
    subst (λ (hs : List Hold). In p (stripes_in hs)) is
    (subst (λ (q : ℕ). In q (stripes_in (holds_taken held))) h.stripe_is
    (stripes_have (hold h.here.stripe h.here.mode h.here.fragment.taken) (holds_taken held) (map_in (λ (x : HeldRows). hold x.stripe x.mode x.fragment.taken) h.here held h.among)))
