-- Giving stripes back one after another.
use Rattle.rc_row.proofs.Imports.{All, eq-eqb, All-contains, All-filter, In, in_contains, map_in, Mode, IsAtRest, Hold, hold, held_in, stripes_in, stripes_in_have, HeldRows, AreAtRest, held_without, holds_taken, IsHeldSo}
use Rattle.std.proofs.Common.{◌≡◌, ℕ, suc, ◌<◌, ◌≤◌, ◌==◌, Bool, true, false, List, [], ◌∷◌, length, not, cond, sym, ap, ◌∙◌, subst, inl, inr, arith}

-- the core has the stripe in that mode
pub held_so : (held : List HeldRows) (holds : List Hold) (p : ℕ) (mode : Mode) → IsHeldSo held p mode → holds_taken held ≡ holds → In p (stripes_in (held_in mode holds))
held_so held holds p mode h is =
    subst (λ (hs : List Hold). In p (stripes_in (held_in mode hs))) is
    (subst (λ (q : ℕ). In q (stripes_in (held_in mode (holds_taken held)))) h.stripe_is
    (stripes_in_have mode (hold h.here.stripe h.here.mode h.here.fragment.taken) (holds_taken held) (map_in (λ (x : HeldRows). hold x.stripe x.mode x.fragment.taken) h.here held h.among) h.mode_is))

pub rest_without : (held now : List HeldRows) (p : ℕ) → now ≡ held_without held p → AreAtRest held → AreAtRest now
rest_without held now p e rest = subst AreAtRest (sym e) (All-filter (λ (h : HeldRows). not (h.stripe == p)) (λ (h : HeldRows). IsAtRest h.fragment) held rest)

no_more : (held : List HeldRows) (p : ℕ) → length (held_without held p) ≤ length held
no_more [] p = omega arith
no_more (h ∷ held) p = go (no_more held p) (not (h.stripe == p))
  where
    go : length (held_without held p) ≤ length held → (b : Bool) → length (cond b (h ∷ held_without held p) (held_without held p)) ≤ suc (length held)
    go few true = omega arith
    go few false = omega arith

fewer_without : (held : List HeldRows) (p : ℕ) (here : HeldRows) → In here held → here.stripe ≡ p → length (held_without held p) < length held
fewer_without [] p here m e = absurd m
fewer_without (h ∷ held) p here (inl same) e =
    let few = no_more held p in
    let there : h.stripe ≡ p = ap (λ (x : HeldRows). x.stripe) (sym same) ∙ e in
    let gone = ap (λ (b : Bool). length (cond (not b) (h ∷ held_without held p) (held_without held p))) (eq-eqb h.stripe p there) in
    omega arith
fewer_without (h ∷ held) p here (inr m) e = go (fewer_without held p here m e) (not (h.stripe == p))
  where
    go : length (held_without held p) < length held → (b : Bool) → length (cond b (h ∷ held_without held p) (held_without held p)) < suc (length held)
    go few true = omega arith
    go few false = omega arith

pub fewer_left : (held now : List HeldRows) (p : ℕ) (mode : Mode) → now ≡ held_without held p → IsHeldSo held p mode → length now < length held
fewer_left held now p mode e h = let few = fewer_without held p h.here h.among h.stripe_is in let same = ap (λ (hs : List HeldRows). length hs) e in omega arith

-- a held stripe is one of the row's
pub inside_so : (stripes : ℕ) (held : List HeldRows) (p : ℕ) (mode : Mode) → All (λ (h : HeldRows). h.stripe < stripes) held → IsHeldSo held p mode → p < stripes
inside_so stripes held p mode inside so = subst (λ q. q < stripes) so.stripe_is (All-contains (λ (h : HeldRows). h.stripe < stripes) held so.here inside (in_contains so.here held so.among))
