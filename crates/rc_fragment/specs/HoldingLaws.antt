-- What calls leave of the stripes that a holder tells, and one call after another.
use Rattle.std.specs.Prelude.{◌≡◌, ℕ, ◌-◌, ◌==◌, ◌++◌, Bool, true, false, cond, IsSome, List, [], ◌∷◌, map}
use Rattle.std.proofs.Common.{refl, sym, ap, subst, ◌∙◌, inl, inr, arith}
use Rattle.rc_fragment.specs.Imports.{Pairs, EdgeRow, Mode}
use Rattle.rc_fragment.specs.Holder.{AreRefusedAfter, GoesOn, HasRisen, HasTaken, HeldStripe, Holding, IsPartlyAddedAt, LentStripe, all_reverted, changed_at, held_of, just_taken, lent_reverted, reverted, with_changes, with_changes_at, with_now, with_room, with_room_at}

-- ---- the stripes held after a call

-- what is done to each lent stripe is done to each held one
held-each : (f : LentStripe → LentStripe) (g : HeldStripe → HeldStripe) → ((l : LentStripe) → (f l).held ≡ g l.held)
    → (ls : List LentStripe) → map (λ (l : LentStripe). l.held) (map f ls) ≡ map g (map (λ (l : LentStripe). l.held) ls)
held-each f g same [] = refl
held-each f g same (l ∷ ls) = λ i. same l i ∷ held-each f g same ls i

pub held-room : (stripe changes : ℕ) (s : Holding) → held_of (with_room_at stripe changes s) ≡ held_of s
held-room stripe changes s = go s.lent
  where
    go : (ls : List LentStripe) → map (λ (l : LentStripe). l.held) (map (with_room stripe changes) ls) ≡ map (λ (l : LentStripe). l.held) ls
    go [] = refl
    go (l ∷ ls) = λ i. l.held ∷ go ls i

pub held-change : (stripe n : ℕ) (change : List EdgeRow → List EdgeRow) (s : Holding) → held_of (with_changes_at stripe n change s) ≡ changed_at stripe change (held_of s)
held-change stripe n change s = held-each (with_changes stripe n change) (with_now stripe change) (λ l. refl) s.lent

pub held-reverted : (s : Holding) → held_of (all_reverted s) ≡ map reverted (held_of s)
held-reverted s = held-each lent_reverted reverted (λ l. refl) s.lent

held-append : (xs ys : List LentStripe) → map (λ (l : LentStripe). l.held) (xs ++ ys) ≡ map (λ (l : LentStripe). l.held) xs ++ map (λ (l : LentStripe). l.held) ys
held-append [] ys = refl
held-append (x ∷ xs) ys = λ i. x.held ∷ held-append xs ys i

pub held-taken : (old new : Holding) (stripe : ℕ) (mode : Mode) → (t : HasTaken old new stripe mode) → held_of new ≡ held_of old ++ just_taken stripe mode t.rows ∷ []
held-taken old new stripe mode t =
    ap (map (λ (l : LentStripe). l.held)) t.lent ∙ held-append old.lent (record { held = just_taken stripe mode t.rows; room = t.room } ∷ [])

-- after some changes of the rows of the stripe, whichever they are
abbrev pub IsChangedAt : ℕ → Holding → Holding → Type 0
IsChangedAt stripe old new = (n : ℕ) × (change : List EdgeRow → List EdgeRow) × (new ≡ with_changes_at stripe n change old)

pub partly_changed : (stripe class : ℕ) (t : Pairs) (old new : Holding) → IsPartlyAddedAt stripe class t old new → IsChangedAt stripe old new
partly_changed stripe class t old new p = (p.changes, p.change, p.value)

-- ---- one call after another

pub risen_again : (a b c : ℕ) → HasRisen a b → HasRisen b c → HasRisen a c
risen_again a b c (inl p) (inl q) = inl (omega arith)
risen_again a b c (inl p) (inr q) = inl (let e : c ≡ b = q.0 in omega arith)
risen_again a b c (inr p) (inl q) = inl (let e : b ≡ a = p.0 in omega arith)
risen_again a b c (inr p) (inr q) = inr (q.0 ∙ p.0, q.1)

-- no call, and one after another
pub goes_on_same : (s : Holding) → GoesOn s s
goes_on_same s = record { table = refl; lends = refl; offered = refl; through = refl; refused = inl (refl, refl) }

pub goes_on_again : (a b c : Holding) → GoesOn a b → GoesOn b c → GoesOn a c
goes_on_again a b c p q = record {
  table = q.table ∙ p.table;
  lends = q.lends ∙ p.lends;
  offered = q.offered ∙ p.offered;
  through = q.through ∙ p.through;
  refused = go p.refused q.refused;
}
  where
    go : AreRefusedAfter a b → AreRefusedAfter b c → AreRefusedAfter a c
    go (inl x) (inl y) = inl (y.0 ∙ x.0, y.1 ∙ x.1)
    go (inl x) (inr y) = inr (subst (λ n. HasRisen n c.refusals) x.0 y.0, y.1)
    go (inr x) (inl y) = inr (subst (λ n. HasRisen a.refusals n) (sym y.0) x.0, subst IsSome (sym y.1) x.1)
    go (inr x) (inr y) = inr (risen_again a.refusals b.refusals c.refusals x.0 y.0, y.1)

-- ---- no change at all

pub none_at : (stripe : ℕ) (s : Holding) → s ≡ with_changes_at stripe 0 (λ rows. rows) s
none_at stripe s = ap (λ lent. record s { lent = lent }) (each s.lent)
  where
    one : (l : LentStripe) → l ≡ with_changes stripe 0 (λ rows. rows) l
    one l = go (l.held.stripe == stripe)
      where
        go : (b : Bool) → l ≡ record { held = cond b (record { stripe = l.held.stripe; mode = l.held.mode; now = l.held.now; taken = l.held.taken }) l.held; room = cond b (l.room - 0) l.room }
        go true = let z : l.room ≡ l.room - 0 = omega arith in λ i. record { held = l.held; room = z i }
        go false = refl

    each : (ls : List LentStripe) → ls ≡ map (with_changes stripe 0 (λ rows. rows)) ls
    each [] = refl
    each (l ∷ ls) = λ i. one l i ∷ each ls i

-- it is one of some of a tuple's rows
pub none_partly : (stripe class : ℕ) (t : Pairs) (s : Holding) → IsPartlyAddedAt stripe class t s s
none_partly stripe class t s = record {
  changes = 0;
  few = omega arith;
  change = λ rows. rows;
  added = λ h m at. record { some = λ e row is. inl refl; others = λ e row out. refl };
  value = none_at stripe s;
}
