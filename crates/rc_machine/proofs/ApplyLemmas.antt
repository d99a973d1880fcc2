-- Rows that are changed on held stripes.
use Rattle.std.specs.Prelude.{◌≡◌, ℕ, suc, pred, ◌<◌, ◌^◌, ◌==◌, Bool, true, false, List, [], ◌∷◌, cond, length}
use Rattle.std.proofs.Common.{inl, inr, refl, sym, ap, subst, ◌∙◌, arith}
use Rattle.rc_machine.proofs.Imports.{and_parts, eqb-true, In, in_map, map_in, in_range_bounds, rising_range, Pairs, cols_of, tuple_eq, cols-project, Spec, IsSealed, all_columns, target_within, count_at, is_row_at, lowered, raised, row_in, with_count, in_with_count, with_count_old, bound, edge_at, EdgeRow, edge_numbers, IsThere, edge_table, HeldStripe, IsHeldExclusive, changed_at, with_now, IsAddable, all_changed, stripe_in}
use Rattle.rc_machine.proofs.ReadLemmas.{target_rises}

-- ---- the columns of a row

-- a whole tuple's row has the columns of the edge's target
pub cols_of-row_in : (spec : Spec) → IsSealed spec → (t : Pairs) → cols_of t ≡ all_columns spec → (e : ℕ) → e < length spec.edges → cols_of (row_in spec t e) ≡ bound spec (edge_at spec e).to
cols_of-row_in spec sealed t over e l =
    cols-project (all_columns spec) (bound spec (edge_at spec e).to) t (rising_range 0 (length spec.columns)) (target_rises spec sealed e l) (target_within spec sealed.in_range e l) over

-- ---- counts

pub small_count : (e : ℕ) (u : Pairs) (ws : List EdgeRow) → ((w : EdgeRow) → In w ws → w.0 ≡ e → w.2 < 2 ^ 63) → count_at e u ws < 2 ^ 63
small_count e u [] f = omega arith
small_count e u (w ∷ ws) f = go (is_row_at e u w) refl (small_count e u ws (λ v m. f v (inr m)))
  where
    go : (b : Bool) → is_row_at e u w ≡ b → count_at e u ws < 2 ^ 63 → cond b w.2 (count_at e u ws) < 2 ^ 63
    go true q h = f w (inl refl) (eqb-true w.0 e (and_parts (w.0 == e) (tuple_eq w.1 u) q).0)
    go false q h = h

-- ---- a changed row leaves the rows of other edges

not_same : (e : ℕ) (row : Pairs) (v : EdgeRow) → (v.0 ≡ e → ⊥) → is_row_at e row v ≡ false
not_same e row v n = go (is_row_at e row v) refl
  where
    go : (b : Bool) → is_row_at e row v ≡ b → b ≡ false
    go true q = absurd (n (eqb-true v.0 e (and_parts (v.0 == e) (tuple_eq v.1 row) q).0))
    go false q = refl

in_other : (e : ℕ) (row : Pairs) (n : ℕ) (ws : List EdgeRow) (v : EdgeRow) → (v.0 ≡ e → ⊥) → In v (with_count e row n ws) → In v ws
in_other e row n ws v a m = elim (in_with_count e row n ws v m) [ inl q ↦ absurd (a (ap (λ (z : EdgeRow). z.0) q.0)) | inr k ↦ k.0 ]

other_in : (e : ℕ) (row : Pairs) (n : ℕ) (ws : List EdgeRow) (v : EdgeRow) → (v.0 ≡ e → ⊥) → In v ws → In v (with_count e row n ws)
other_in e row n ws v a m = with_count_old e row n ws v m (not_same e row v a)

abbrev pub Change : Type 0
Change = ℕ → Pairs → List EdgeRow → List EdgeRow

-- a change of an edge's row leaves the rows of the others
abbrev pub LeavesOthers : Change → Type 0
LeavesOthers change = (e : ℕ) (row : Pairs) (ws : List EdgeRow) (v : EdgeRow) → (v.0 ≡ e → ⊥) → (In v (change e row ws) → In v ws) × (In v ws → In v (change e row ws))

pub raised_leaves : LeavesOthers raised
raised_leaves e row ws v a = (in_other e row (suc (count_at e row ws)) ws v a, other_in e row (suc (count_at e row ws)) ws v a)

pub lowered_leaves : LeavesOthers lowered
lowered_leaves e row ws v a = (in_other e row (pred (count_at e row ws)) ws v a, other_in e row (pred (count_at e row ws)) ws v a)

-- ---- stripes on which rows of other edges are changed

-- a stripe as before, but for rows of other edges
pub record IsSameAt (e : ℕ) (old new : HeldStripe) : Type 0 where
  pub stripe : new.stripe ≡ old.stripe
  pub mode : new.mode ≡ old.mode
  pub taken : new.taken ≡ old.taken
  pub here : (v : EdgeRow) → v.0 ≡ e → In v new.now → In v old.now
  pub there : (v : EdgeRow) → v.0 ≡ e → In v old.now → In v new.now

same_at_itself : (e : ℕ) (h : HeldStripe) → IsSameAt e h h
same_at_itself e h = record { stripe = refl; mode = refl; taken = refl; here = λ v q m. m; there = λ v q m. m }

same_at_more : (e : ℕ) (a b c : HeldStripe) → IsSameAt e a b → IsSameAt e b c → IsSameAt e a c
same_at_more e a b c f g = record { stripe = g.stripe ∙ f.stripe; mode = g.mode ∙ f.mode; taken = g.taken ∙ f.taken; here = λ v q m. f.here v q (g.here v q m); there = λ v q m. g.there v q (f.there v q m) }

same_at_back : (e : ℕ) (a b : HeldStripe) → IsSameAt e a b → IsSameAt e b a
same_at_back e a b f = record { stripe = sym f.stripe; mode = sym f.mode; taken = sym f.taken; here = f.there; there = f.here }

-- each stripe after is one from before, and each from before is one after
pub record AreSameAt (e : ℕ) (old new : List HeldStripe) : Type 0 where
  pub came : (h : HeldStripe) → In h new → (g : HeldStripe) × In g old × IsSameAt e g h
  pub goes : (g : HeldStripe) → In g old → (h : HeldStripe) × In h new × IsSameAt e g h

all_same : (e : ℕ) (held : List HeldStripe) → AreSameAt e held held
all_same e held = record { came = λ h m. (h, m, same_at_itself e h); goes = λ h m. (h, m, same_at_itself e h) }

same_more : (e : ℕ) (a b c : List HeldStripe) → AreSameAt e a b → AreSameAt e b c → AreSameAt e a c
same_more e a b c f g = record {
  came = λ h m. let q = g.came h m in let p = f.came q.0 q.1 in (p.0, p.1, same_at_more e p.0 q.0 h p.2 q.2);
  goes = λ h m. let q = f.goes h m in let p = g.goes q.0 q.1 in (p.0, p.1, same_at_more e h q.0 p.0 q.2 p.2);
}

pub same_back : (e : ℕ) (a b : List HeldStripe) → AreSameAt e a b → AreSameAt e b a
same_back e a b f = record {
  came = λ h m. let q = f.goes h m in (q.0, q.1, same_at_back e h q.0 q.2);
  goes = λ h m. let q = f.came h m in (q.0, q.1, same_at_back e q.0 h q.2);
}

module _ (change : Change) (leaves : LeavesOthers change) where
  one_changed : (e d : ℕ) (row : Pairs) (s : ℕ) (h : HeldStripe) → (d ≡ e → ⊥) → IsSameAt e h (with_now s (change d row) h)
  one_changed e d row s h other = go (h.stripe == s)
    where
      apart : (v : EdgeRow) → v.0 ≡ e → v.0 ≡ d → ⊥
      apart v p q = other (sym q ∙ p)

      go : (b : Bool) → IsSameAt e h (cond b (record { stripe = h.stripe; mode = h.mode; now = change d row h.now; taken = h.taken }) h)
      go true = record {
        stripe = refl;
        mode = refl;
        taken = refl;
        here = λ v q n. (leaves d row h.now v (apart v q)).0 n;
        there = λ v q n. (leaves d row h.now v (apart v q)).1 n;
      }
      go false = same_at_itself e h

  one_same : (e d : ℕ) (row : Pairs) (s : ℕ) (held : List HeldStripe) → (d ≡ e → ⊥) → AreSameAt e held (changed_at s (change d row) held)
  one_same e d row s held other = record {
    came = λ h m. let q = in_map (with_now s (change d row)) h held m in (q.0, q.1, subst (IsSameAt e q.0) (sym q.2) (one_changed e d row s q.0 other));
    goes = λ h m. (with_now s (change d row) h, map_in (with_now s (change d row)) h held m, one_changed e d row s h other);
  }

  -- rows of other edges are changed
  pub changed_same : (spec : Spec) (t : Pairs) (e : ℕ) (edges : List ℕ) (held : List HeldStripe) → ((d : ℕ) → In d edges → d ≡ e → ⊥) → AreSameAt e held (all_changed change spec t edges held)
  changed_same spec t e [] held f = all_same e held
  changed_same spec t e (d ∷ edges) held f =
      let next : List HeldStripe = changed_at (stripe_in spec t d) (change d (row_in spec t d)) held in
      same_more e held next (all_changed change spec t edges next) (one_same e d (row_in spec t d) (stripe_in spec t d) held (f d (inl refl))) (changed_same spec t e edges next (λ c m. f c (inr m)))

  -- the stripes themselves stay, as no edge has the number of all
  pub stripes_stay : (spec : Spec) (t : Pairs) (held : List HeldStripe) → AreSameAt (length spec.edges) held (all_changed change spec t (edge_numbers spec) held)
  stripes_stay spec t held = changed_same spec t (length spec.edges) (edge_numbers spec) held (λ d m q. let b = in_range_bounds 0 (length spec.edges) d m in omega (arith, b.1, q))

-- ---- what can be changed there

-- the tuple's row of the edge can be added on its stripe, which is held for a change
pub record CanAdd (spec : Spec) (t : Pairs) (held : List HeldStripe) (e : ℕ) : Type 0 where
  pub exclusive : IsHeldExclusive held (stripe_in spec t e)
  pub addable : (h : HeldStripe) → In h held → h.stripe ≡ stripe_in spec t e → IsAddable (edge_table spec) e (row_in spec t e) h.now

-- and still can be
pub can_add_same : (spec : Spec) (t : Pairs) (e : ℕ) (old new : List HeldStripe) → AreSameAt e old new → CanAdd spec t old e → CanAdd spec t new e
can_add_same spec t e old new same can =
    let x = can.exclusive in
    let held = same.goes x.0 x.1 in
    record {
      exclusive = (held.0, held.1, held.2.stripe ∙ x.2, held.2.mode ∙ x.3);
      addable = λ h m s.
          let q = same.came h m in
          let r : IsAddable (edge_table spec) e (row_in spec t e) q.0.now = can.addable q.0 q.1 (sym q.2.stripe ∙ s) in
          let back : (u : Pairs) → IsThere h.now e u → IsThere q.0.now e u = λ u n. (n.0, q.2.here (e, u, n.0) refl n.1) in
          record {
            small = λ w n k. r.small w (q.2.here w k n) k;
            alone = λ shape has_shape u n. r.alone shape has_shape u (back u n);
            single = λ shape has_shape kind u n. r.single shape has_shape kind u (back u n);
          };
    }
