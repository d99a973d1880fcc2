-- Rows that two tuples share: taken out with the one's rows and added with the other's, they stay.
use Rattle.std.specs.Prelude.{◌≡◌, ℕ, suc, pred, ◌<◌, ◌==◌, Bool, true, false, List, [], ◌∷◌, cond, filter, length, not}
use Rattle.rc_machine.proofs.Imports.{Less, nat_cmp, eqb-true, false≢true, not-true, In, IsRising, in_filter, in_map, nat_order, not_below_itself, rising_filter, inter, in_range_bounds, rising_range, Pairs, agree_on, same_from_test, Spec, lowered, raised, row_in, AreCountedRows, raised-lowered, recounts-apart, bound, edge_at, EdgeRow, edge_numbers, class_of, physical_stripe, IsThere, HeldStripe, changed_at, with_now, CanInsert, replaced_in, AreAllCounted, AreAllThere, all_changed, has_column, stripe_in}
use Rattle.std.proofs.Common.{inl, inr, refl, sym, ap, subst, ◌∙◌, arith}
use Rattle.rc_machine.proofs.ApplyLemmas.{AreSameAt, CanAdd, Change, can_add_same, changed_same, lowered_leaves, same_back}
use Rattle.rc_machine.proofs.ChangeLemmas.{IsLocal, lowered_local, raised_local}

-- ---- changes of rows of two edges, in either order

-- changes of rows of two edges may be made in either order
abbrev pub CanSwap : Change → Change → Type 0
CanSwap c d = (e f : ℕ) (u v : Pairs) (ws : List EdgeRow) → AreCountedRows ws → (e ≡ f → ⊥) → c e u (d f v ws) ≡ d f v (c e u ws)

raised_lowered : CanSwap raised lowered
raised_lowered e f u v ws a apart = recounts-apart (λ n. suc n) (λ n. pred n) e f u v ws a apart

pub raised_raised : CanSwap raised raised
raised_raised e f u v ws a apart = recounts-apart (λ n. suc n) (λ n. suc n) e f u v ws a apart

pub lowered_lowered : CanSwap lowered lowered
lowered_lowered e f u v ws a apart = recounts-apart (λ n. pred n) (λ n. pred n) e f u v ws a apart

abbrev pub changed_rows : (List EdgeRow → List EdgeRow) → HeldStripe → HeldStripe
changed_rows f h = record { stripe = h.stripe; mode = h.mode; now = f h.now; taken = h.taken }

pub on_it : (s : ℕ) (f : List EdgeRow → List EdgeRow) (h : HeldStripe) → (h.stripe == s) ≡ true → with_now s f h ≡ changed_rows f h
on_it s f h q = ap (λ b. cond b (changed_rows f h) h) q

pub off_it : (s : ℕ) (f : List EdgeRow → List EdgeRow) (h : HeldStripe) → (h.stripe == s) ≡ false → with_now s f h ≡ h
off_it s f h q = ap (λ b. cond b (changed_rows f h) h) q

with_now_swap : (r s : ℕ) (f g : List EdgeRow → List EdgeRow) (h : HeldStripe) → f (g h.now) ≡ g (f h.now) → with_now r f (with_now s g h) ≡ with_now s g (with_now r f h)
with_now_swap r s f g h e = go (h.stripe == r) (h.stripe == s) refl refl
  where
    go : (a b : Bool) → (h.stripe == r) ≡ a → (h.stripe == s) ≡ b → with_now r f (with_now s g h) ≡ with_now s g (with_now r f h)
    go true true p q =
        ap (with_now r f) (on_it s g h q) ∙ on_it r f (changed_rows g h) p ∙ ap (λ rows. changed_rows (λ ws. rows) h) e
        ∙ sym (ap (with_now s g) (on_it r f h p) ∙ on_it s g (changed_rows f h) q)
    go true false p q = ap (with_now r f) (off_it s g h q) ∙ on_it r f h p ∙ sym (ap (with_now s g) (on_it r f h p) ∙ off_it s g (changed_rows f h) q)
    go false true p q = ap (with_now r f) (on_it s g h q) ∙ off_it r f (changed_rows g h) p ∙ sym (ap (with_now s g) (off_it r f h p) ∙ on_it s g h q)
    go false false p q = ap (with_now r f) (off_it s g h q) ∙ off_it r f h p ∙ sym (ap (with_now s g) (off_it r f h p) ∙ off_it s g h q)

swapped : (c d : Change) → CanSwap c d → (r s e f : ℕ) (u v : Pairs) → (e ≡ f → ⊥) → (held : List HeldStripe) → AreAllCounted held
    → changed_at r (c e u) (changed_at s (d f v) held) ≡ changed_at s (d f v) (changed_at r (c e u) held)
swapped c d swap r s e f u v apart [] counted = refl
swapped c d swap r s e f u v apart (h ∷ held) counted =
    let one = with_now_swap r s (c e u) (d f v) h (swap e f u v h.now (counted h (inl refl)) apart) in
    let others = swapped c d swap r s e f u v apart held (λ g m. counted g (inr m)) in
    λ i. one i ∷ others i

-- ---- the edges of a specification

pub known_edge : (spec : Spec) (e : ℕ) → In e (edge_numbers spec) → e < length spec.edges
known_edge spec e m = let b = in_range_bounds 0 (length spec.edges) e m in omega (arith, b.1)

pub edges_rise : (spec : Spec) → IsRising nat_cmp (edge_numbers spec)
edges_rise spec = rising_range 0 (length spec.edges)

-- ---- changes of a tuple's rows

module _ (change : Change) (local : IsLocal change) where
  one_counted : (s e : ℕ) (row : Pairs) (held : List HeldStripe) → AreAllCounted held → AreAllCounted (changed_at s (change e row) held)
  one_counted s e row held counted h m =
      let q : (g : HeldStripe) × In g held × (h ≡ with_now s (change e row) g) = in_map (with_now s (change e row)) h held m in
      subst (λ (z : HeldStripe). AreCountedRows z.now) (sym q.2) (go q.0 (q.0.stripe == s) (counted q.0 q.1))
    where
      go : (g : HeldStripe) (b : Bool) → AreCountedRows g.now → AreCountedRows (cond b (changed_rows (change e row) g) g).now
      go g true a = local.counted e row g.now a
      go g false a = a

  pub all_counted : (spec : Spec) (t : Pairs) (edges : List ℕ) (held : List HeldStripe) → AreAllCounted held → AreAllCounted (all_changed change spec t edges held)
  all_counted spec t [] held counted = counted
  all_counted spec t (e ∷ edges) held counted =
      all_counted spec t edges (changed_at (stripe_in spec t e) (change e (row_in spec t e)) held) (one_counted (stripe_in spec t e) e (row_in spec t e) held counted)

-- a change of a row may be made before those of other edges' rows, or after them
swapped_all : (c d : Change) → CanSwap c d → IsLocal d → (s e : ℕ) (u : Pairs) (spec : Spec) (t : Pairs) (edges : List ℕ) → ((f : ℕ) → In f edges → e ≡ f → ⊥) → (held : List HeldStripe) → AreAllCounted held
    → all_changed d spec t edges (changed_at s (c e u) held) ≡ changed_at s (c e u) (all_changed d spec t edges held)
swapped_all c d swap local s e u spec t [] apart held counted = refl
swapped_all c d swap local s e u spec t (f ∷ edges) apart held counted =
    ap (all_changed d spec t edges) (sym (swapped c d swap s (stripe_in spec t f) e f u (row_in spec t f) (apart f (inl refl)) held counted))
    ∙ swapped_all c d swap local s e u spec t edges (λ g m. apart g (inr m)) (changed_at (stripe_in spec t f) (d f (row_in spec t f)) held)
    (one_counted d local (stripe_in spec t f) f (row_in spec t f) held counted)

later_differ : (e : ℕ) (edges : List ℕ) → IsRising nat_cmp (e ∷ edges) → (f : ℕ) → In f edges → e ≡ f → ⊥
later_differ e edges rising f m q =
    let less : nat_cmp e e ≡ Less = subst (λ k. nat_cmp e k ≡ Less) (sym q) (rising.0 f m) in not_below_itself nat_cmp nat_order e e less less

-- changes in some edges may be made as those in a part of them, and then those in the others
pub parted : (c : Change) → CanSwap c c → IsLocal c → (spec : Spec) (t : Pairs) (first second : ℕ → Bool) → ((e : ℕ) → second e ≡ not (first e)) → (edges : List ℕ) → IsRising nat_cmp edges → (held : List HeldStripe) → AreAllCounted held
    → all_changed c spec t edges held ≡ all_changed c spec t (filter second edges) (all_changed c spec t (filter first edges) held)
parted c swap local spec t first second other [] rising held counted = refl
parted c swap local spec t first second other (e ∷ edges) rising held counted =
    subst (λ b. all_changed c spec t edges next ≡ all_changed c spec t (cond b (e ∷ filter second edges) (filter second edges)) (all_changed c spec t (cond (first e) (e ∷ filter first edges) (filter first edges)) held))
    (sym (other e)) (go (first e) (parted c swap local spec t first second other edges rising.1 next (one_counted c local (stripe_in spec t e) e (row_in spec t e) held counted)))
  where
    next : List HeldStripe
    next = changed_at (stripe_in spec t e) (c e (row_in spec t e)) held

    go : (b : Bool) → all_changed c spec t edges next ≡ all_changed c spec t (filter second edges) (all_changed c spec t (filter first edges) next)
        → all_changed c spec t edges next ≡ all_changed c spec t (cond (not b) (e ∷ filter second edges) (filter second edges)) (all_changed c spec t (cond b (e ∷ filter first edges) (filter first edges)) held)
    go true later = later
    go false later = later ∙ ap (all_changed c spec t (filter second edges)) (swapped_all c c swap local (stripe_in spec t e) e (row_in spec t e) spec t (filter first edges)
        (λ f m. later_differ e edges rising f (in_filter first f edges m).0) held counted)

-- ---- rows taken out and put back

restored_one : (s e : ℕ) (row : Pairs) (held : List HeldStripe) → AreAllCounted held → ((h : HeldStripe) → In h held → h.stripe ≡ s → IsThere h.now e row) → changed_at s (raised e row) (changed_at s (lowered e row) held) ≡ held
restored_one s e row [] counted there = refl
restored_one s e row (h ∷ held) counted there =
    let one = go (h.stripe == s) refl in
    let others = restored_one s e row held (λ g m. counted g (inr m)) (λ g m. there g (inr m)) in
    λ i. one i ∷ others i
  where
    go : (b : Bool) → (h.stripe == s) ≡ b → with_now s (raised e row) (with_now s (lowered e row) h) ≡ h
    go true q =
        let is : IsThere h.now e row = there h (inl refl) (eqb-true h.stripe s q) in
        ap (with_now s (raised e row)) (on_it s (lowered e row) h q) ∙ on_it s (raised e row) (changed_rows (lowered e row) h) q
        ∙ ap (λ rows. changed_rows (λ ws. rows) h) (raised-lowered e row is.0 h.now (counted h (inl refl)) is.1)
    go false q = ap (with_now s (raised e row)) (off_it s (lowered e row) h q) ∙ off_it s (raised e row) h q

-- where two tuples have the same rows in some edges, these taken out with the one and added with the other leave all as it was
restored : (spec : Spec) (o t : Pairs) (edges : List ℕ) → IsRising nat_cmp edges → ((e : ℕ) → In e edges → row_in spec o e ≡ row_in spec t e) → (held : List HeldStripe) → AreAllCounted held
    → ((e : ℕ) → In e edges → (h : HeldStripe) → In h held → h.stripe ≡ stripe_in spec o e → IsThere h.now e (row_in spec o e)) → all_changed raised spec t edges (all_changed lowered spec o edges held) ≡ held
restored spec o t [] rising same held counted there = refl
restored spec o t (e ∷ edges) rising same held counted there =
    ap (all_changed raised spec t edges) (sym (swapped_all raised lowered raised_lowered lowered_local (stripe_in spec t e) e (row_in spec t e) spec o edges (later_differ e edges rising) out
    (one_counted lowered lowered_local (stripe_in spec o e) e (row_in spec o e) held counted)))
    ∙ ap (λ rows. all_changed raised spec t edges (all_changed lowered spec o edges rows)) back
    ∙ restored spec o t edges rising.1 (λ f m. same f (inr m)) held counted (λ f m. there f (inr m))
  where
    out : List HeldStripe
    out = changed_at (stripe_in spec o e) (lowered e (row_in spec o e)) held

    back : changed_at (stripe_in spec t e) (raised e (row_in spec t e)) out ≡ held
    back =
        ap (λ row. changed_at (physical_stripe spec (class_of spec e) row) (raised e row) out) (sym (same e (inl refl)))
        ∙ restored_one (stripe_in spec o e) e (row_in spec o e) held counted (there e (inl refl))

-- two tuples have the same row of an edge whose target has none of the columns in which they differ
pub same_row : (spec : Spec) (o t : Pairs) (cols : List ℕ) → ((xs : List ℕ) → agree_on xs o t ≡ (length (inter xs cols) == 0)) → (e : ℕ) → has_column spec cols e ≡ false → row_in spec o e ≡ row_in spec t e
same_row spec o t cols differ e q = same_from_test (row_in spec o e) (row_in spec t e) (differ (bound spec (edge_at spec e).to) ∙ go (length (inter (bound spec (edge_at spec e).to) cols) == 0) q)
  where
    go : (b : Bool) → not b ≡ false → b ≡ true
    go true e = refl
    go false e = absurd (false≢true (sym e))

not_twice : (b : Bool) → b ≡ not (not b)
not_twice true = refl
not_twice false = refl

module _ (spec : Spec) (o t : Pairs) (keep : ℕ → Bool) (held : List HeldStripe) (counted : AreAllCounted held) where
  abbrev kept : List ℕ
  kept = filter keep (edge_numbers spec)

  abbrev skipped : List ℕ
  skipped = filter (λ e. not (keep e)) (edge_numbers spec)

  -- the rows of the old tuple are out in the edges that are kept
  abbrev mid : List HeldStripe
  mid = all_changed lowered spec o (filter keep (edge_numbers spec)) held

  all_out : all_changed lowered spec o (edge_numbers spec) held ≡ all_changed lowered spec o skipped mid
  all_out = parted lowered lowered_lowered lowered_local spec o keep (λ e. not (keep e)) (λ e. refl) (edge_numbers spec) (edges_rise spec) held counted

  -- an edge isn't kept and skipped
  not_both : (e : ℕ) → In e kept → In e skipped → ⊥
  not_both e m n =
      let p : keep e ≡ true = (in_filter keep e (edge_numbers spec) m).1 in
      let q : keep e ≡ false = not-true (keep e) (in_filter (λ e. not (keep e)) e (edge_numbers spec) n).1 in
      false≢true (sym q ∙ p)

  -- Where the two have the same rows in the edges that are skipped, a change in the others is the change in all.
  pub skipped_stay : ((e : ℕ) → e < length spec.edges → keep e ≡ false → row_in spec o e ≡ row_in spec t e) → AreAllThere spec o held
      → all_changed raised spec t (filter keep (edge_numbers spec)) (all_changed lowered spec o (filter keep (edge_numbers spec)) held) ≡ replaced_in spec o t held
  skipped_stay same there =
      sym (ap (all_changed raised spec t (edge_numbers spec)) all_out
      ∙ parted raised raised_raised raised_local spec t (λ e. not (keep e)) keep (λ e. not_twice (keep e)) (edge_numbers spec) (edges_rise spec) (all_changed lowered spec o skipped mid) out_counted
      ∙ ap (all_changed raised spec t kept) (restored spec o t skipped (rising_filter nat_cmp (λ e. not (keep e)) (edge_numbers spec) (edges_rise spec)) skipped_same mid mid_counted mid_there))
    where
      mid_counted : AreAllCounted mid
      mid_counted = all_counted lowered lowered_local spec o kept held counted

      out_counted : AreAllCounted (all_changed lowered spec o skipped mid)
      out_counted = all_counted lowered lowered_local spec o skipped mid mid_counted

      skipped_same : (e : ℕ) → In e skipped → row_in spec o e ≡ row_in spec t e
      skipped_same e m = let q = in_filter (λ e. not (keep e)) e (edge_numbers spec) m in same e (known_edge spec e q.0) (not-true (keep e) q.1)

      mid_there : (e : ℕ) → In e skipped → (h : HeldStripe) → In h mid → h.stripe ≡ stripe_in spec o e → IsThere h.now e (row_in spec o e)
      mid_there e m h n s =
          let q = (changed_same lowered lowered_leaves spec o e kept held (λ d k same. not_both e (subst (λ z. In z kept) same k) m)).came h n in
          let r : IsThere q.0.now e (row_in spec o e) = there e (known_edge spec e (in_filter (λ e. not (keep e)) e (edge_numbers spec) m).0) q.0 q.1 (sym q.2.stripe ∙ s) in
          (r.0, q.2.there (e, row_in spec o e, r.0) refl r.1)

  -- what can be added once all the old rows are out can be added once those of its own edges are
  pub can_add_kept : CanInsert spec t (all_changed lowered spec o (edge_numbers spec) held) → (e : ℕ) → In e (filter keep (edge_numbers spec)) → CanAdd spec t mid e
  can_add_kept can e m =
      let l : e < length spec.edges = known_edge spec e (in_filter keep e (edge_numbers spec) m).0 in
      let out : CanAdd spec t (all_changed lowered spec o skipped mid) e = subst (λ z. CanAdd spec t z e) all_out (record { exclusive = can.exclusive e l; addable = can.addable e l }) in
      let same : AreSameAt e mid (all_changed lowered spec o skipped mid) = changed_same lowered lowered_leaves spec o e skipped mid (λ d k q. not_both e m (subst (λ z. In z skipped) q k)) in
      can_add_same spec t e (all_changed lowered spec o skipped mid) mid (same_back e mid (all_changed lowered spec o skipped mid) same) out
