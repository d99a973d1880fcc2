-- What the calls of a group's holder leave: each is met by the same call of the holder that has the group's stripes.
use Rattle.std.specs.Prelude.{◌≡◌, ℕ, zero, suc, ◌⊎◌, get_or, ◌-◌, ◌<◌, ◌==◌, Bool, true, false, cond, List, [], ◌∷◌, ◌++◌, None, Some, length, map, replicate, if◌then◌else◌}
use Rattle.rc_multi.specs.Imports.{nat_cmp, Less, Within, In, IsRising, in_append, append_in_left, append_in_right, in_filter, filter_in, in_map, map_in, nat_order, not_below_itself, Pairs, Mode, Exclusive, Spec, EdgeRow, fragment_of, stripe_total, edge_table, FragmentRows, HasNoRowOf, AreOfRelation, AreOffered, CanLower, CanRaise, CanRaiseNew, HasRoomFor, HasTaken, HeldStripe, Holding, IsHeld, IsHeldExclusive, IsLent, IsPartlyAddedAt, LentStripe, changed_at, held_of, just_taken, with_changes, with_changes_at, with_now, with_room, with_room_at, held-change, held-room, ArePartlyAdded, CanAddTuple, HasTuple, StripeLock, Suffices, stripes_of, stripes_of_in, locks_of, stripes_held}
use Rattle.std.proofs.Common.{refl, sym, ap, subst, ◌∙◌, inl, inr, arith, append_assoc, append-nil}
use Rattle.std.proofs.lemmas.Bool.{eqb-true, eq-eqb, false≢true}
use Rattle.std.proofs.lemmas.List.{length-replicate, map-append}
use Rattle.std.proofs.lemmas.Simd.{map-map}
use Rattle.rc_multi.specs.CommitLaws.{one_held}
use Rattle.rc_multi.specs.Group.{AreNowOf, HasRunOver, now_after, with_part}
use Rattle.rc_multi.specs.GroupLaws.{suffices_exclusive}
use Rattle.rc_multi.specs.Offering.{IsOffered, as_part, lent_at, offering, part_of, rows_now_at}

abbrev helds : List LentStripe → List HeldStripe
helds ls = map (λ (l : LentStripe). l.held) ls

-- ---- what is done to each lent stripe is done to each that is told

lent_at-map : (f : LentStripe → LentStripe) → ((l : LentStripe) → (f l).held.stripe ≡ l.held.stripe) → (lent : List LentStripe) (q : ℕ) → lent_at (map f lent) q ≡ map f (lent_at lent q)
lent_at-map f same [] q = refl
lent_at-map f same (l ∷ lent) q = ap (λ n. if n == q then f l ∷ lent_at (map f lent) q else lent_at (map f lent) q) (same l) ∙ go (l.held.stripe == q) (lent_at-map f same lent q)
  where
    go : (b : Bool) → lent_at (map f lent) q ≡ map f (lent_at lent q)
        → (if b then f l ∷ lent_at (map f lent) q else lent_at (map f lent) q) ≡ map f (if b then l ∷ lent_at lent q else lent_at lent q)
    go true e = ap (λ (z : List LentStripe). f l ∷ z) e
    go false e = e

as_part-map : (begun : List HeldStripe) (f : LentStripe → LentStripe) → ((m : Mode) (l : LentStripe) → as_part begun m (f l) ≡ f (as_part begun m l))
    → (m : Mode) (ls : List LentStripe) → map (as_part begun m) (map f ls) ≡ map f (map (as_part begun m) ls)
as_part-map begun f alike m [] = refl
as_part-map begun f alike m (l ∷ ls) = λ i. alike m l i ∷ as_part-map begun f alike m ls i

part-each : (begun : List HeldStripe) (f : LentStripe → LentStripe) → ((l : LentStripe) → (f l).held.stripe ≡ l.held.stripe) → ((m : Mode) (l : LentStripe) → as_part begun m (f l) ≡ f (as_part begun m l))
    → (lent : List LentStripe) (taken : List StripeLock) → part_of begun (map f lent) taken ≡ map f (part_of begun lent taken)
part-each begun f same alike lent [] = refl
part-each begun f same alike lent (t ∷ taken) =
    let one : map (as_part begun t.1) (lent_at (map f lent) t.0) ≡ map f (map (as_part begun t.1) (lent_at lent t.0)) = ap (map (as_part begun t.1)) (lent_at-map f same lent t.0) ∙ as_part-map begun f alike t.1 (lent_at lent t.0) in
    let rest = part-each begun f same alike lent taken in
    (λ i. one i ++ rest i) ∙ sym (map-append f (map (as_part begun t.1) (lent_at lent t.0)) (part_of begun lent taken))

-- room that the holder makes is room that the plan is told of
pub told_room : (begun : List HeldStripe) (s : Holding) (taken : List StripeLock) (n stripe changes : ℕ)
    → offering begun (with_room_at stripe changes s) taken n ≡ with_room_at stripe changes (offering begun s taken n)
told_room begun s taken n stripe changes = λ i. record {
  table = s.table;
  lent = part-each begun (with_room stripe changes) (λ l. refl) (λ m l. refl) s.lent taken i;
  lends = Some (locks_of begun);
  offered = replicate (length s.offered) None;
  refusals = 0;
  last_refusal = None;
  through = n;
}

stripe-change : (stripe count : ℕ) (change : List EdgeRow → List EdgeRow) (l : LentStripe) → (with_changes stripe count change l).held.stripe ≡ l.held.stripe
stripe-change stripe count change l = go (l.held.stripe == stripe)
  where
    go : (b : Bool) → (cond b (let z : HeldStripe = record { stripe = l.held.stripe; mode = l.held.mode; now = change l.held.now; taken = l.held.taken } in z) l.held).stripe ≡ l.held.stripe
    go true = refl
    go false = refl

part-change : (begun : List HeldStripe) (stripe count : ℕ) (change : List EdgeRow → List EdgeRow) (m : Mode) (l : LentStripe)
    → as_part begun m (with_changes stripe count change l) ≡ with_changes stripe count change (as_part begun m l)
part-change begun stripe count change m l = go (l.held.stripe == stripe)
  where
    here : HeldStripe
    here = record { stripe = l.held.stripe; mode = l.held.mode; now = change l.held.now; taken = l.held.taken }

    there : HeldStripe
    there = record { stripe = l.held.stripe; mode = m; now = change l.held.now; taken = rows_now_at begun l.held.stripe }

    go : (b : Bool) → as_part begun m (let z : LentStripe = record { held = cond b here l.held; room = cond b (l.room - count) l.room } in z)
        ≡ (let z : LentStripe = record { held = cond b there (as_part begun m l).held; room = cond b (l.room - count) l.room } in z)
    go true = refl
    go false = refl

-- and changes of the holder's are ones that the plan is told of
pub told_change : (begun : List HeldStripe) (s : Holding) (taken : List StripeLock) (n stripe count : ℕ) (change : List EdgeRow → List EdgeRow)
    → offering begun (with_changes_at stripe count change s) taken n ≡ with_changes_at stripe count change (offering begun s taken n)
told_change begun s taken n stripe count change = λ i. record {
  table = s.table;
  lent = part-each begun (with_changes stripe count change) (stripe-change stripe count change) (part-change begun stripe count change) s.lent taken i;
  lends = Some (locks_of begun);
  offered = replicate (length s.offered) None;
  refusals = 0;
  last_refusal = None;
  through = n;
}

-- ---- a stripe that is told is one of the group's

pub record IsOfPart (begun : List HeldStripe) (lent : List LentStripe) (taken : List StripeLock) (l : LentStripe) : Type 0 where
  pub lock : StripeLock
  pub locked : In lock taken
  pub own : LentStripe
  pub lent_own : In own lent
  pub stripe : own.held.stripe ≡ lock.0
  pub is : l ≡ as_part begun lock.1 own

pub in_part : (begun : List HeldStripe) (lent : List LentStripe) (taken : List StripeLock) (l : LentStripe) → In l (part_of begun lent taken) → IsOfPart begun lent taken l
in_part begun lent [] l m = absurd m
in_part begun lent (t ∷ taken) l m = elim (in_append l (map (as_part begun t.1) (lent_at lent t.0)) (part_of begun lent taken) m) [
  | inl a ↦
      let w : (x : LentStripe) × In x (lent_at lent t.0) × (l ≡ as_part begun t.1 x) = in_map (as_part begun t.1) l (lent_at lent t.0) a in
      let f = in_filter (λ (l : LentStripe). l.held.stripe == t.0) w.0 lent w.1 in
      record { lock = t; locked = inl refl; own = w.0; lent_own = f.0; stripe = eqb-true w.0.held.stripe t.0 f.1; is = w.2 }
  | inr b ↦ let r = in_part begun lent taken l b in record { lock = r.lock; locked = inr r.locked; own = r.own; lent_own = r.lent_own; stripe = r.stripe; is = r.is }
]

-- and each of the group's that the plan took is told
pub part_in : (begun : List HeldStripe) (lent : List LentStripe) (taken : List StripeLock) (t : StripeLock) (x : LentStripe) → In t taken → In x lent → x.held.stripe ≡ t.0
    → In (as_part begun t.1 x) (part_of begun lent taken)
part_in begun lent [] t x m n e = absurd m
part_in begun lent (u ∷ taken) t x (inl p) n e =
    append_in_left (as_part begun t.1 x) (map (as_part begun u.1) (lent_at lent u.0)) (part_of begun lent taken)
    (subst (λ (z : StripeLock). In (as_part begun t.1 x) (map (as_part begun z.1) (lent_at lent z.0))) p
    (map_in (as_part begun t.1) x (lent_at lent t.0) (filter_in (λ (l : LentStripe). l.held.stripe == t.0) x lent n (eq-eqb x.held.stripe t.0 e))))
part_in begun lent (u ∷ taken) t x (inr m) n e =
    append_in_right (as_part begun t.1 x) (map (as_part begun u.1) (lent_at lent u.0)) (part_of begun lent taken) (part_in begun lent taken t x m n e)

-- ---- what is asked of the holder

module _ (begun : List HeldStripe) (s : Holding) (taken : List StripeLock) (n : ℕ) where
  held_part : (h : HeldStripe) → In h (held_of (offering begun s taken n)) → (l : LentStripe) × IsOfPart begun s.lent taken l × (h ≡ l.held)
  held_part h m =
      let w : (l : LentStripe) × In l (part_of begun s.lent taken) × (h ≡ l.held) = in_map (λ (l : LentStripe). l.held) h (part_of begun s.lent taken) m in
      (w.0, in_part begun s.lent taken w.0 w.1, w.2)

  -- a stripe that the plan holds Exclusive the group holds so
  pub exclusive_there : IsOffered begun s taken → (p : ℕ) → IsHeldExclusive (held_of (offering begun s taken n)) p → IsHeldExclusive (held_of s) p
  exclusive_there k p x =
      let w = held_part x.0 x.1 in
      let q = w.1 in
      let there : In q.own.held (held_of s) = map_in (λ (l : LentStripe). l.held) q.own s.lent q.lent_own in
      let mode : q.lock.1 ≡ Exclusive = sym (ap (λ (h : HeldStripe). h.mode) (w.2 ∙ ap (λ (l : LentStripe). l.held) q.is)) ∙ x.3 in
      let at : q.own.held.stripe ≡ p = sym (ap (λ (h : HeldStripe). h.stripe) (w.2 ∙ ap (λ (l : LentStripe). l.held) q.is)) ∙ x.2 in
      (q.own.held, there, at, suffices_exclusive q.own.held.mode q.lock.1 (k.modes q.lock q.locked q.own.held there q.stripe) mode)

  pub held_there : (p : ℕ) → IsHeld (held_of (offering begun s taken n)) p → IsHeld (held_of s) p
  held_there p x =
      let w = held_part x.0 x.1 in
      let q = w.1 in
      (q.own.held, map_in (λ (l : LentStripe). l.held) q.own s.lent q.lent_own, sym (ap (λ (h : HeldStripe). h.stripe) (w.2 ∙ ap (λ (l : LentStripe). l.held) q.is)) ∙ x.2)

  -- the fragment of a stripe of the group has the rows that the plan is told
  pub lent_there : (p : ℕ) (f : FragmentRows) → IsLent s p f → IsLent (offering begun s taken n) p f
  lent_there p f lent = record {
    table = lent.table;
    now = λ h m e.
        let w = held_part h m in
        let q = w.1 in
        let is : h ≡ (as_part begun q.lock.1 q.own).held = w.2 ∙ ap (λ (l : LentStripe). l.held) q.is in
        lent.now q.own.held (map_in (λ (l : LentStripe). l.held) q.own s.lent q.lent_own) (sym (ap (λ (h : HeldStripe). h.stripe) is) ∙ e)
        ∙ sym (ap (λ (h : HeldStripe). h.now) is);
  }

  -- some of a tuple's rows that are added to a stripe of the group are added to the one that the plan is told
  pub told_partly : (new : Holding) (p class : ℕ) (t : Pairs) → IsPartlyAddedAt p class t s new → IsPartlyAddedAt p class t (offering begun s taken n) (offering begun new taken n)
  told_partly new p class t partly = record {
    changes = partly.changes;
    few = partly.few;
    change = partly.change;
    added = λ h m e.
        let w = held_part h m in
        let q = w.1 in
        let is : h ≡ (as_part begun q.lock.1 q.own).held = w.2 ∙ ap (λ (l : LentStripe). l.held) q.is in
        subst (λ rows. ArePartlyAdded s.table class t rows (partly.change rows)) (sym (ap (λ (h : HeldStripe). h.now) is))
        (partly.added q.own.held (map_in (λ (l : LentStripe). l.held) q.own s.lent q.lent_own) (sym (ap (λ (h : HeldStripe). h.stripe) is) ∙ e));
    value = ap (λ (z : Holding). offering begun z taken n) partly.value ∙ told_change begun s taken n p partly.changes partly.change;
  }

  -- what holds of the rows of the group's stripe holds of those of the plan's
  pub told_rows : (p : ℕ) (P : List EdgeRow → Type 0) → ((h : HeldStripe) → In h (held_of s) → h.stripe ≡ p → P h.now)
      → (h : HeldStripe) → In h (held_of (offering begun s taken n)) → h.stripe ≡ p → P h.now
  told_rows p P rows h m at =
      let w = held_part h m in
      let q = w.1 in
      let is : h ≡ (as_part begun q.lock.1 q.own).held = w.2 ∙ ap (λ (l : LentStripe). l.held) q.is in
      subst P (sym (ap (λ (h : HeldStripe). h.now) is))
      (rows q.own.held (map_in (λ (l : LentStripe). l.held) q.own s.lent q.lent_own) (sym (ap (λ (h : HeldStripe). h.stripe) is) ∙ at))

  -- a stripe of the group that the plan holds
  as_told : (p : ℕ) → IsHeld (held_of (offering begun s taken n)) p → (x : LentStripe) → In x s.lent → x.held.stripe ≡ p → (t : StripeLock) × In (as_part begun t.1 x) (part_of begun s.lent taken)
  as_told p held x m e =
      let w = held_part held.0 held.1 in
      let q = w.1 in
      let at : q.own.held.stripe ≡ p = sym (ap (λ (h : HeldStripe). h.stripe) (w.2 ∙ ap (λ (l : LentStripe). l.held) q.is)) ∙ held.2 in
      (q.lock, part_in begun s.lent taken q.lock x q.locked m (e ∙ sym at ∙ q.stripe))

  pub room_there : (p class : ℕ) → IsHeld (held_of (offering begun s taken n)) p → HasRoomFor (offering begun s taken n) p class → HasRoomFor s p class
  room_there p class held room = record {
    some = λ x m e. let w = as_told p held x m e in room.some (as_part begun w.0.1 x) w.1 e;
    all = λ x m e. let w = as_told p held x m e in room.all (as_part begun w.0.1 x) w.1 e;
  }

  own_of : (h : HeldStripe) → In h (held_of s) → (x : LentStripe) × In x s.lent × (h ≡ x.held)
  own_of h m = in_map (λ (l : LentStripe). l.held) h s.lent m

  -- what holds of the rows of the plan's stripe holds of those of the group's
  each_there : (p : ℕ) (P : List EdgeRow → Type 0) → IsHeld (held_of (offering begun s taken n)) p
      → ((h : HeldStripe) → In h (held_of (offering begun s taken n)) → h.stripe ≡ p → P h.now) → (h : HeldStripe) → In h (held_of s) → h.stripe ≡ p → P h.now
  each_there p P held told h m at =
      let x = own_of h m in
      let here : x.0.held.stripe ≡ p = sym (ap (λ (h : HeldStripe). h.stripe) x.2) ∙ at in
      let t = as_told p held x.0 x.1 here in
      subst P (sym (ap (λ (h : HeldStripe). h.now) x.2))
      (told (as_part begun t.0.1 x.0).held (map_in (λ (l : LentStripe). l.held) (as_part begun t.0.1 x.0) (part_of begun s.lent taken) t.1) here)

  -- a tuple's rows can be added to the group's stripe where they can be to the plan's, and taken out where they can be
  pub raise_there : (p class : ℕ) (t : Pairs) → IsHeld (held_of (offering begun s taken n)) p → CanRaise (offering begun s taken n) p class t → CanRaise s p class t
  raise_there p class t held can = each_there p (λ rows. CanAddTuple s.table rows class t) held can

  pub raise_new_there : (p class e : ℕ) (t : Pairs) → IsHeld (held_of (offering begun s taken n)) p → CanRaiseNew (offering begun s taken n) p class e t → CanRaiseNew s p class e t
  raise_new_there p class e t held can = each_there p (λ rows. HasNoRowOf s.table rows e t → CanAddTuple s.table rows class t) held can

  pub lower_there : (p class : ℕ) (t : Pairs) → IsHeld (held_of (offering begun s taken n)) p → CanLower (offering begun s taken n) p class t → CanLower s p class t
  lower_there p class t held can = each_there p (λ rows. HasTuple s.table rows class t) held can

-- ---- rows of held stripes

rows_now_of : (held : List HeldStripe) → IsRising nat_cmp (stripes_held held) → (h : HeldStripe) → In h held → rows_now_at held h.stripe ≡ h.now
rows_now_of [] r h m = absurd m
rows_now_of (x ∷ held) r h m = go (x.stripe == h.stripe) refl m (λ n. rows_now_of held r.1 h n)
  where
    go : (b : Bool) → x.stripe == h.stripe ≡ b → In h (x ∷ held) → (In h held → rows_now_at held h.stripe ≡ h.now) → (if b then x.now else rows_now_at held h.stripe) ≡ h.now
    go true e n rest = ap (λ (z : HeldStripe). z.now) (one_held (x ∷ held) r x h (inl refl) n (eqb-true x.stripe h.stripe e))
    go false e (inl p) rest = absurd (false≢true (sym e ∙ eq-eqb x.stripe h.stripe (ap (λ (z : HeldStripe). z.stripe) (sym p))))
    go false e (inr n) rest = rest n

lent_none : (ls : List LentStripe) (p : ℕ) → ((z : LentStripe) → In z ls → z.held.stripe ≡ p → ⊥) → lent_at ls p ≡ []
lent_none [] p none = refl
lent_none (z ∷ ls) p none = test (z.held.stripe == p) refl (lent_none ls p (λ w n. none w (inr n)))
  where
    test : (b : Bool) → z.held.stripe == p ≡ b → lent_at ls p ≡ [] → (if b then z ∷ lent_at ls p else lent_at ls p) ≡ []
    test true e rest = absurd (none z (inl refl) (eqb-true z.held.stripe p e))
    test false e rest = rest

-- a stripe that is held is lent once
one_lent : (lent : List LentStripe) → IsRising nat_cmp (stripes_held (helds lent)) → (x : LentStripe) → In x lent → lent_at lent x.held.stripe ≡ x ∷ []
one_lent [] r x m = absurd m
one_lent (y ∷ lent) r x m = go (y.held.stripe == x.held.stripe) refl m (λ n. one_lent lent r.1 x n)
  where
    not_below : (z : LentStripe) → In z lent → z.held.stripe ≡ y.held.stripe → ⊥
    not_below z n e =
        let below : nat_cmp y.held.stripe z.held.stripe ≡ Less = r.0 z.held.stripe (map_in (λ (h : HeldStripe). h.stripe) z.held (helds lent) (map_in (λ (l : LentStripe). l.held) z lent n)) in
        let itself : nat_cmp y.held.stripe y.held.stripe ≡ Less = subst (λ k. nat_cmp y.held.stripe k ≡ Less) e below in
        not_below_itself nat_cmp nat_order y.held.stripe y.held.stripe itself itself

    go : (b : Bool) → y.held.stripe == x.held.stripe ≡ b → In x (y ∷ lent) → (In x lent → lent_at lent x.held.stripe ≡ x ∷ [])
        → (if b then y ∷ lent_at lent x.held.stripe else lent_at lent x.held.stripe) ≡ x ∷ []
    go true e (inl p) rest =
        let none : lent_at lent x.held.stripe ≡ [] = lent_none lent x.held.stripe (λ z n q. not_below z n (q ∙ sym (eqb-true y.held.stripe x.held.stripe e))) in
        λ i. sym p i ∷ none i
    go true e (inr n) rest = absurd (not_below x n (sym (eqb-true y.held.stripe x.held.stripe e)))
    go false e (inl p) rest = absurd (false≢true (sym e ∙ eq-eqb y.held.stripe x.held.stripe (ap (λ (z : LentStripe). z.held.stripe) (sym p))))
    go false e (inr n) rest = rest n

-- ---- takes

part-more : (begun : List HeldStripe) (lent : List LentStripe) (taken : List StripeLock) (t : StripeLock)
    → part_of begun lent (taken ++ t ∷ []) ≡ part_of begun lent taken ++ map (as_part begun t.1) (lent_at lent t.0)
part-more begun lent [] t = append-nil (map (as_part begun t.1) (lent_at lent t.0))
part-more begun lent (u ∷ taken) t =
    ap (λ (z : List LentStripe). map (as_part begun u.1) (lent_at lent u.0) ++ z) (part-more begun lent taken t)
    ∙ sym (append_assoc (map (as_part begun u.1) (lent_at lent u.0)) (part_of begun lent taken) (map (as_part begun t.1) (lent_at lent t.0)))

now_after-append : (part more : List HeldStripe) (h : HeldStripe) → ((g : HeldStripe) → In g more → g.stripe ≡ h.stripe → g.now ≡ h.now) → now_after (part ++ more) h ≡ now_after part h
now_after-append [] [] h same = refl
now_after-append [] (g ∷ more) h same = go (g.stripe == h.stripe) refl (now_after-append [] more h (λ x m. same x (inr m)))
  where
    go : (b : Bool) → g.stripe == h.stripe ≡ b → now_after more h ≡ h.now → (if b then g.now else now_after more h) ≡ h.now
    go true e rest = same g (inl refl) (eqb-true g.stripe h.stripe e)
    go false e rest = rest
now_after-append (g ∷ part) more h same = ap (λ (z : List EdgeRow). if g.stripe == h.stripe then g.now else z) (now_after-append part more h same)

-- a stripe that the plan hasn't taken has its rows of the plan's start
now_after-none : (part : List HeldStripe) (h : HeldStripe) → ((g : HeldStripe) → In g part → g.stripe ≡ h.stripe → ⊥) → now_after part h ≡ h.now
now_after-none [] h none = refl
now_after-none (g ∷ part) h none = go (g.stripe == h.stripe) refl (now_after-none part h (λ x m. none x (inr m)))
  where
    go : (b : Bool) → g.stripe == h.stripe ≡ b → now_after part h ≡ h.now → (if b then g.now else now_after part h) ≡ h.now
    go true e rest = absurd (none g (inl refl) (eqb-true g.stripe h.stripe e))
    go false e rest = rest

map_same : {A B : Type 0} (f g : A → B) (xs : List A) → ((x : A) → In x xs → f x ≡ g x) → map f xs ≡ map g xs
map_same f g [] same = refl
map_same f g (x ∷ xs) same = let one = same x (inl refl) in let rest = map_same f g xs (λ y m. same y (inr m)) in λ i. one i ∷ rest i

stripes-part : (part begun : List HeldStripe) → stripes_held (map (with_part part) begun) ≡ stripes_held begun
stripes-part part [] = refl
stripes-part part (h ∷ begun) = λ i. h.stripe ∷ stripes-part part begun i

module _ (begun : List HeldStripe) (s : Holding) (taken : List StripeLock) (n : ℕ) (k : IsOffered begun s taken) where
  abbrev part : List HeldStripe
  part = helds (part_of begun s.lent taken)

  begun_rises : IsRising nat_cmp (stripes_held begun)
  begun_rises = subst (IsRising nat_cmp) (ap stripes_held k.same ∙ stripes-part part begun) k.rising

  -- The plan takes one more of the group's stripes, above all that it has: as it is told, it has the rows of the plan's start.
  module _ (q : ℕ) (m : Mode) (x : LentStripe) (lent : In x s.lent) (at : x.held.stripe ≡ q) (suffices : Suffices x.held.mode m)
      (above : (g : HeldStripe) → In g part → g.stripe < q) where
    not_yet : (g : HeldStripe) → In g part → g.stripe ≡ q → ⊥
    not_yet g i e = let l = above g i in omega (arith, l, e)

    there : In x.held (held_of s)
    there = map_in (λ (l : LentStripe). l.held) x s.lent lent

    as_begun : x.held.now ≡ rows_now_at begun q
    as_begun =
        let w : (h : HeldStripe) × In h begun × (x.held ≡ with_part part h) = in_map (with_part part) x.held begun (subst (In x.held) k.same there) in
        let stripe : x.held.stripe ≡ w.0.stripe = ap (λ (h : HeldStripe). h.stripe) w.2 in
        ap (λ (h : HeldStripe). h.now) w.2
        ∙ now_after-none part w.0 (λ g i e. not_yet g i (e ∙ sym stripe ∙ at))
        ∙ sym (rows_now_of begun begun_rises w.0 w.1)
        ∙ ap (rows_now_at begun) (sym stripe ∙ at)

    only : lent_at s.lent q ≡ x ∷ []
    only = subst (λ p. lent_at s.lent p ≡ x ∷ []) at (one_lent s.lent k.rising x lent)

    told : as_part begun m x ≡ (let z : LentStripe = record { held = just_taken q m (rows_now_at begun q); room = x.room } in z)
    told = λ i. record { held = record { stripe = at i; mode = m; now = as_begun i; taken = rows_now_at begun (at i) }; room = x.room }

    one_more : part_of begun s.lent (taken ++ (q, m) ∷ []) ≡ part_of begun s.lent taken ++ (let z : LentStripe = record { held = just_taken q m (rows_now_at begun q); room = x.room } in z) ∷ []
    one_more = part-more begun s.lent taken (q, m) ∙ ap (λ (z : List LentStripe). part_of begun s.lent taken ++ map (as_part begun m) z) only ∙ (λ i. part_of begun s.lent taken ++ told i ∷ [])

    pub has_taken : HasTaken (offering begun s taken n) (offering begun s (taken ++ (q, m) ∷ []) n) q m
    has_taken = record {
      goes_on = record { table = refl; lends = refl; offered = refl; through = refl; refused = inl (refl, refl) };
      rows = rows_now_at begun q;
      room = x.room;
      lent = one_more;
      told = none_told (length s.offered) q;
    }
      where
        none_told : (count p : ℕ) → AreOffered (get_or (replicate count None) p None) (rows_now_at begun q)
        none_told zero p = tt
        none_told (suc count) zero = tt
        none_told (suc count) (suc p) = none_told count p

    -- and what held of it goes on to hold
    pub taken_offered : IsOffered begun s (taken ++ (q, m) ∷ [])
    taken_offered = record {
      rising = k.rising;
      same =
          k.same
          ∙ map_same (with_part part) (with_part (helds (part_of begun s.lent (taken ++ (q, m) ∷ [])))) begun (λ h i. go h i);
      modes = λ t i h j e. elim (in_append t taken ((q, m) ∷ []) i) [
        | inl a ↦ k.modes t a h j e
        | inr (inl p) ↦
            let same : h ≡ x.held = one_held (held_of s) k.rising h x.held j there (e ∙ ap (λ (l : StripeLock). l.0) p ∙ sym at) in
            subst (λ (z : HeldStripe × StripeLock). Suffices z.0.mode z.1.1) (λ i. (sym same i, sym p i)) suffices
        | inr (inr z) ↦ absurd z
      ];
    }
      where
        new : HeldStripe
        new = just_taken q m (rows_now_at begun q)

        parts : helds (part_of begun s.lent (taken ++ (q, m) ∷ [])) ≡ part ++ new ∷ []
        parts = ap helds one_more ∙ map-append (λ (l : LentStripe). l.held) (part_of begun s.lent taken) ((let z : LentStripe = record { held = new; room = x.room } in z) ∷ [])

        go : (h : HeldStripe) → In h begun → with_part part h ≡ with_part (helds (part_of begun s.lent (taken ++ (q, m) ∷ []))) h
        go h i =
            (λ j. record { stripe = h.stripe; mode = h.mode; now = sym (now_after-append part (new ∷ []) h (λ g n e. same g n e)) j; taken = h.taken })
            ∙ (λ j. with_part (sym parts j) h)
          where
            same : (g : HeldStripe) → In g (new ∷ []) → g.stripe ≡ h.stripe → g.now ≡ h.now
            same g (inl p) e =
                let stripe : q ≡ h.stripe = sym (ap (λ (z : HeldStripe). z.stripe) p) ∙ e in
                ap (λ (z : HeldStripe). z.now) p ∙ ap (rows_now_at begun) stripe ∙ rows_now_of begun begun_rises h i
            same g (inr z) e = absurd z

-- ---- changes

module _ (p : ℕ) (change : List EdgeRow → List EdgeRow) where
  now_cons : (g : HeldStripe) (gs : List HeldStripe) (h : HeldStripe)
      → now_after (with_now p change g ∷ gs) h ≡ (if g.stripe == h.stripe then cond (g.stripe == p) (change g.now) g.now else now_after gs h)
  now_cons g gs h = go (g.stripe == p)
    where
      new : HeldStripe
      new = record { stripe = g.stripe; mode = g.mode; now = change g.now; taken = g.taken }

      go : (b : Bool) → (if (cond b new g).stripe == h.stripe then (cond b new g).now else now_after gs h) ≡ (if g.stripe == h.stripe then cond b (change g.now) g.now else now_after gs h)
      go true = refl
      go false = refl

  now_changed : (gs : List HeldStripe) (h : HeldStripe) → IsHeld gs p ⊎ (h.stripe ≡ p → ⊥)
      → now_after (changed_at p change gs) h ≡ (if h.stripe == p then change (now_after gs h) else now_after gs h)
  now_changed [] h (inl w) = absurd w.1
  now_changed [] h (inr none) = go (h.stripe == p) refl
    where
      go : (b : Bool) → h.stripe == p ≡ b → h.now ≡ (if b then change h.now else h.now)
      go true e = absurd (none (eqb-true h.stripe p e))
      go false e = refl
  now_changed (g ∷ gs) h there = now_cons g (changed_at p change gs) h ∙ go (g.stripe == p) (g.stripe == h.stripe) (h.stripe == p) refl refl refl (λ t. now_changed gs h t)
    where
      later : g.stripe == h.stripe ≡ false → IsHeld (g ∷ gs) p ⊎ (h.stripe ≡ p → ⊥) → IsHeld gs p ⊎ (h.stripe ≡ p → ⊥)
      later e (inr none) = inr none
      later e (inl (x, inr n, at)) = inl (x, n, at)
      later e (inl (x, inl is, at)) = inr (λ q. false≢true (sym e ∙ eq-eqb g.stripe h.stripe (ap (λ (z : HeldStripe). z.stripe) (sym is) ∙ at ∙ sym q)))

      go : (a b d : Bool) → g.stripe == p ≡ a → g.stripe == h.stripe ≡ b → h.stripe == p ≡ d
          → (IsHeld gs p ⊎ (h.stripe ≡ p → ⊥) → now_after (changed_at p change gs) h ≡ (if h.stripe == p then change (now_after gs h) else now_after gs h))
          → (if b then cond a (change g.now) g.now else now_after (changed_at p change gs) h)
          ≡ (if d then change (if b then g.now else now_after gs h) else (if b then g.now else now_after gs h))
      go true true true x y z rest = refl
      go true true false x y z rest = absurd (false≢true (sym z ∙ eq-eqb h.stripe p (sym (eqb-true g.stripe h.stripe y) ∙ eqb-true g.stripe p x)))
      go false true true x y z rest = absurd (false≢true (sym x ∙ eq-eqb g.stripe p (eqb-true g.stripe h.stripe y ∙ eqb-true h.stripe p z)))
      go false true false x y z rest = refl
      go a false d x y z rest = rest (later y there) ∙ ap (λ (b : Bool). if b then change (now_after gs h) else now_after gs h) z

  stripes-changed : (held : List HeldStripe) → stripes_held (changed_at p change held) ≡ stripes_held held
  stripes-changed [] = refl
  stripes-changed (h ∷ held) = go (h.stripe == p) (stripes-changed held)
    where
      go : (b : Bool) → stripes_held (changed_at p change held) ≡ stripes_held held
          → (cond b (let z : HeldStripe = record { stripe = h.stripe; mode = h.mode; now = change h.now; taken = h.taken } in z) h).stripe ∷ stripes_held (changed_at p change held) ≡ h.stripe ∷ stripes_held held
      go true e = ap (λ (z : List ℕ). h.stripe ∷ z) e
      go false e = ap (λ (z : List ℕ). h.stripe ∷ z) e

  same_hold : (h : HeldStripe) → ((with_now p change h).stripe ≡ h.stripe) × ((with_now p change h).mode ≡ h.mode)
  same_hold h = go (h.stripe == p)
    where
      go : (b : Bool) → ((cond b (let z : HeldStripe = record { stripe = h.stripe; mode = h.mode; now = change h.now; taken = h.taken } in z) h).stripe ≡ h.stripe)
          × ((cond b (let z : HeldStripe = record { stripe = h.stripe; mode = h.mode; now = change h.now; taken = h.taken } in z) h).mode ≡ h.mode)
      go true = (refl, refl)
      go false = (refl, refl)

  one_changed : (part : List HeldStripe) (h : HeldStripe) → IsHeld part p → with_now p change (with_part part h) ≡ with_part (changed_at p change part) h
  one_changed part h held = go (h.stripe == p) ∙ (λ i. record { stripe = h.stripe; mode = h.mode; now = sym (now_changed part h (inl held)) i; taken = h.taken })
    where
      go : (b : Bool) → cond b (let z : HeldStripe = record { stripe = h.stripe; mode = h.mode; now = change (now_after part h); taken = h.taken } in z) (with_part part h)
          ≡ (let z : HeldStripe = record { stripe = h.stripe; mode = h.mode; now = (if b then change (now_after part h) else now_after part h); taken = h.taken } in z)
      go true = refl
      go false = refl

  -- After changes of a stripe that the plan holds, the group's stripes are still as at its start but for what the plan did.
  pub change_offered : (count : ℕ) (begun : List HeldStripe) (s : Holding) (taken : List StripeLock) → IsOffered begun s taken → IsHeld (helds (part_of begun s.lent taken)) p
      → IsOffered begun (with_changes_at p count change s) taken
  change_offered count begun s taken k held = record {
    rising = subst (IsRising nat_cmp) (sym (ap stripes_held (held-change p count change s) ∙ stripes-changed (held_of s))) k.rising;
    same =
        held-change p count change s
        ∙ ap (changed_at p change) k.same
        ∙ map-map (with_now p change) (with_part part) begun
        ∙ map_same (λ h. with_now p change (with_part part h)) (with_part (changed_at p change part)) begun (λ h m. one_changed part h held)
        ∙ (λ i. map (with_part (sym parts i)) begun);
    modes = λ t m h n e.
        let w : (x : HeldStripe) × In x (held_of s) × (h ≡ with_now p change x) = in_map (with_now p change) h (held_of s) (subst (In h) (held-change p count change s) n) in
        let same = same_hold w.0 in
        subst (λ (z : Mode). Suffices z t.1) (sym (ap (λ (x : HeldStripe). x.mode) w.2 ∙ same.1))
        (k.modes t m w.0 w.1 (sym (ap (λ (x : HeldStripe). x.stripe) w.2 ∙ same.0) ∙ e));
  }
    where
      part : List HeldStripe
      part = helds (part_of begun s.lent taken)

      parts : helds (part_of begun (with_changes_at p count change s).lent taken) ≡ changed_at p change part
      parts = ap held_of (told_change begun s taken 0 p count change) ∙ held-change p count change (offering begun s taken 0)

-- Room that is made changes nothing of it.
pub room_offered : (begun : List HeldStripe) (s : Holding) (taken : List StripeLock) (p changes : ℕ) → IsOffered begun s taken → IsOffered begun (with_room_at p changes s) taken
room_offered begun s taken p changes k = record {
  rising = subst (λ (hs : List HeldStripe). IsRising nat_cmp (stripes_held hs)) (sym same) k.rising;
  same = same ∙ k.same ∙ (λ i. map (with_part (sym parts i)) begun);
  modes = λ t m h n e. k.modes t m h (subst (In h) same n) e;
}
  where
    same : held_of (with_room_at p changes s) ≡ held_of s
    same = held-room p changes s

    parts : helds (part_of begun (with_room_at p changes s).lent taken) ≡ helds (part_of begun s.lent taken)
    parts = ap held_of (told_room begun s taken 0 p changes) ∙ held-room p changes (offering begun s taken 0)

-- ---- the end of a plan

-- What the plan had are stripes of the group, which are now what it made of them.
pub has_run_over : (begun : List HeldStripe) (s : Holding) (taken : List StripeLock) → IsOffered begun s taken
    → HasRunOver begun (held_of s) (helds (part_of begun s.lent taken))
has_run_over begun s taken k = record {
  each = λ g m.
      let w : (l : LentStripe) × In l (part_of begun s.lent taken) × (g ≡ l.held) = in_map (λ (l : LentStripe). l.held) g (part_of begun s.lent taken) m in
      let q = in_part begun s.lent taken w.0 w.1 in
      let is : g ≡ (as_part begun q.lock.1 q.own).held = w.2 ∙ ap (λ (l : LentStripe). l.held) q.is in
      let there : In q.own.held (held_of s) = map_in (λ (l : LentStripe). l.held) q.own s.lent q.lent_own in
      let b : (h : HeldStripe) × In h begun × (q.own.held ≡ with_part (helds (part_of begun s.lent taken)) h) = in_map (with_part (helds (part_of begun s.lent taken))) q.own.held begun (subst (In q.own.held) k.same there) in
      let stripe : b.0.stripe ≡ g.stripe = sym (ap (λ (h : HeldStripe). h.stripe) b.2) ∙ sym (ap (λ (h : HeldStripe). h.stripe) is) in
      record {
        from = b.0;
        held = b.1;
        stripe = stripe;
        rows =
            sym (rows_now_of begun (begun_rises begun s taken 0 k) b.0 b.1)
            ∙ ap (rows_now_at begun) (sym (ap (λ (h : HeldStripe). h.stripe) b.2))
            ∙ sym (ap (λ (h : HeldStripe). h.taken) is);
        mode =
            subst (λ (x : Mode × Mode). Suffices x.0 x.1) (λ i. (ap (λ (h : HeldStripe). h.mode) b.2 i, sym (ap (λ (h : HeldStripe). h.mode) is) i))
            (k.modes q.lock q.locked q.own.held there q.stripe);
      };
  becomes = k.same;
}

-- Each is of one of the locks that it took,
pub part_taken : (begun : List HeldStripe) (lent : List LentStripe) (taken : List StripeLock) → Within (stripes_held (helds (part_of begun lent taken))) (stripes_of taken)
part_taken begun lent taken p m =
    let g : (h : HeldStripe) × In h (helds (part_of begun lent taken)) × (p ≡ h.stripe) = in_map (λ (h : HeldStripe). h.stripe) p (helds (part_of begun lent taken)) m in
    let w : (l : LentStripe) × In l (part_of begun lent taken) × (g.0 ≡ l.held) = in_map (λ (l : LentStripe). l.held) g.0 (part_of begun lent taken) g.1 in
    let q = in_part begun lent taken w.0 w.1 in
    let stripe : q.lock.0 ≡ p =
    sym q.stripe ∙ sym (ap (λ (l : LentStripe). l.held.stripe) q.is) ∙ sym (ap (λ (h : HeldStripe). h.stripe) w.2) ∙ sym g.2 in
    subst (λ (s : ℕ). In s (stripes_of taken)) stripe (stripes_of_in q.lock taken q.locked)

-- and it has each that the group held of those.
pub taken_part : (begun : List HeldStripe) (s : Holding) (taken : List StripeLock) → IsOffered begun s taken → (p : ℕ) → In p (stripes_of taken) → In p (stripes_held begun)
    → In p (stripes_held (helds (part_of begun s.lent taken)))
taken_part begun s taken k p m n =
    let part : List HeldStripe = helds (part_of begun s.lent taken) in
    let t : (l : StripeLock) × In l taken × (p ≡ l.0) = in_map (λ (l : StripeLock). l.0) p taken m in
    let w : (h : HeldStripe) × In h begun × (p ≡ h.stripe) = in_map (λ (h : HeldStripe). h.stripe) p begun n in
    let there : In (with_part part w.0) (held_of s) = subst (In (with_part part w.0)) (sym k.same) (map_in (with_part part) w.0 begun w.1) in
    let x : (l : LentStripe) × In l s.lent × (with_part part w.0 ≡ l.held) = in_map (λ (l : LentStripe). l.held) (with_part part w.0) s.lent there in
    let stripe : x.0.held.stripe ≡ p = sym (ap (λ (h : HeldStripe). h.stripe) x.2) ∙ sym w.2 in
    let told : In (as_part begun t.0.1 x.0) (part_of begun s.lent taken) = part_in begun s.lent taken t.0 x.0 t.1 x.1 (stripe ∙ t.2) in
    subst (λ (q : ℕ). In q (stripes_held part)) stripe
    (map_in (λ (h : HeldStripe). h.stripe) (as_part begun t.0.1 x.0).held part (map_in (λ (l : LentStripe). l.held) (as_part begun t.0.1 x.0) (part_of begun s.lent taken) told))

-- At a plan's start it has nothing, and the group's stripes are as they are.
pub offered_first : (s : Holding) → IsRising nat_cmp (stripes_held (held_of s)) → IsOffered (held_of s) s []
offered_first s rising = record {
  rising = rising;
  same = sym (map_same (with_part []) (λ h. h) (held_of s) (λ h m. refl) ∙ map_itself (held_of s));
  modes = λ t m. absurd m;
}
  where
    map_itself : (hs : List HeldStripe) → map (λ (h : HeldStripe). h) hs ≡ hs
    map_itself [] = refl
    map_itself (h ∷ hs) = λ i. h ∷ map_itself hs i

-- A stripe that the group holds is lent by its holder.
pub lock_lent : (begun : List HeldStripe) (s : Holding) (taken : List StripeLock) → IsOffered begun s taken → (q : ℕ) (mode : Mode) → In (q, mode) (locks_of begun)
    → (x : LentStripe) × In x s.lent × (x.held.stripe ≡ q) × (x.held.mode ≡ mode)
lock_lent begun s taken k q mode m =
    let w : (h : HeldStripe) × In h begun × ((q, mode) ≡ (h.stripe, h.mode)) = in_map (λ (h : HeldStripe). let l : StripeLock = (h.stripe, h.mode) in l) (q, mode) begun m in
    let h : HeldStripe = with_part (helds (part_of begun s.lent taken)) w.0 in
    let there : In h (held_of s) = subst (In h) (sym k.same) (map_in (with_part (helds (part_of begun s.lent taken))) w.0 begun w.1) in
    let x : (l : LentStripe) × In l s.lent × (h ≡ l.held) = in_map (λ (l : LentStripe). l.held) h s.lent there in
    (x.0, x.1, ap (λ (z : HeldStripe). z.stripe) (sym x.2) ∙ sym (ap (λ (l : StripeLock). l.0) w.2), ap (λ (z : HeldStripe). z.mode) (sym x.2) ∙ sym (ap (λ (l : StripeLock). l.1) w.2))

-- ---- soundness

-- What a plan holds over a group, as it took it, are the fragments of one relation, where the group's stripes were at its start.
pub offered_rows : (spec : Spec) (begun : List HeldStripe) (s : Holding) (taken : List StripeLock) (n : ℕ) → IsOffered begun s taken
    → (r : List Pairs) → AreNowOf spec begun r → AreOfRelation spec (held_of (offering begun s taken n)) r
offered_rows spec begun s taken n k r now = record {
  relation = now.relation;
  satisfies = now.satisfies;
  few = now.few;
  rows = λ g m. let f = (has_run_over begun s taken k).each g m in sym f.rows ∙ now.rows f.from f.held ∙ ap (fragment_of spec r) f.stripe;
}

pub offered_table : (spec : Spec) (begun : List HeldStripe) (s : Holding) (taken : List StripeLock) (n : ℕ)
    → (s.table ≡ edge_table spec) × (length s.offered ≡ stripe_total spec)
    → ((offering begun s taken n).table ≡ edge_table spec) × (length (offering begun s taken n).offered ≡ stripe_total spec)
offered_table spec begun s taken n t = (t.0, length-replicate (length s.offered) None ∙ t.1)
