-- A tuple's rows changed class by class: room for the changes, and one class after another.
use Rattle.std.specs.Prelude.{◌≡◌, ℕ, max, ◌+◌, ◌-◌, ◌<◌, ◌≤◌, ◌==◌, Bool, true, false, List, [], ◌∷◌, cond, drop, filter, get_or, length, map, take}
use Rattle.std.proofs.Common.{inl, inr, refl, sym, ap, subst, ◌∙◌, arith}
use Rattle.rc_machine.proofs.Imports.{and_parts, eq-eqb, ne_eqb, drop_all, drop_more, AreDistinct, In, filter-filter, in_map, map_in, Pairs, Spec, EdgeRow, edge_numbers, class_of, edge_table, shape_of, HasRoomFor, HeldStripe, Holding, IsPartlyAddedAt, LentStripe, changed_at, held_of, reverted, with_changes, with_changes_at, with_now, with_room, with_room_at, held-change, held-room, NumberedRow, class_rows, is_kept, is_kept_of_class, changes_of_class, EdgeShape, AreTakenAlike, CanChange, HaveRoom, IsSameButLent, all_placed, class_edges, ClassStripe, fewer}
use Rattle.rc_machine.proofs.LentLemmas.{lent_again, lent_new, lent_table}
use Rattle.rc_machine.proofs.ReadLemmas.{in_next}
use Rattle.rc_machine.proofs.RevertLemmas.{partly_alike, partly_lent, taken_alike}

-- what stands at a place of a list that has fewer
abbrev pub no_place : ClassStripe
no_place = record { class = 0; stripe = 0 }

-- ---- room is made

-- a tuple of a class changes no more rows than the class has edges
changes_few : (spec : Spec) (c : ℕ) → changes_of_class (edge_table spec) c ≤ length (class_edges spec c)
changes_few spec c =
    let kept : ℕ → Bool = λ e. is_kept_of_class c (shape_of spec e) in
    let n : changes_of_class (edge_table spec) c ≡ length (filter kept (edge_numbers spec)) = as_many (edge_numbers spec) in
    let part : filter kept (class_edges spec c) ≡ filter kept (edge_numbers spec) =
    filter-filter kept (λ e. class_of spec e == c) (λ e q. (and_parts (class_of spec e == c) (is_kept (shape_of spec e).lower) q).0) (edge_numbers spec) in
    let m : length (filter kept (class_edges spec c)) ≤ length (class_edges spec c) = fewer kept (class_edges spec c) in
    let k : length (filter kept (class_edges spec c)) ≡ length (filter kept (edge_numbers spec)) = ap length part in
    omega (arith, n, m, k)
  where
    as_many : (es : List ℕ) → length (filter (is_kept_of_class c) (map (shape_of spec) es)) ≡ length (filter (λ e. is_kept_of_class c (shape_of spec e)) es)
    as_many [] = refl
    as_many (e ∷ es) = go (is_kept_of_class c (shape_of spec e)) (as_many es)
      where
        go : (b : Bool) → length (filter (is_kept_of_class c) (map (shape_of spec) es)) ≡ length (filter (λ e. is_kept_of_class c (shape_of spec e)) es)
            → length (cond b (shape_of spec e ∷ filter (is_kept_of_class c) (map (shape_of spec) es)) (filter (is_kept_of_class c) (map (shape_of spec) es)))
            ≡ length (cond b (e ∷ filter (λ e. is_kept_of_class c (shape_of spec e)) es) (filter (λ e. is_kept_of_class c (shape_of spec e)) es))
        go true ih = omega (arith, ih)
        go false ih = ih

-- room that is made
room_made : (spec : Spec) (stripe c n : ℕ) (old : Holding) → old.table ≡ edge_table spec → 0 < length (class_edges spec c) → n ≡ length (class_edges spec c) → HasRoomFor (with_room_at stripe n old) stripe c
room_made spec stripe c n old table some is = record {
  some = λ l m at. go l m at (λ k. 0 < k) (λ o. let e : n ≡ length (class_edges spec c) = is in omega (arith, some, e));
  all = λ l m at. go l m at (λ k. changes_of_class old.table c ≤ k) (λ o. enough o (ap (λ z. changes_of_class z c) table) (changes_few spec c));
}
  where
    enough : (o : ℕ) → changes_of_class old.table c ≡ changes_of_class (edge_table spec) c → changes_of_class (edge_table spec) c ≤ length (class_edges spec c) → changes_of_class old.table c ≤ max o n
    enough o same few = let e : n ≡ length (class_edges spec c) = is in omega (arith, same, few, e)

    go : (l : LentStripe) → In l (map (with_room stripe n) old.lent) → l.held.stripe ≡ stripe → (P : ℕ → Type 0) → ((o : ℕ) → P (max o n)) → P l.room
    go l m at P enough =
        let o : (o : LentStripe) × In o old.lent × (l ≡ with_room stripe n o) = in_map (with_room stripe n) l old.lent m in
        let here : (o.0.held.stripe == stripe) ≡ true = eq-eqb o.0.held.stripe stripe (sym (ap (λ (z : LentStripe). z.held.stripe) o.2) ∙ at) in
        subst P (sym (ap (λ (z : LentStripe). z.room) o.2 ∙ ap (λ b. cond b (max o.0.room n) o.0.room) here)) (enough o.0.room)

-- room that there was there still is
room_stays : (s c r n : ℕ) (old : Holding) → HasRoomFor old s c → HasRoomFor (with_room_at r n old) s c
room_stays s c r n old f = record {
  some = λ l m at. go l m at (λ k. 0 < k) (λ a b le h. omega (arith, le, h)) f.some;
  all = λ l m at. go l m at (λ k. changes_of_class old.table c ≤ k) (λ a b le h. omega (arith, le, h)) f.all;
}
  where
    go : (l : LentStripe) → In l (map (with_room r n) old.lent) → l.held.stripe ≡ s → (P : ℕ → Type 0) → ((a b : ℕ) → a ≤ b → P a → P b) → ((o : LentStripe) → In o old.lent → o.held.stripe ≡ s → P o.room) → P l.room
    go l m at P more before =
        let o : (o : LentStripe) × In o old.lent × (l ≡ with_room r n o) = in_map (with_room r n) l old.lent m in
        let le : o.0.room ≤ cond (o.0.held.stripe == r) (max o.0.room n) o.0.room = at_least (o.0.held.stripe == r) o.0.room in
        subst P (sym (ap (λ (z : LentStripe). z.room) o.2)) (more o.0.room (cond (o.0.held.stripe == r) (max o.0.room n) o.0.room) le (before o.0 o.1 (sym (ap (λ (z : LentStripe). z.held.stripe) o.2) ∙ at)))
      where
        at_least : (b : Bool) (k : ℕ) → k ≤ cond b (max k n) k
        at_least true k = omega arith
        at_least false k = omega arith

-- and no row changes
pub room_held : (stripe n : ℕ) (old new : Holding) → new ≡ with_room_at stripe n old → held_of new ≡ held_of old
room_held stripe n old new e = ap held_of e ∙ held-room stripe n old

pub room_lent : (stripe n : ℕ) (old new : Holding) → new ≡ with_room_at stripe n old → IsSameButLent old new
room_lent stripe n old new e = lent_new old new (map (with_room stripe n) old.lent) e

-- one more class has room
pub room_more : (spec : Spec) (i n : ℕ) (places : List ClassStripe) (p : ClassStripe) (old new : Holding) → i < length places → p ≡ get_or places i p → old.table ≡ edge_table spec → 0 < length (class_edges spec p.class) → n ≡ length (class_edges spec p.class)
    → HaveRoom (take i places) old → new ≡ with_room_at p.stripe n old → HaveRoom (take (i + 1) places) new
room_more spec i n places p old new l is table some n_is f e q m =
    subst (λ s. HasRoomFor s q.stripe q.class) (sym e) (elim (in_next places i p q l is m) [
      | inl k ↦ room_stays q.stripe q.class p.stripe n old (f q k)
      | inr k ↦ subst (λ (z : ClassStripe). HasRoomFor (with_room_at p.stripe n old) z.stripe z.class) (sym k) (room_made spec p.stripe p.class n old table some n_is)
    ])

-- ---- one class after another

-- what is changed on one stripe leaves the others
module _ (r s : ℕ) (apart : r ≡ s → ⊥) where
  not_it : (k : ℕ) → k ≡ s → (k == r) ≡ false
  not_it k at = ne_eqb k r (λ q. apart (sym q ∙ at))

  module _ (f : List EdgeRow → List EdgeRow) where
    other_held : (held : List HeldStripe) (h : HeldStripe) → In h (changed_at r f held) → h.stripe ≡ s → In h held
    other_held held h m at =
        let q : (g : HeldStripe) × In g held × (h ≡ with_now r f g) = in_map (with_now r f) h held m in
        let same : (with_now r f q.0).stripe ≡ q.0.stripe = stripe_is q.0 (q.0.stripe == r) in
        let g : with_now r f q.0 ≡ q.0 = ap (λ b. cond b (record { stripe = q.0.stripe; mode = q.0.mode; now = f q.0.now; taken = q.0.taken }) q.0)
        (not_it q.0.stripe (sym same ∙ sym (ap (λ (z : HeldStripe). z.stripe) q.2) ∙ at)) in
        subst (λ z. In z held) (sym (q.2 ∙ g)) q.1
      where
        stripe_is : (g : HeldStripe) (b : Bool) → (cond b (record { stripe = g.stripe; mode = g.mode; now = f g.now; taken = g.taken }) g).stripe ≡ g.stripe
        stripe_is g true = refl
        stripe_is g false = refl

    held_other : (held : List HeldStripe) (h : HeldStripe) → In h held → h.stripe ≡ s → In h (changed_at r f held)
    held_other held h m at =
        subst (λ z. In z (changed_at r f held)) (ap (λ b. cond b (record { stripe = h.stripe; mode = h.mode; now = f h.now; taken = h.taken }) h) (not_it h.stripe at)) (map_in (with_now r f) h held m)

    other_room : (n c : ℕ) (old : Holding) → HasRoomFor old s c → HasRoomFor (with_changes_at r n f old) s c
    other_room n c old room = record { some = λ l m at. go l m at (λ k. 0 < k) room.some; all = λ l m at. go l m at (λ k. changes_of_class old.table c ≤ k) room.all }
      where
        go : (l : LentStripe) → In l (map (with_changes r n f) old.lent) → l.held.stripe ≡ s → (P : ℕ → Type 0) → ((o : LentStripe) → In o old.lent → o.held.stripe ≡ s → P o.room) → P l.room
        go l m at P before =
            let o : (o : LentStripe) × In o old.lent × (l ≡ with_changes r n f o) = in_map (with_changes r n f) l old.lent m in
            let same : (with_changes r n f o.0).held.stripe ≡ o.0.held.stripe = stripe_is o.0 (o.0.held.stripe == r) in
            let here : o.0.held.stripe ≡ s = sym same ∙ sym (ap (λ (z : LentStripe). z.held.stripe) o.2) ∙ at in
            subst P (sym (ap (λ (z : LentStripe). z.room) o.2 ∙ ap (λ b. cond b (o.0.room - n) o.0.room) (not_it o.0.held.stripe here))) (before o.0 o.1 here)
          where
            stripe_is : (o : LentStripe) (b : Bool) → (cond b (record { stripe = o.held.stripe; mode = o.held.mode; now = f o.held.now; taken = o.held.taken }) o.held).stripe ≡ o.held.stripe
            stripe_is o true = refl
            stripe_is o false = refl

    -- and what can be changed on another still can
    pub other_can : (holds : List EdgeShape → List EdgeRow → ℕ → Pairs → Type 0) (table : List EdgeShape) (t : Pairs) (held : List HeldStripe) (q : ClassStripe) → q.stripe ≡ s
        → CanChange holds table held t q → CanChange holds table (changed_at r f held) t q
    other_can holds table t held q at can =
        let x = can.exclusive in
        record {
          exclusive = (x.0, held_other held x.0 x.1 (x.2 ∙ at), x.2, x.3);
          can = λ h m e. can.can h (other_held held h m (e ∙ at)) e;
        }

abbrev Holds : Type 1
Holds = List EdgeShape → List EdgeRow → ℕ → Pairs → Type 0

abbrev AllChange : Type 0
AllChange = List NumberedRow → List EdgeRow → List EdgeRow

-- The tuple's rows of the first classes are changed: the others can be, which have room, and once they are all are changed.
pub record AreChangedFirst (change : AllChange) (holds : Holds) (t : Pairs) (places : List ClassStripe) (n : ℕ) (old new : Holding) : Type 0 where
  pub left : all_placed change new.table t (drop n places) (held_of new) ≡ all_placed change old.table t places (held_of old)
  pub apart : AreDistinct (map (λ (p : ClassStripe). p.stripe) (drop n places))
  pub can : (p : ClassStripe) → In p (drop n places) → CanChange holds new.table (held_of new) t p
  pub room : HaveRoom (drop n places) new
  pub alike : AreTakenAlike (held_of old) (held_of new)
  pub lent : IsSameButLent old new

module _ (change : AllChange) (holds : Holds) (t : Pairs) (places : List ClassStripe) (old : Holding) where
  pub none_changed : (new : Holding) → AreDistinct (map (λ (p : ClassStripe). p.stripe) places) → ((p : ClassStripe) → In p places → CanChange holds old.table (held_of old) t p) → held_of new ≡ held_of old → HaveRoom places new → IsSameButLent old new
      → AreChangedFirst change holds t places 0 old new
  none_changed new apart can held room lent =
      let table : new.table ≡ old.table = lent_table old new lent in
      record {
        left = λ i. all_placed change (table i) t places (held i);
        apart = apart;
        can = λ p m. subst (λ z. CanChange holds z (held_of new) t p) (sym table) (subst (λ z. CanChange holds old.table z t p) (sym held) (can p m));
        room = room;
        alike = ap (map reverted) held;
        lent = lent;
      }

  -- in the end all are changed
  pub all_are_changed : (n : ℕ) (new : Holding) → length places ≤ n → AreChangedFirst change holds t places n old new → held_of new ≡ all_placed change old.table t places (held_of old)
  all_are_changed n new l f = ap (λ ps. all_placed change new.table t ps (held_of new)) (sym (drop_all n places l)) ∙ f.left

  module _ (n : ℕ) (mid : Holding) (p : ClassStripe) (l : n < length places) (is : p ≡ get_or places n p) (f : AreChangedFirst change holds t places n old mid) where
    rest : drop n places ≡ p ∷ drop (n + 1) places
    rest = drop_more places n p l ∙ ap (λ z. z ∷ drop (n + 1) places) (sym is)

    next_in : In p (drop n places)
    next_in = subst (In p) (sym rest) (inl refl)

    -- the next class can be changed, and has room
    pub next_can : CanChange holds mid.table (held_of mid) t p
    next_can = f.can p next_in

    pub next_has_room : HasRoomFor mid p.stripe p.class
    next_has_room = f.room p next_in

    others_apart : AreDistinct (map (λ (p : ClassStripe). p.stripe) (p ∷ drop (n + 1) places))
    others_apart = subst (λ ps. AreDistinct (map (λ (p : ClassStripe). p.stripe) ps)) rest f.apart

    abbrev rows : List EdgeRow → List EdgeRow
    rows = change (class_rows mid.table p.class t)

    later_in : (q : ClassStripe) → In q (drop (n + 1) places) → In q (drop n places)
    later_in q m = subst (In q) (sym rest) (inr m)

    differs : (q : ClassStripe) → In q (drop (n + 1) places) → p.stripe ≡ q.stripe → ⊥
    differs q m same = others_apart.0 (subst (λ z. In z (map (λ (p : ClassStripe). p.stripe) (drop (n + 1) places))) (sym same) (map_in (λ (p : ClassStripe). p.stripe) q (drop (n + 1) places) m))

    step_over : (k : ℕ) → AreChangedFirst change holds t places (n + 1) old (with_changes_at p.stripe k rows mid)
    step_over k =
        let held : held_of (with_changes_at p.stripe k rows mid) ≡ changed_at p.stripe rows (held_of mid) = held-change p.stripe k rows mid in
        record {
          left = ap (all_placed change mid.table t (drop (n + 1) places)) held ∙ ap (λ ps. all_placed change mid.table t ps (held_of mid)) (sym rest) ∙ f.left;
          apart = others_apart.1;
          can = λ q m. subst (λ z. CanChange holds mid.table z t q) (sym held) (still_can q (differs q m) (f.can q (later_in q m)));
          room = λ q m. other_room p.stripe q.stripe (differs q m) rows k q.class mid (f.room q (later_in q m));
          alike = ap (map reverted) held ∙ taken_alike p.stripe rows (held_of mid) ∙ f.alike;
          lent = lent_again old mid (with_changes_at p.stripe k rows mid) f.lent (lent_new mid (with_changes_at p.stripe k rows mid) (map (with_changes p.stripe k rows) mid.lent) refl);
        }
      where
        still_can : (q : ClassStripe) → (p.stripe ≡ q.stripe → ⊥) → CanChange holds mid.table (held_of mid) t q → CanChange holds mid.table (changed_at p.stripe rows (held_of mid)) t q
        still_can q other can =
            let x = can.exclusive in
            record {
              exclusive = (x.0, held_other p.stripe q.stripe other rows (held_of mid) x.0 x.1 x.2, x.2, x.3);
              can = λ h m at. can.can h (other_held p.stripe q.stripe other rows (held_of mid) h m at) at;
            }

    pub one_changed_more : (k : ℕ) (new : Holding) → new ≡ with_changes_at p.stripe k (change (class_rows mid.table p.class t)) mid → AreChangedFirst change holds t places (n + 1) old new
    one_changed_more k new e = subst (AreChangedFirst change holds t places (n + 1) old) (sym e) (step_over k)

    -- where only some of its rows are added
    pub partly_so : (new : Holding) → IsPartlyAddedAt p.stripe p.class t mid new → AreTakenAlike (held_of old) (held_of new)
    partly_so new partly = partly_alike p.stripe p.class t mid new partly ∙ f.alike

    pub partly_lent_so : (new : Holding) → IsPartlyAddedAt p.stripe p.class t mid new → IsSameButLent old new
    partly_lent_so new partly = lent_again old mid new f.lent (partly_lent p.stripe p.class t mid new partly)
