-- What a holder of a pass tells, and what its calls leave of it.
use Rattle.std.specs.Prelude.{◌≡◌, ℕ, suc, ◌-◌, ◌<◌, ◌≤◌, ◌==◌, ◌⊎◌, Bool, true, false, List, [], ◌∷◌, map, length, cond, max, Option, None, Some, Result, Ok, Err, OnOk, OnErr, IfSome, All}
use Rattle.std.proofs.Common.{refl, sym, ap, subst, ◌∙◌, inl, inr, arith}
use Rattle.std.proofs.lemmas.List.{length-replicate}
use Rattle.std.proofs.lemmas.List.Elements.{All-cons, All-contains, All-map, All-nil}
use Rattle.std.proofs.lemmas.Simd.{map-map}
use Rattle.rc_store.specs.Imports.{satisfies_none, In, in_contains, in_map, map_in, Pairs, Found, Mode, Exclusive, Spec, EdgeRow, stripe_total, Held, EdgeShape, HasColumns, HasNoRowOf, edge_row, edge_table, FragmentRows, with_promise, AreOfOneRelation, CanLower, CanRaise, CanRaiseNew, HasRefused, HasRisen, HasRoomFor, HeldStripe, IsHeld, IsHeldExclusive, IsLent, IsPartlyAddedAt, LentStripe, held_of, with_changes, with_changes_at, with_room, with_room_at, ArePartlyAdded, CanAddTuple, HasTuple, IsFirstKept, changed_by, changes_of_class, Hold, in_stripes, stripes_have, stripes_in_have, IsAbove, hold, stripes_in, writes_of, HeldRows, CanAddNewTo, CanAddTo, CanSubFrom, IsPartlyAddedOn, IsPassOf, OfHeld, PassSeen, RowSeen, core_of, holds_now, holds_taken, spec_of, with_fragment, with_held, with_standing, with_taken, HaveOneRelation, turned_away, without_wish, refusals_first, all_now, all_taken, hold_now, hold_taken}
use Rattle.rc_fragment.specs.Holder.{IsAbove as IsAboveHeld}
use Rattle.rc_row.specs.Passes.{stripes_of}
use Rattle.rc_store.specs.Busy.{IsForMemory}
use Rattle.rc_store.specs.declared.lender.Refused.{Refused}
use Rattle.rc_store.specs.Lending.{IsLentBy, IsLentSo, IsOnTheWay, IsToldOf, IsUnrefused, Lent, count_told, held_stripe, held_stripes, lending, lent_stripe, lent_stripes}
use Rattle.rc_store.specs.Taking.{HasGivenUp, HasTakenStripe}

-- ---- what is held

pub held_of-lending : (row : RowSeen) (pass : PassSeen) (refused : Option Refused) (n : ℕ) → held_of (lending row pass refused n) ≡ held_stripes pass.held
held_of-lending row pass refused n = map-map (λ (l : LentStripe). l.held) lent_stripe pass.held

-- the holds of a pass are those of what it holds
pub all_taken-held : (held : List HeldRows) → holds_taken held ≡ all_taken (held_stripes held)
all_taken-held held = sym (map-map hold_taken held_stripe held)

pub all_now-held : (held : List HeldRows) → holds_now held ≡ all_now (held_stripes held)
all_now-held held = sym (map-map hold_now held_stripe held)

-- ---- soundness

pub lent_table : (waits : Bool) (lent : Option Lent) (row : RowSeen) (pass : PassSeen) (refused : Option Refused) (n : ℕ) (spec : Spec) → IsLentSo waits lent row pass refused spec
    → ((lending row pass refused n).table ≡ edge_table spec) × (length (lending row pass refused n).offered ≡ stripe_total spec)
lent_table waits (Some lent) row pass refused n spec l = (ap edge_table (sym l.spec_is), length-replicate (stripe_total (spec_of row)) None ∙ ap stripe_total (sym l.spec_is))
lent_table waits None row pass refused n spec l = absurd l

-- holds that have one relation are, as held stripes, of it
pub one_relation : (spec : Spec) (held : List HeldRows) (holds : List Hold) → holds_taken held ≡ holds → HaveOneRelation spec holds → AreOfOneRelation spec (held_stripes held)
one_relation spec held holds agrees one = (
  one.relation,
  record {
    relation = one.is_relation;
    satisfies = one.satisfies;
    few = (let l = one.few in omega arith);
    rows = λ h m.
        let taken : In (hold_taken h) holds = subst (In (hold_taken h)) (sym (all_taken-held held) ∙ agrees) (map_in hold_taken h (held_stripes held) m) in
        one.rows (hold_taken h) taken;
  },
)

pub lent_rows : (waits : Bool) (lent : Option Lent) (row : RowSeen) (pass : PassSeen) (refused : Option Refused) (n : ℕ) (spec : Spec) → IsLentSo waits lent row pass refused spec
    → AreOfOneRelation spec (held_of (lending row pass refused n))
lent_rows waits (Some lent) row pass refused n spec l =
    subst (AreOfOneRelation spec) (sym (held_of-lending row pass refused n))
    (one_relation spec pass.held (core_of pass).held l.way.agrees (subst (λ s. HaveOneRelation s (core_of pass).held) (sym l.spec_is) l.way.one))
lent_rows waits None row pass refused n spec l = absurd l

-- a pass after some of a tuple's rows were added
partly_with : (p class : ℕ) (t : Pairs) (old new : PassSeen) → (partly : IsPartlyAddedOn p class t old new) → new ≡ with_held p (changed_by partly.held.changes (λ _. partly.held.rows)) old
partly_with p class t old new partly = partly.value ∙ ap (λ (hs : List HeldRows). let q : PassSeen = record old { held = hs } in q) partly.held.value

-- ---- what is held, by the core

module _ (row : RowSeen) (pass : PassSeen) (refused : Option Refused) (n : ℕ) where
  -- a stripe held by a holder is one of the pass's holds
  hold_there : holds_taken pass.held ≡ (core_of pass).held → (h : HeldStripe) → In h (held_of (lending row pass refused n)) → In (hold_taken h) (core_of pass).held
  hold_there agrees h m =
      subst (In (hold_taken h)) (sym (all_taken-held pass.held) ∙ agrees)
      (map_in hold_taken h (held_stripes pass.held) (subst (In h) (held_of-lending row pass refused n) m))

  pub held_there : (p : ℕ) → holds_taken pass.held ≡ (core_of pass).held → IsHeld (held_of (lending row pass refused n)) p → In p (stripes_in (core_of pass).held)
  held_there p agrees is =
      subst (λ q. In q (stripes_in (core_of pass).held)) is.2 (stripes_have (hold_taken is.0) (core_of pass).held (hold_there agrees is.0 is.1))

  pub written_there : (p : ℕ) → holds_taken pass.held ≡ (core_of pass).held → IsHeldExclusive (held_of (lending row pass refused n)) p → In p (writes_of (core_of pass))
  written_there p agrees is =
      subst (λ q. In q (writes_of (core_of pass))) is.2
      (stripes_in_have Exclusive (hold_taken is.0) (core_of pass).held (hold_there agrees is.0 is.1) is.3)

  pub above_there : (p : ℕ) → holds_taken pass.held ≡ (core_of pass).held → IsAboveHeld (held_of (lending row pass refused n)) p → IsAbove (core_of pass) p
  above_there p agrees above q m =
      let w : (h : Hold) × In h (core_of pass).held × (q ≡ h.stripe) = in_stripes q (core_of pass).held m in
      let taken : In w.0 (all_taken (held_stripes pass.held)) = subst (In w.0) (sym agrees ∙ all_taken-held pass.held) w.1 in
      let v : (h : HeldStripe) × In h (held_stripes pass.held) × (w.0 ≡ hold_taken h) = in_map hold_taken w.0 (held_stripes pass.held) taken in
      subst (λ (k : ℕ). k < p) (sym (w.2 ∙ ap (λ (h : Hold). h.stripe) v.2))
      (above v.0 (subst (In v.0) (sym (held_of-lending row pass refused n)) v.1))

  -- ---- changes that may be made

  -- what holds of each fragment that is held
  each_held : (P : HeldRows → Type 0) → ((h : HeldRows) → In h pass.held → P h) → All P pass.held
  each_held P each = go pass.held each
    where
      go : (hs : List HeldRows) → ((h : HeldRows) → In h hs → P h) → All P hs
      go [] each = All-nil P
      go (h ∷ hs) each = All-cons P h hs (each h (inl refl)) (go hs (λ x m. each x (inr m)))

  shape_there : IsPassOf row pass → (h : HeldRows) → In h pass.held → h.fragment.table ≡ edge_table (spec_of row)
  shape_there of h m = All-contains (λ (h : HeldRows). h.fragment.table ≡ edge_table (spec_of row)) pass.held h of.shapes (in_contains h pass.held m)

  lent_there : (h : HeldRows) → In h pass.held → In (held_stripe h) (held_of (lending row pass refused n))
  lent_there h m = subst (In (held_stripe h)) (sym (held_of-lending row pass refused n)) (map_in held_stripe h pass.held m)

  pub may_add : (p class : ℕ) (t : Pairs) → IsPassOf row pass → HasRoomFor (lending row pass refused n) p class → CanRaise (lending row pass refused n) p class t
      → OfHeld pass.held p (CanAddTo class t)
  may_add p class t of room can =
      each_held (λ (h : HeldRows). h.stripe ≡ p → CanAddTo class t h.fragment) (λ h m at.
      let shape : h.fragment.table ≡ edge_table (spec_of row) = shape_there of h m in
      record {
        owned = subst (λ (table : List EdgeShape). changes_of_class table class ≤ h.fragment.room) (sym shape) (room.all (lent_stripe h) (map_in lent_stripe h pass.held m) at);
        some = room.some (lent_stripe h) (map_in lent_stripe h pass.held m) at;
        can = subst (λ (table : List EdgeShape). CanAddTuple table h.fragment.now class t) (sym shape) (can (held_stripe h) (lent_there h m) at);
      })

  pub may_add_new : (p class e : ℕ) (t : Pairs) → IsPassOf row pass → e < length (edge_table (spec_of row)) → IsFirstKept (edge_table (spec_of row)) class e → HasRoomFor (lending row pass refused n) p class
      → HasColumns (edge_table (spec_of row)) e (edge_row (edge_table (spec_of row)) e t) → CanRaiseNew (lending row pass refused n) p class e t
      → OfHeld pass.held p (CanAddNewTo class e t)
  may_add_new p class e t of known first room columns can =
      each_held (λ (h : HeldRows). h.stripe ≡ p → CanAddNewTo class e t h.fragment) (λ h m at.
      let shape : h.fragment.table ≡ edge_table (spec_of row) = shape_there of h m in
      record {
        known = subst (λ (table : List EdgeShape). e < length table) (sym shape) known;
        first = subst (λ (table : List EdgeShape). IsFirstKept table class e) (sym shape) first;
        owned = subst (λ (table : List EdgeShape). changes_of_class table class ≤ h.fragment.room) (sym shape) (room.all (lent_stripe h) (map_in lent_stripe h pass.held m) at);
        some = room.some (lent_stripe h) (map_in lent_stripe h pass.held m) at;
        columns = subst (λ (table : List EdgeShape). HasColumns table e (edge_row table e t)) (sym shape) columns;
        can = λ none. subst (λ (table : List EdgeShape). CanAddTuple table h.fragment.now class t) (sym shape)
            (can (held_stripe h) (lent_there h m) at (subst (λ (table : List EdgeShape). HasNoRowOf table h.fragment.now e t) shape none));
      })

  pub may_sub : (p class : ℕ) (t : Pairs) → IsPassOf row pass → HasRoomFor (lending row pass refused n) p class → CanLower (lending row pass refused n) p class t
      → OfHeld pass.held p (CanSubFrom class t)
  may_sub p class t of room can =
      each_held (λ (h : HeldRows). h.stripe ≡ p → CanSubFrom class t h.fragment) (λ h m at.
      let shape : h.fragment.table ≡ edge_table (spec_of row) = shape_there of h m in
      record {
        owned = subst (λ (table : List EdgeShape). changes_of_class table class ≤ h.fragment.room) (sym shape) (room.all (lent_stripe h) (map_in lent_stripe h pass.held m) at);
        some = room.some (lent_stripe h) (map_in lent_stripe h pass.held m) at;
        there = subst (λ (table : List EdgeShape). HasTuple table h.fragment.now class t) (sym shape) (can (held_stripe h) (lent_there h m) at);
      })

  -- a stripe that is told is one that is held
  of_told : (g : HeldStripe) → In g (held_of (lending row pass refused n)) → (h : HeldRows) × In h pass.held × (g ≡ held_stripe h)
  of_told g m = in_map held_stripe g pass.held (subst (In g) (held_of-lending row pass refused n) m)

  of_fragment : (p : ℕ) (fact : FragmentRows → Type 0) → OfHeld pass.held p fact → (h : HeldRows) → In h pass.held → h.stripe ≡ p → fact h.fragment
  of_fragment p fact all h m = All-contains (λ (h : HeldRows). h.stripe ≡ p → fact h.fragment) pass.held h all (in_contains h pass.held m)

  -- the fragment of a held stripe is lent
  pub lent_so : (p : ℕ) (f : FragmentRows) → IsPassOf row pass → OfHeld pass.held p (λ g. f ≡ g) → IsHeld (held_of (lending row pass refused n)) p
      → IsLent (lending row pass refused n) p f
  lent_so p f of same is = record {
    table =
        let w = of_told is.0 is.1 in
        let at : w.0.stripe ≡ p = sym (ap (λ (h : HeldStripe). h.stripe) w.2) ∙ is.2 in
        ap (λ (g : FragmentRows). g.table) (of_fragment p (λ g. f ≡ g) same w.0 w.1 at) ∙ shape_there of w.0 w.1;
    now = λ g m e.
        let w = of_told g m in
        ap (λ (g : FragmentRows). g.now) (of_fragment p (λ g. f ≡ g) same w.0 w.1 (sym (ap (λ (h : HeldStripe). h.stripe) w.2) ∙ e)) ∙ sym (ap (λ (h : HeldStripe). h.now) w.2);
  }

  -- ---- what is told after a change

  abbrev changed_so : (HeldRows → FragmentRows) → PassSeen
  changed_so fragment = record pass { held = map (with_fragment fragment) pass.held }

  lent_each : (fragment : HeldRows → FragmentRows) (g : LentStripe → LentStripe) (hs : List HeldRows) → ((h : HeldRows) → In h hs → lent_stripe (with_fragment fragment h) ≡ g (lent_stripe h))
      → lent_stripes (map (with_fragment fragment) hs) ≡ map g (lent_stripes hs)
  lent_each fragment g [] same = refl
  lent_each fragment g (h ∷ hs) same = λ i. same h (inl refl) i ∷ lent_each fragment g hs (λ x m. same x (inr m)) i

  pub told_room : (p changes : ℕ) → lending row (with_held p (with_promise changes) pass) refused n ≡ with_room_at p changes (lending row pass refused n)
  told_room p changes = ap (λ (ls : List LentStripe). record (lending row pass refused n) { lent = ls }) (lent_each fragment (with_room p changes) pass.held (λ h m. one h (h.stripe == p)))
    where
      fragment : HeldRows → FragmentRows
      fragment h = cond (h.stripe == p) (with_promise changes h.fragment) h.fragment

      one : (h : HeldRows) (b : Bool) → lent_stripe (with_fragment (λ h. cond b (with_promise changes h.fragment) h.fragment) h) ≡ record { held = held_stripe h; room = cond b (max h.fragment.room changes) h.fragment.room }
      one h true = refl
      one h false = refl

  -- changes that the table tells, as those of a tuple's rows
  pub told_change : (p : ℕ) (count : List EdgeShape → ℕ) (change : List EdgeShape → List EdgeRow → List EdgeRow) → IsPassOf row pass
      → lending row (with_held p (λ f. changed_by (count f.table) (change f.table) f) pass) refused n
      ≡ with_changes_at p (count (edge_table (spec_of row))) (change (edge_table (spec_of row))) (lending row pass refused n)
  told_change p count change of =
      ap (λ (ls : List LentStripe). record (lending row pass refused n) { lent = ls })
      (lent_each fragment (with_changes p (count (edge_table (spec_of row))) (change (edge_table (spec_of row)))) pass.held
      (λ h m. one h (h.stripe == p) ∙ ap (λ (table : List EdgeShape). with_changes p (count table) (change table) (lent_stripe h)) (shape_there of h m)))
    where
      fragment : HeldRows → FragmentRows
      fragment h = cond (h.stripe == p) (changed_by (count h.fragment.table) (change h.fragment.table) h.fragment) h.fragment

      one : (h : HeldRows) (b : Bool) → lent_stripe (with_fragment (λ h. cond b (changed_by (count h.fragment.table) (change h.fragment.table) h.fragment) h.fragment) h) ≡ record {
        held = cond b (record { stripe = h.stripe; mode = h.mode; now = change h.fragment.table h.fragment.now; taken = h.fragment.taken }) (held_stripe h);
        room = cond b (h.fragment.room - count h.fragment.table) h.fragment.room;
      }
      one h true = refl
      one h false = refl

  -- some of a tuple's rows that were added to a stripe that is held
  pub told_partly : (p class : ℕ) (t : Pairs) (new : PassSeen) → IsPassOf row pass → IsHeld (held_of (lending row pass refused n)) p → IsPartlyAddedOn p class t pass new
      → IsPartlyAddedAt p class t (lending row pass refused n) (lending row new refused n)
  told_partly p class t new of held partly =
      let some = partly.held in
      record {
        changes = some.changes;
        few =
            let w = of_told held.0 held.1 in
            subst (λ (table : List EdgeShape). some.changes ≤ changes_of_class table class) (shape_there of w.0 w.1)
            (of_fragment p (λ f. some.changes ≤ changes_of_class f.table class) some.few w.0 w.1 (sym (ap (λ (h : HeldStripe). h.stripe) w.2) ∙ held.2));
        change = λ _. some.rows;
        added = λ g m at.
            let w = of_told g m in
            subst (λ rows. ArePartlyAdded (edge_table (spec_of row)) class t rows some.rows) (sym (ap (λ (h : HeldStripe). h.now) w.2))
            (subst (λ (table : List EdgeShape). ArePartlyAdded table class t w.0.fragment.now some.rows) (shape_there of w.0 w.1)
            (of_fragment p (λ f. ArePartlyAdded f.table class t f.now some.rows) some.added w.0 w.1 (sym (ap (λ (h : HeldStripe). h.stripe) w.2) ∙ at)));
        value = ap (λ (q : PassSeen). lending row q refused n) (partly_with p class t pass new partly) ∙ told_change p (λ _. some.changes) (λ _ _. some.rows) of;
      }

  -- what is so of the fragment of a stripe is told of its rows
  pub told_rows : (P : List EdgeShape → List EdgeRow → Type 0) (p : ℕ) → IsPassOf row pass → OfHeld pass.held p (λ f. P f.table f.now)
      → (h : HeldStripe) → In h (held_of (lending row pass refused n)) → h.stripe ≡ p → P (edge_table (spec_of row)) h.now
  told_rows P p of facts h m at =
      let w = of_told h m in
      subst (P (edge_table (spec_of row))) (sym (ap (λ (h : HeldStripe). h.now) w.2))
      (subst (λ (table : List EdgeShape). P table w.0.fragment.now) (shape_there of w.0 w.1)
      (of_fragment p (λ f. P f.table f.now) facts w.0 w.1 (sym (ap (λ (h : HeldStripe). h.stripe) w.2) ∙ at)))

  -- ---- what stays after a change

  taken_each : (fragment : HeldRows → FragmentRows) → ((h : HeldRows) → (fragment h).taken ≡ h.fragment.taken) → (hs : List HeldRows) → holds_taken (map (with_fragment fragment) hs) ≡ holds_taken hs
  taken_each fragment same [] = refl
  taken_each fragment same (h ∷ hs) = λ i. hold h.stripe h.mode (same h i) ∷ taken_each fragment same hs i

  pub still_of_row : (fragment : HeldRows → FragmentRows) → ((h : HeldRows) → (fragment h).table ≡ h.fragment.table) → IsPassOf row pass → IsPassOf row (changed_so fragment)
  still_of_row fragment same of = record {
    table = of.table;
    inside = All-map (λ (h : HeldRows). h.stripe < stripes_of row) (with_fragment fragment) pass.held of.inside;
    shapes = All-map (λ (h : HeldRows). h.fragment.table ≡ edge_table (spec_of row)) (with_fragment fragment) pass.held (each_held (λ (h : HeldRows). (fragment h).table ≡ edge_table (spec_of row)) (λ h m. same h ∙ shape_there of h m));
    keeps = of.keeps;
  }

  pub still_lent : (fragment : HeldRows → FragmentRows) → ((h : HeldRows) → (fragment h).taken ≡ h.fragment.taken) → (waits : Bool) (lent : Option Lent) (spec : Spec)
      → IsLentSo waits lent row pass refused spec → IsLentSo waits lent row (changed_so fragment) refused spec
  still_lent fragment same waits None spec l = absurd l
  still_lent fragment same waits (Some lent) spec l = record {
    spec_is = l.spec_is;
    row_is = l.row_is;
    way = record {
      ran = record { core = l.way.ran.core; table = l.way.ran.table; kept = l.way.ran.kept; refusals = l.way.ran.refusals; known = l.way.ran.known };
      agrees = taken_each fragment same pass.held ∙ l.way.agrees;
      one = l.way.one;
    };
    told = told refused l.told;
  }
    where
      told : (r : Option Refused) → IsToldOf waits row lent.begun pass r → IsToldOf waits row lent.begun (changed_so fragment) r
      told None t = record { at_once = t.at_once; wish = t.wish }
      told (Some at) t = (t.0, record { risen = t.1.risen; last = t.1.last; found = t.1.found })

-- changes at one stripe that leave table and rows as taken
pub table_at : (change : FragmentRows → FragmentRows) → ((f : FragmentRows) → (change f).table ≡ f.table) → (p : ℕ) (h : HeldRows) → (cond (h.stripe == p) (change h.fragment) h.fragment).table ≡ h.fragment.table
table_at change same p h = go (h.stripe == p)
  where
    go : (b : Bool) → (cond b (change h.fragment) h.fragment).table ≡ h.fragment.table
    go true = same h.fragment
    go false = refl

pub taken_at : (change : FragmentRows → FragmentRows) → ((f : FragmentRows) → (change f).taken ≡ f.taken) → (p : ℕ) (h : HeldRows) → (cond (h.stripe == p) (change h.fragment) h.fragment).taken ≡ h.fragment.taken
taken_at change same p h = go (h.stripe == p)
  where
    go : (b : Bool) → (cond b (change h.fragment) h.fragment).taken ≡ h.fragment.taken
    go true = same h.fragment
    go false = refl

-- ---- after a change of one stripe

module _ (row : RowSeen) (pass : PassSeen) (change : FragmentRows → FragmentRows) (p : ℕ) where
  pub at_of_row : ((f : FragmentRows) → (change f).table ≡ f.table) → IsPassOf row pass → IsPassOf row (with_held p change pass)
  at_of_row same of = still_of_row row pass None 0 (λ h. cond (h.stripe == p) (change h.fragment) h.fragment) (table_at change same p) of

  pub at_lent : ((f : FragmentRows) → (change f).taken ≡ f.taken) → (refused : Option Refused) (waits : Bool) (lent : Option Lent) (spec : Spec)
      → IsLentSo waits lent row pass refused spec → IsLentSo waits lent row (with_held p change pass) refused spec
  at_lent same refused waits lent spec l = still_lent row pass refused 0 (λ h. cond (h.stripe == p) (change h.fragment) h.fragment) (taken_at change same p) waits lent spec l

  -- and where it may have failed, and left all as it was
  pub may_of_row : {T E : Type 0} (result : Result T E) (new : PassSeen) → ((f : FragmentRows) → (change f).table ≡ f.table)
      → OnOk result (new ≡ with_held p change pass) → OnErr result (new ≡ pass) → IsPassOf row pass → IsPassOf row new
  may_of_row (Ok x) new same ok err of = subst (IsPassOf row) (sym ok) (at_of_row same of)
  may_of_row (Err x) new same ok err of = subst (IsPassOf row) (sym err) of

  pub may_lent : {T E : Type 0} (result : Result T E) (new : PassSeen) → ((f : FragmentRows) → (change f).taken ≡ f.taken)
      → OnOk result (new ≡ with_held p change pass) → OnErr result (new ≡ pass) → (refused : Option Refused) (waits : Bool) (lent : Option Lent) (spec : Spec)
      → IsLentSo waits lent row pass refused spec → IsLentSo waits lent row new refused spec
  may_lent (Ok x) new same ok err refused waits lent spec l = subst (λ (q : PassSeen). IsLentSo waits lent row q refused spec) (sym ok) (at_lent same refused waits lent spec l)
  may_lent (Err x) new same ok err refused waits lent spec l = subst (λ (q : PassSeen). IsLentSo waits lent row q refused spec) (sym err) l

-- ---- after changes of the rows of one stripe, all or some of them

module _ (row : RowSeen) (pass : PassSeen) (change : FragmentRows → FragmentRows) (p : ℕ) {T E : Type 0} (result : Result T E) (new : PassSeen)
    (ok : OnOk result (new ≡ with_held p change pass)) (class : ℕ) (t : Pairs) (err : OnErr result (IsPartlyAddedOn p class t pass new)) where
  pub partly_of_row : ((f : FragmentRows) → (change f).table ≡ f.table) → IsPassOf row pass → IsPassOf row new
  partly_of_row same of = go result ok err
    where
      go : (r : Result T E) → OnOk r (new ≡ with_held p change pass) → OnErr r (IsPartlyAddedOn p class t pass new) → IsPassOf row new
      go (Ok x) e b = subst (IsPassOf row) (sym e) (at_of_row row pass change p same of)
      go (Err x) e b = subst (IsPassOf row) (sym (partly_with p class t pass new b)) (at_of_row row pass (changed_by b.held.changes (λ _. b.held.rows)) p (λ f. refl) of)

  pub partly_lent : ((f : FragmentRows) → (change f).taken ≡ f.taken) → (refused : Option Refused) (waits : Bool) (lent : Option Lent) (spec : Spec)
      → IsLentSo waits lent row pass refused spec → IsLentSo waits lent row new refused spec
  partly_lent same refused waits lent spec l = go result ok err
    where
      go : (r : Result T E) → OnOk r (new ≡ with_held p change pass) → OnErr r (IsPartlyAddedOn p class t pass new) → IsLentSo waits lent row new refused spec
      go (Ok x) e b = subst (λ (q : PassSeen). IsLentSo waits lent row q refused spec) (sym e) (at_lent row pass change p same refused waits lent spec l)
      go (Err x) e b = subst (λ (q : PassSeen). IsLentSo waits lent row q refused spec) (sym (partly_with p class t pass new b)) (at_lent row pass (changed_by b.held.changes (λ _. b.held.rows)) p (λ f. refl) refused waits lent spec l)

-- ---- a refused take

module _ (row : RowSeen) (pass new : PassSeen) (refused : Option Refused) (n stripe : ℕ) (mode : Mode) (found : Found) where
  risen_told : (r : Option Refused) (at : Refused) → new ≡ with_standing (turned_away mode pass.standing stripe found) pass → HasRisen (count_told r pass.standing) (count_told (Some at) new.standing)
  risen_told r at e = go r (ap (λ (q : PassSeen). q.standing.refusals) e)
    where
      go : (r : Option Refused) → new.standing.refusals ≡ suc pass.standing.refusals → HasRisen (count_told r pass.standing) (suc new.standing.refusals)
      go None e = inl (omega arith)
      go (Some at) e = inl (omega (arith, e))

  pub refused_so : (at : Refused) → at.answer ≡ record { stripe = stripe; found = found } → at.mode ≡ mode → at.pass.value ≡ new
      → new ≡ with_standing (turned_away mode pass.standing stripe found) pass
      → (h : Held) → at.answer ≡ h → HasRefused (lending row pass refused n) (lending row new (Some at) n) stripe mode h
  refused_so at answer asked seen e h same = record {
    risen = risen_told refused at e;
    last = (
      same,
      ap (λ (x : Held). x.stripe) (sym same ∙ answer),
      asked,
      ap held_stripes (ap (λ (q : PassSeen). q.held) (seen ∙ e)) ∙ sym (held_of-lending row pass refused n),
    );
  }

-- what holds of a value that is there
pub some_of : {A : Type 0} (o : Option A) (x : A) (P : A → Type 0) → o ≡ Some x → IfSome o P → P x
some_of o x P e h = subst (λ o. IfSome o P) e h

-- ---- the start of a call

-- ---- refused steps, and what is wanted

-- no step was refused, and nothing else is wanted
pub none_refused : (waits : Bool) (old new : PassSeen) → new.standing.refusals ≡ old.standing.refusals → (core_of new).wish ≡ (core_of old).wish → IsUnrefused waits old new
none_refused waits old new refusals wish = record { at_once = λ at_once. refusals; wish = inr (refusals, wish) }

-- one run after another
pub none_refused_then : (waits : Bool) (begun old new : PassSeen) → IsUnrefused waits begun old → IsUnrefused waits old new → IsUnrefused waits begun new
none_refused_then waits begun old new one other = record { at_once = λ at_once. other.at_once at_once ∙ one.at_once at_once; wish = wanted one.wish other.wish }
  where
    wanted : ((core_of old).wish ≡ None) ⊎ ((old.standing.refusals ≡ begun.standing.refusals) × ((core_of old).wish ≡ (core_of begun).wish))
        → ((core_of new).wish ≡ None) ⊎ ((new.standing.refusals ≡ old.standing.refusals) × ((core_of new).wish ≡ (core_of old).wish))
        → ((core_of new).wish ≡ None) ⊎ ((new.standing.refusals ≡ begun.standing.refusals) × ((core_of new).wish ≡ (core_of begun).wish))
    wanted before (inl none) = inl none
    wanted (inl none) (inr same) = inl (same.1 ∙ none)
    wanted (inr old_same) (inr same) = inr (same.0 ∙ old_same.0, same.1 ∙ old_same.1)

-- a take that waited has taken all that it waited for
pub unrefused_taken : (waits : Bool) (row : RowSeen) (mode : Mode) (stripe : ℕ) (begun old new : PassSeen) → IsUnrefused waits begun old → HasTakenStripe waits row mode stripe old new
    → IsUnrefused waits begun new
unrefused_taken waits row mode stripe begun old new u t = record {
  at_once = λ at_once. ap (λ (q : PassSeen). q.standing.refusals) (t.is ∙ ap (with_taken (spec_of row) mode stripe t.rows) (t.waits_so.at_once at_once)) ∙ u.at_once at_once;
  wish = inl (ap (λ (q : PassSeen). (core_of q).wish) t.is);
}

-- and one for which memory was wanted wants nothing
pub unrefused_given_up : (waits : Bool) (row : RowSeen) (mode : Mode) (stripe : ℕ) (begun old new : PassSeen) → IsUnrefused waits begun old → HasGivenUp waits row mode stripe old new
    → IsUnrefused waits begun new
unrefused_given_up waits row mode stripe begun old new u g = record {
  at_once = λ at_once. ap (λ (q : PassSeen). q.standing.refusals) (g.is ∙ ap (λ (q : PassSeen). with_standing (without_wish q.standing) q) (g.waits_so.at_once at_once)) ∙ u.at_once at_once;
  wish = inl (ap (λ (q : PassSeen). (core_of q).wish) g.is);
}

-- so memory alone can have ended a call that waits
pub is_for_memory : (waits : Bool) (old new : PassSeen) → IsUnrefused waits old new → IsForMemory old new
is_for_memory waits old new u = either u.wish
  where
    either : ((core_of new).wish ≡ None) ⊎ ((new.standing.refusals ≡ old.standing.refusals) × ((core_of new).wish ≡ (core_of old).wish)) → IsForMemory old new
    either (inl none) = inr none
    either (inr same) = inl same.0

-- a pass that holds nothing is on the way of a call that begins with it
pub at_first : (row : RowSeen) (pass : PassSeen) → holds_taken pass.held ≡ (core_of pass).held → pass.held ≡ [] → IsOnTheWay row pass pass
at_first row pass agrees idle = record {
  ran = record { core = refl; table = refl; kept = refl; refusals = refusals_first pass.standing; known = refl };
  agrees = agrees;
  one = record {
    relation = [];
    is_relation = record { rising = tt; each = λ t m. absurd m };
    satisfies = satisfies_none (spec_of row).deps;
    few = omega arith;
    rows = λ h m. absurd (subst (In h) (sym agrees ∙ ap holds_taken idle) m);
  };
}

pub lent_first : (waits : Bool) (lent : Option Lent) (row : RowSeen) (pass : PassSeen) (spec : Spec) → lent ≡ Some (record { row = row; begun = pass }) → spec ≡ spec_of row
    → holds_taken pass.held ≡ (core_of pass).held → pass.held ≡ [] → IsLentSo waits lent row pass None spec
lent_first waits lent row pass spec e s agrees idle =
    subst (λ (l : Option Lent). IsLentSo waits l row pass None spec) (sym e) (record { spec_is = s; row_is = refl; way = at_first row pass agrees idle; told = none_refused waits pass pass refl refl })

-- a holder at the end, of the row that was lent
pub lent_last : (waits : Bool) (lent : Option Lent) (row other : RowSeen) (begun now : PassSeen) (refused : Option Refused) (spec : Spec)
    → lent ≡ Some (record { row = row; begun = begun }) → IsLentSo waits lent other now refused spec → IsLentBy waits (record { row = row; begun = begun }) other now refused spec
lent_last waits lent row other begun now refused spec e l = subst (λ (x : Option Lent). IsLentSo waits x other now refused spec) e l
