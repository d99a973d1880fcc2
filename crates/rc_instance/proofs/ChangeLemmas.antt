-- A change of one stripe, as a holder's calls promise it.
use Rattle.std.specs.Prelude.{◌≡◌, ℕ, zero, suc, max, ◌+◌, ◌-◌, ◌<◌, ◌≤◌, cond, List, [], ◌∷◌, ◌++◌, Option, None, Some, length, map}
use Rattle.rc_instance.proofs.Imports.{slice_get, set, eq-eqb, length-append, length-set, map-append, same_Some, slice_get_read, In, slice_get_in, Pairs, EdgeRow, Mode, Spec, FragmentRows, with_promise, NumberedRow, class_rows, IsAtRest, HeldStripe, LentStripe, AreOffered, CanLower, CanRaise, HasRoomFor, HasTaken, IsAbove, IsHeld, IsLent, IsPartlyAddedAt, held_of, just_taken, with_changes, with_changes_at, with_room, with_room_at, ArePartlyAdded, CanAddTuple, HasTuple, IsPartlyAdded, changed_by, changes_of_class, held_from, held_numbers, holding, lent_from, stripes_of, table_of, IsOfOneRelation, IsInstance, IsWholeInstance, Stripe, as_held, held_of-holding, lent_as, place_in}
use Rattle.std.proofs.Common.{inl, refl, sym, ap, subst, ◌∙◌, arith, get_or}
use Rattle.rc_instance.proofs.StripeLemmas.{IsHeldAs, above_is_free, held_as, held_below, held_not_free, instance-set, lent_from-set, lent_from-taken, lent_from_in, not_equal, sound-set, table_of-set, with_now-here, with_now-other}
use Rattle.rc_instance.proofs.NumberLemmas.{numbers-lent, numbers-set, numbers_few}
use Rattle.rc_instance.proofs.StripesOfLemmas.{mode_at, stripes_of-held, stripes_of-length, stripes_of-set, stripes_of-there}

-- ---- what is done to a lent stripe

room-other : (k n : ℕ) (l : LentStripe) → (l.held.stripe ≡ k → ⊥) → with_room k n l ≡ l
room-other k n l d = ap (λ b. (let z : LentStripe = record { held = l.held; room = cond b (max l.room n) l.room } in z)) (not_equal l.held.stripe k d)

room-here : (k n : ℕ) (f : FragmentRows) (mode : Mode) → with_room k n (lent_as k mode f) ≡ lent_as k mode (with_promise n f)
room-here k n f mode = ap (λ b. (let z : LentStripe = record { held = as_held k mode f; room = cond b (max f.room n) f.room } in z)) (eq-eqb k k refl)

change-other : (k n : ℕ) (change : List EdgeRow → List EdgeRow) (l : LentStripe) → (l.held.stripe ≡ k → ⊥) → with_changes k n change l ≡ l
change-other k n change l d = λ i. record { held = with_now-other k change l.held d i; room = cond (not_equal l.held.stripe k d i) (l.room - n) l.room }

change-here : (k n : ℕ) (change : List EdgeRow → List EdgeRow) (f : FragmentRows) (mode : Mode) → with_changes k n change (lent_as k mode f) ≡ lent_as k mode (changed_by n change f)
change-here k n change f mode = λ i. record { held = with_now-here k change (as_held k mode f) refl i; room = cond (eq-eqb k k refl i) (f.room - n) f.room }

-- ---- lists of which one element is set

map-set : {A B : Type 0} (h : A → B) (xs : List A) (k : ℕ) (x y : A) → slice_get xs k ≡ Some x → h y ≡ h x → map h (set xs k y) ≡ map h xs
map-set h [] k x y e p = refl
map-set h (z ∷ xs) zero x y e p = ap (λ w. w ∷ map h xs) (p ∙ ap h (sym (same_Some _ _ e)))
map-set h (z ∷ xs) (suc k) x y e p = ap (λ w. h z ∷ w) (map-set h xs k x y e p)

set-same : {A : Type 0} (xs : List A) (k : ℕ) (x : A) → slice_get xs k ≡ Some x → set xs k x ≡ xs
set-same [] k x e = refl
set-same (z ∷ xs) zero x e = ap (λ w. w ∷ xs) (sym (same_Some _ _ e))
set-same (z ∷ xs) (suc k) x e = ap (λ w. z ∷ w) (set-same xs k x e)

get_or-there : {A B : Type 0} (h : A → Option B) (xs : List A) (k : ℕ) (x : A) → slice_get xs k ≡ Some x → get_or (map h xs) k None ≡ h x
get_or-there h [] k x e = cc
get_or-there h (z ∷ xs) zero x e = ap h (same_Some _ _ e)
get_or-there h (z ∷ xs) (suc k) x e = get_or-there h xs k x e

-- a stripe of an instance has a fragment
pub fragment_below : (fs : List FragmentRows) (ms : List (Option Mode)) (v : List Stripe) → stripes_of fs ms ≡ v → (k : ℕ) → k < length v → k < length fs
fragment_below fs ms v view k l =
    let a : length v ≡ length fs = ap length (sym view) ∙ stripes_of-length fs ms in
    omega (arith, l, a)

-- and so has one that is held
pub fragment_held : (fs : List FragmentRows) (ms : List (Option Mode)) (v : List Stripe) → stripes_of fs ms ≡ v → (k : ℕ) → IsHeld (held_of (holding v)) k → k < length fs
fragment_held fs ms v view k q = fragment_below fs ms v view k (held_below v k (subst (λ z. IsHeld z k) (held_of-holding v) q))

-- v are the stripes of the fragments fs that are held as ms says, k is the number of a held one, and f is its fragment
module _ (fs : List FragmentRows) (ms : List (Option Mode)) (v : List Stripe) (view : stripes_of fs ms ≡ v) (k : ℕ) (f : FragmentRows) (q : IsHeld (held_of (holding v)) k) (got : f ≡ get_or fs k f) where
  abbrev pub stripe : Stripe
  stripe = record { fragment = f; held = mode_at ms k }

  held_here : IsHeld (held_from 0 v) k
  held_here = subst (λ z. IsHeld z k) (held_of-holding v) q

  at : slice_get fs k ≡ Some f
  at = slice_get_read fs (length fs) k f refl (fragment_held fs ms v view k q) got

  there : slice_get v k ≡ Some stripe
  there = subst (λ z. slice_get z k ≡ Some stripe) view (stripes_of-there fs ms k f at)

  pub table_is : IsInstance (stripes_of fs ms) → f.table ≡ table_of v
  table_is i = (subst IsInstance view i).table stripe (slice_get_in v k stripe there)

  pub as_it_is : (h : HeldStripe) → In h (held_of (holding v)) → h.stripe ≡ k → IsHeldAs stripe h
  as_it_is h m = held_as v k stripe there h (subst (In h) (held_of-holding v) m)

  lent_here : In (lent_as k q.0.mode f) (lent_from 0 v)
  lent_here = lent_from_in 0 v k k stripe q.0.mode there (omega arith) (as_it_is q.0 q.1 q.2).held

  -- what is asked for a change of a tuple's rows
  module _ (class : ℕ) where
    pub has_some : HasRoomFor (holding v) k class → 0 < f.room
    has_some room = room.some (lent_as k q.0.mode f) lent_here refl

    pub has_room : IsInstance (stripes_of fs ms) → HasRoomFor (holding v) k class → changes_of_class f.table class ≤ f.room
    has_room i room = subst (λ table. changes_of_class table class ≤ f.room) (sym (table_is i)) (room.all (lent_as k q.0.mode f) lent_here refl)

    pub can_add : (t : Pairs) → IsInstance (stripes_of fs ms) → CanRaise (holding v) k class t → CanAddTuple f.table f.now class t
    can_add t i can =
        subst (λ table. CanAddTuple table f.now class t) (sym (table_is i))
        (subst (λ rows. CanAddTuple (table_of v) rows class t) (sym (as_it_is q.0 q.1 q.2).now) (can q.0 q.1 q.2))

    pub has_tuple : (t : Pairs) → IsInstance (stripes_of fs ms) → CanLower (holding v) k class t → HasTuple f.table f.now class t
    has_tuple t i can =
        subst (λ table. HasTuple table f.now class t) (sym (table_is i))
        (subst (λ rows. HasTuple (table_of v) rows class t) (sym (as_it_is q.0 q.1 q.2).now) (can q.0 q.1 q.2))

  pub is_lent : IsInstance (stripes_of fs ms) → IsLent (holding v) k f
  is_lent i = record { table = table_is i; now = λ h m p. (as_it_is h m p).now }

  -- the fragment stays
  pub stays : (g : FragmentRows) → g ≡ f → stripes_of (set fs k g) ms ≡ v
  stays g e = ap (λ z. stripes_of (set fs k z) ms) e ∙ ap (λ z. stripes_of z ms) (set-same fs k f at) ∙ view

  -- the fragment becomes g, with its table and its rows as taken
  module _ (g : FragmentRows) (table : g.table ≡ f.table) (taken : g.taken ≡ f.taken) where
    abbrev changed_stripe : Stripe
    changed_stripe = record { fragment = g; held = mode_at ms k }

    abbrev new_stripes : List Stripe
    new_stripes = stripes_of (set fs k g) ms

    is_set : new_stripes ≡ set v k changed_stripe
    is_set = stripes_of-set fs ms k g ∙ ap (λ z. set z k changed_stripe) view

    pub whole : (ns : List ℕ) → IsWholeInstance fs ms ns → IsWholeInstance (set fs k g) ms ns
    whole ns i = record {
      stripes = subst IsInstance (sym is_set) (instance-set v k stripe changed_stripe (subst IsInstance view i.stripes) there table (λ n. absurd (held_not_free v k stripe there held_here n)));
      few = subst (λ z. z ≤ 256) (sym (length-set fs k g)) i.few;
      numbers_held = i.numbers_held ∙ ap (held_numbers 0) view ∙ sym (ap (held_numbers 0) is_set ∙ numbers-set 0 v k stripe changed_stripe there refl);
    }

    pub sound : (spec : Spec) → IsOfOneRelation v spec → IsOfOneRelation new_stripes spec
    sound spec o = subst (λ z. IsOfOneRelation z spec) (sym is_set) (sound-set v k stripe changed_stripe there table taken spec o)

    -- what a holder tells of it, where so much is done to the lent stripe
    tells : (each : LentStripe → LentStripe) → ((l : LentStripe) → (l.held.stripe ≡ k → ⊥) → each l ≡ l) → ((mode : Mode) → each (lent_as k mode f) ≡ lent_as k mode g)
        → holding new_stripes ≡ record (holding v) { lent = map each (lent_from 0 v) }
    tells each other here = ap holding is_set ∙ (λ i. record {
      table = table_of-set v k stripe changed_stripe there table i;
      lent = lent_from-set each 0 v k k stripe changed_stripe there (omega arith) refl other here i;
      lends = None;
      offered = map-set (λ (s : Stripe). Some s.fragment.taken) v k stripe changed_stripe there (ap Some taken) i;
      refusals = 0;
      last_refusal = None;
      through = 0;
    })

  pub tells_room : (n : ℕ) (g : FragmentRows) → g ≡ with_promise n f → holding (stripes_of (set fs k g) ms) ≡ with_room_at k n (holding v)
  tells_room n g e = ap (λ z. holding (stripes_of (set fs k z) ms)) e ∙ tells (with_promise n f) refl refl (with_room k n) (room-other k n) (room-here k n f)

  tells_change : (n : ℕ) (change : List EdgeRow → List EdgeRow) (g : FragmentRows) → g ≡ changed_by n change f → holding (stripes_of (set fs k g) ms) ≡ with_changes_at k n change (holding v)
  tells_change n change g e =
      ap (λ z. holding (stripes_of (set fs k z) ms)) e ∙ tells (changed_by n change f) refl refl (with_changes k n change) (change-other k n change) (change-here k n change f)

  -- a change of a tuple's rows of a class
  pub tells_tuple : (all : List NumberedRow → List EdgeRow → List EdgeRow) (class : ℕ) (t : Pairs) (g : FragmentRows) → IsInstance (stripes_of fs ms)
      → g ≡ changed_by (changes_of_class f.table class) (all (class_rows f.table class t)) f
      → holding (stripes_of (set fs k g) ms) ≡ with_changes_at k (changes_of_class (table_of v) class) (all (class_rows (table_of v) class t)) (holding v)
  tells_tuple all class t g i e =
      tells_change (changes_of_class f.table class) (all (class_rows f.table class t)) g e
      ∙ ap (λ table. with_changes_at k (changes_of_class table class) (all (class_rows table class t)) (holding v)) (table_is i)

  pub tells_partly : (class : ℕ) (t : Pairs) (g : FragmentRows) → IsInstance (stripes_of fs ms) → IsPartlyAdded class t f g → IsPartlyAddedAt k class t (holding v) (holding (stripes_of (set fs k g) ms))
  tells_partly class t g i partly = record {
    changes = partly.changes;
    few = subst (λ table. partly.changes ≤ changes_of_class table class) (table_is i) partly.few;
    change = λ _. partly.rows;
    added = λ h m at.
        subst (λ rows. ArePartlyAdded (table_of v) class t rows partly.rows) (as_it_is h m at).now
        (subst (λ table. ArePartlyAdded table class t f.now partly.rows) (table_is i) partly.added);
    value = tells_change partly.changes (λ _. partly.rows) g partly.value;
  }

-- v are the stripes of the fragments fs that are held as ms says, and k is the number of one above all that are held
module _ (fs : List FragmentRows) (ms : List (Option Mode)) (v : List Stripe) (view : stripes_of fs ms ≡ v) (k : ℕ) (l : k < length v) (over : IsAbove (held_of (holding v)) k) (i : IsInstance (stripes_of fs ms)) (place : k < length ms) (mode : Mode) where
  above : IsAbove (held_from 0 v) k
  above = subst (λ z. IsAbove z k) (held_of-holding v) over

  found : (f : FragmentRows) × (slice_get fs k ≡ Some f)
  found = place_in fs k (fragment_below fs ms v view k l)

  abbrev free_stripe : Stripe
  free_stripe = record { fragment = found.0; held = mode_at ms k }

  abbrev taken_stripe : Stripe
  taken_stripe = record { fragment = found.0; held = Some mode }

  abbrev pub taken_stripes : List Stripe
  taken_stripes = stripes_of fs (set ms k (Some mode))

  is_there : slice_get v k ≡ Some free_stripe
  is_there = subst (λ z. slice_get z k ≡ Some free_stripe) view (stripes_of-there fs ms k found.0 found.1)

  is_taken_set : taken_stripes ≡ set v k taken_stripe
  is_taken_set = stripes_of-held fs ms k found.0 (Some mode) found.1 place ∙ ap (λ z. set z k taken_stripe) view

  at_rest : IsAtRest found.0
  at_rest = (subst IsInstance view i).free free_stripe (slice_get_in v k free_stripe is_there) (above_is_free v k free_stripe is_there above)

  taken_lent : lent_from 0 taken_stripes ≡ lent_from 0 v ++ lent_as k mode found.0 ∷ []
  taken_lent = ap (lent_from 0) is_taken_set ∙ lent_from-taken 0 v k k free_stripe taken_stripe mode is_there (omega arith) above refl

  taken_numbers : held_numbers 0 taken_stripes ≡ held_numbers 0 (stripes_of fs ms) ++ k ∷ []
  taken_numbers =
      let number : LentStripe → ℕ = λ l. l.held.stripe in
      numbers-lent 0 taken_stripes ∙ ap (map number) taken_lent ∙ map-append number (lent_from 0 v) (lent_as k mode found.0 ∷ [])
      ∙ ap (λ z. z ++ k ∷ []) (sym (numbers-lent 0 v) ∙ ap (held_numbers 0) (sym view))

  pub taken_few : (ns : List ℕ) → IsWholeInstance fs ms ns → length ns < 256
  taken_few ns w =
      let a : length (held_numbers 0 taken_stripes) ≤ length taken_stripes = numbers_few 0 taken_stripes in
      let b : length taken_stripes ≡ length fs = stripes_of-length fs (set ms k (Some mode)) in
      let e : length (held_numbers 0 taken_stripes) ≡ length (ns ++ k ∷ []) = ap length (taken_numbers ∙ ap (λ z. z ++ k ∷ []) (sym w.numbers_held)) in
      let d : length (ns ++ k ∷ []) ≡ length ns + 1 = length-append ns (k ∷ []) in
      omega (arith, a, b, e, d, w.few)

  pub taken_whole : (ns : List ℕ) → IsWholeInstance fs ms ns → IsWholeInstance fs (set ms k (Some mode)) (ns ++ k ∷ [])
  taken_whole ns w = record {
    stripes = subst IsInstance (sym is_taken_set) (instance-set v k free_stripe taken_stripe (subst IsInstance view i) is_there refl (λ n. cc));
    few = w.few;
    numbers_held = ap (λ z. z ++ k ∷ []) w.numbers_held ∙ sym taken_numbers;
  }

  pub taken_sound : (spec : Spec) → IsOfOneRelation v spec → IsOfOneRelation taken_stripes spec
  taken_sound spec o = subst (λ z. IsOfOneRelation z spec) (sym is_taken_set) (sound-set v k free_stripe taken_stripe is_there refl refl spec o)

  pub is_taken : HasTaken (holding v) (holding taken_stripes) k mode
  is_taken =
      let now : List EdgeRow = found.0.now in
      let same : lent_as k mode found.0 ≡ record { held = just_taken k mode now; room = found.0.room } = ap (λ z. (let r : LentStripe = record { held = record { stripe = k; mode = mode; now = now; taken = z }; room = found.0.room } in r)) at_rest.taken in
      let told : get_or (holding v).offered k None ≡ Some found.0.taken = get_or-there (λ (s : Stripe). Some s.fragment.taken) v k free_stripe is_there in
      record {
        goes_on = record {
          table = ap table_of is_taken_set ∙ table_of-set v k free_stripe taken_stripe is_there refl;
          lends = refl;
          offered = ap (map (λ (s : Stripe). Some s.fragment.taken)) is_taken_set ∙ map-set (λ (s : Stripe). Some s.fragment.taken) v k free_stripe taken_stripe is_there refl;
          through = refl;
          refused = inl (refl, refl);
        };
        rows = now;
        room = found.0.room;
        lent = taken_lent ∙ ap (λ z. lent_from 0 v ++ z ∷ []) same;
        told = subst (λ z. AreOffered z now) (sym told) (sym at_rest.taken);
      }
