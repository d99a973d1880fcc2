-- A closed row has one history.
use Rattle.std.proofs.Common.{◌≡◌, ℕ, zero, suc, ◌+◌, ◌*◌, ◌<◌, ◌≤◌, ◌^◌, ◌||◌, Bool, false, List, [], ◌∷◌, ◌++◌, length, map, drop, take, get_or, Some, None, sym, refl, ap, ◌∙◌, subst, inl, inr, arith, length-append}
use Rattle.rc_row.proofs.Imports.{All, same_Some, slice_get, range_with_len, remove, cases_eq, false≢true, eq-eqb, length-map, map-append, length-range_with_len, In, has_in, has, fragment_of, Shared, Exclusive, stripe_total, Spec, KeptRows, Entry, Placed, IsPrefix, own_placed, replay, own_make_the_history, Hold, Keeper, Home, Writer, PassState, stripe_at, is_at, is_writer, stripes_in, held_in, IsGoodHistory, IsGoodKeeper, MayGoOn, few_tuples, history_law, State, Final, Seen, EndedPass, Key, Refusal, Standing, View, IsEndedPass, HasHistory, AreEnded, Slot, kept_in, kept_of, history_by, lodged, slot_place, spec_by, stripes_by, numbers_in, passes_view, AreKnown, AreSeatedAt, AreTold, IsKept, begins_with, good_of, refusals_of, made_by, PassSeen, RowSeen, core_of, spec_of, stripes_of, row_seen}
use mathlib.Core.Option.{some, some-injective}
use lib.ListN.{get_elem?}
use Rattle.rc_row.specs.declared.row.Row.TheInside.{Inside}
use Rattle.rc_row.proofs.AloneLemmas.{same_kept}
use Rattle.rc_row.proofs.ListLemmas.{all_at, get_before, get_last}
use Rattle.rc_row.proofs.StripeLemmas.{there, no_latch, slot_home}

-- ---- passes by number

abbrev pub numbers_of : List PassSeen → List ℕ
numbers_of passes = map (λ pass. (core_of pass).number) passes

abbrev pub standings_of : List PassSeen → List Standing
standings_of passes = map (λ pass. pass.standing) passes

-- a pass with nothing, which isn't turning back
abbrev pub IsIdle : PassSeen → Type 0
IsIdle pass = ((core_of pass).held ≡ []) × ((core_of pass).turning ≡ None)

-- in a range, what stands before an element is below it
pub range_split : (a n x : ℕ) (before after : List ℕ) → before ++ x ∷ after ≡ range_with_len a n → (x ≡ a + length before) × ((k : ℕ) → In k before → k < x)
range_split a zero x [] after e = cc
range_split a zero x (b ∷ before) after e = cc
range_split a (suc n) x [] after e = let first : x ≡ a = cc in (first ∙ omega arith, λ k m. absurd m)
range_split a (suc n) x (b ∷ before) after e =
    let first : b ≡ a = cc in
    let later : before ++ x ∷ after ≡ range_with_len (a + 1) n = cc in
    let r = range_split (a + 1) n x before after later in
    let here : x ≡ a + 1 + length before = r.0 in
    (omega (arith, here), λ k m. elim m [ inl is ↦ omega (arith, is, first, here) | inr y ↦ r.1 k y ])

numbers_of_standings : (passes : List PassSeen) → numbers_in (standings_of passes) ≡ numbers_of passes
numbers_of_standings [] = refl
numbers_of_standings (pass ∷ passes) = ap (λ l. (core_of pass).number ∷ l) (numbers_of_standings passes)

pub count_of : (passes : List PassSeen) (n : ℕ) → numbers_of passes ≡ range_with_len 0 n → length passes ≡ n
count_of passes n numbers = sym (length-map passes (λ pass. (core_of pass).number)) ∙ ap (λ (l : List ℕ). length l) numbers ∙ length-range_with_len 0 n

-- the first of what is left
pub next_of : {A : Type 0} → (all : List A) (n : ℕ) (x : A) (left : List A) → drop n all ≡ x ∷ left → (take (suc n) all ≡ take n all ++ x ∷ []) × (drop (suc n) all ≡ left) × (all ≡ take n all ++ x ∷ left)
next_of [] zero x left e = cc
next_of [] (suc n) x left e = cc
next_of (y ∷ all) zero x left e = let first : y ≡ x = cc in let rest : all ≡ left = cc in (ap (λ z. z ∷ []) first, rest, λ i. first i ∷ rest i)
next_of (y ∷ all) (suc n) x left e = let r = next_of all n x left e in (ap (λ l. y ∷ l) r.0, r.1, ap (λ l. y ∷ l) r.2)

-- each pass that was gathered has a lower number than the next
pub in_order : (all : List PassSeen) (n many : ℕ) (x : PassSeen) (left : List PassSeen) → numbers_of all ≡ range_with_len 0 many → drop n all ≡ x ∷ left → (k : ℕ) → In k (numbers_in (standings_of (take n all))) → k < (core_of x).number
in_order all n many x left numbers e k m =
    let split : all ≡ take n all ++ x ∷ left = (next_of all n x left e).2 in
    let whole : numbers_of (take n all) ++ (core_of x).number ∷ numbers_of left ≡ range_with_len 0 many = sym (map-append (λ (pass : PassSeen). (core_of pass).number) (take n all) (x ∷ left)) ∙ ap numbers_of (sym split) ∙ numbers in
    (range_split 0 many (core_of x).number (numbers_of (take n all)) (numbers_of left) whole).1 k (subst (In k) (numbers_of_standings (take n all)) m)

pub front_of : {A : Type 0} → (xs : List A) (x : A) → 0 < length xs → x ≡ get_or xs 0 x → xs ≡ x ∷ remove xs 0
front_of [] x lt e = absurd (omega arith)
front_of (y ∷ xs) x lt e = λ i. sym e i ∷ xs

-- what is true of each pair and of the last is true of each
pub pairs_end : {A B : Type 0} → (R : A → B → Type 0) (xs : List A) (ys : List B) (x : A) (y : B) → length ys ≡ length xs → ((k : ℕ) (a : A) (b : B) → slice_get xs k ≡ Some a → slice_get ys k ≡ Some b → R a b) → R x y
    → (k : ℕ) (a : A) (b : B) → slice_get (xs ++ x ∷ []) k ≡ Some a → slice_get (ys ++ y ∷ []) k ≡ Some b → R a b
pairs_end {A} {B} R [] [] x y wide each last zero a b e f = let is : x ≡ a = cc in let is' : y ≡ b = cc in subst (λ (z : A × B). R z.0 z.1) (λ i. (is i, is' i)) last
pairs_end R [] [] x y wide each last (suc k) a b e f = cc
pairs_end R [] (b' ∷ ys) x y wide each last k a b e f = absurd (omega arith)
pairs_end R (a' ∷ xs) [] x y wide each last k a b e f = absurd (omega arith)
pairs_end R (a' ∷ xs) (b' ∷ ys) x y wide each last zero a b e f = each 0 a b e f
pairs_end R (a' ∷ xs) (b' ∷ ys) x y wide each last (suc k) a b e f = pairs_end R xs ys x y (omega arith) (λ j. each (suc j)) last k a b e f

-- one pass more is ended
pub ended_more : (passes : List PassSeen) (ended : List EndedPass) (pass : PassSeen) (e : EndedPass) → AreEnded passes ended → IsEndedPass (core_of pass).own pass.kept e → AreEnded (passes ++ pass ∷ []) (ended ++ e ∷ [])
ended_more passes ended pass e are is = (
  (let n = length-append passes (pass ∷ []) in let m = length-append ended (e ∷ []) in let w = are.0 in omega arith),
  pairs_end (λ p x. IsEndedPass (core_of p).own p.kept x) passes ended pass e are.0 are.1 is,
)

-- ---- the end

-- the slots of a closed row
pub record AreClosed (spec : Spec) (first : List Entry) (passes : List PassSeen) (slots : List Slot) : Type 0 where
  pub history : List Entry
  pub begins : IsPrefix first history
  pub good : IsGoodHistory spec (length passes) history
  pub may : MayGoOn spec (length passes) history
  pub own : (k : ℕ) (pass : PassSeen) → slice_get passes k ≡ Some pass → (core_of pass).own ≡ own_placed history k
  pub known : (k : ℕ) (pass : PassSeen) → slice_get passes k ≡ Some pass → AreKnown history pass.standing.known
  pub short : length history ≤ 255 * 2 ^ 48
  pub small : length (replay spec history) < 2 ^ 60
  pub handed : List Bool
  pub rows : (p : ℕ) → p < stripe_total spec → get_elem? slots (slot_place p) ≡ some (kept_in (get_or handed p false) (kept_of spec (fragment_of spec (replay spec history) p)))

-- the pass at the place k is that of the number a + k
seated_at : (all : List PassState) (seat : ℕ → ℕ) (id a : ℕ) (passes : List PassSeen) (k : ℕ) (pass : PassSeen) → AreSeatedAt all seat id (standings_of passes) → numbers_of passes ≡ range_with_len a (length passes)
    → slice_get passes k ≡ Some pass → slice_get all (a + k) ≡ Some (core_of pass)
seated_at all seat id a [] k pass f numbers e = cc
seated_at all seat id a (x ∷ passes) zero pass f numbers e =
    let first : (core_of x).number ≡ a = cc in
    let is : x ≡ pass = cc in
    ap (slice_get all) (omega (arith, first)) ∙ f.0.0 ∙ ap (λ (y : PassSeen). Some (core_of y)) is
seated_at all seat id a (x ∷ passes) (suc k) pass f numbers e =
    let later : numbers_of passes ≡ range_with_len (a + 1) (length passes) = cc in
    ap (slice_get all) (omega arith) ∙ seated_at all seat id (a + 1) passes k pass f.1 later e

-- and was told of beginnings of the history
known_at : (history : List Entry) (refusals : ℕ → List Refusal) (passes : List PassSeen) (k : ℕ) (pass : PassSeen) → AreTold history refusals (standings_of passes) → slice_get passes k ≡ Some pass
    → AreKnown history pass.standing.known
known_at history refusals [] k pass f e = cc
known_at history refusals (x ∷ passes) zero pass f e = subst (λ (y : PassSeen). AreKnown history y.standing.known) (same_Some x pass e) f.0.known
known_at history refusals (x ∷ passes) (suc k) pass f e = known_at history refusals passes k pass f.1 e

at_place : {A : Type 0} → (xs : List A) (k : ℕ) → k < length xs → (x : A) × (slice_get xs k ≡ Some x)
at_place [] k lt = absurd (omega arith)
at_place (x ∷ xs) zero lt = (x, refl)
at_place (x ∷ xs) (suc k) lt = at_place xs k (omega arith)

none_in : (xs : List ℕ) → ((k : ℕ) → In k xs → ⊥) → xs ≡ []
none_in [] out = refl
none_in (x ∷ xs) out = absurd (out x (inl refl))

module _ (key : Key) (id : ℕ) (passes : List PassSeen) (s : State Slot View) (kept : IsKept key s) (at : get_elem? s.views id ≡ some (passes_view (standings_of passes))) (numbers : numbers_of passes ≡ range_with_len 0 key.passes)
    (idle : (k : ℕ) (pass : PassSeen) → slice_get passes k ≡ Some pass → IsIdle pass) where
  many : length passes ≡ key.passes
  many = count_of passes key.passes numbers

  same_many : length kept.core.passes ≡ length passes
  same_many = kept.shows.passes ∙ sym many

  pub is_core : (k : ℕ) (pass : PassSeen) → slice_get passes k ≡ Some pass → slice_get kept.core.passes k ≡ Some (core_of pass)
  is_core k pass e =
      ap (slice_get kept.core.passes) (omega arith)
      ∙ seated_at kept.core.passes kept.seat id 0 passes k pass (kept.views id (passes_view (standings_of passes)) at).passes (numbers ∙ ap (range_with_len 0) (sym many)) e

  -- each pass of the core is idle
  idle_core : (k : ℕ) → k < length kept.core.passes → (u : PassState) × (slice_get kept.core.passes k ≡ Some u) × (u.held ≡ []) × (u.turning ≡ None)
  idle_core k lt =
      let x = at_place passes k (subst (λ n. k < n) same_many lt) in
      let i : IsIdle x.0 = idle k x.0 x.1 in
      (core_of x.0, is_core k x.0 x.1, i.0, i.1)

  -- nobody writes a stripe
  unwritten : (p : ℕ) → p < stripes_by key → (stripe_at kept.core.stripes p).keeper ≡ Home (fragment_of (spec_by key) (replay (spec_by key) kept.core.history) p)
  unwritten p lt = go (stripe_at kept.core.stripes p).keeper refl ((good_of key s kept).stripes p (there key s kept p lt)).keeper
    where
      go : (x : Keeper) → (stripe_at kept.core.stripes p).keeper ≡ x → IsGoodKeeper (spec_by key) kept.core.history (length kept.core.passes) p x → x ≡ Home (fragment_of (spec_by key) (replay (spec_by key) kept.core.history) p)
      go (Home rows) is g = ap Home g
      go (Writer k) is g =
          let u = idle_core k g in
          let w = ((good_of key s kept).passes k u.0 u.1).writes p in
          absurd (false≢true (sym (ap (λ (holds : List Hold). has (stripes_in (held_in Exclusive holds)) p) u.2) ∙ w ∙ ap (λ (x : Keeper). is_writer x k) is ∙ eq-eqb k k refl))

  -- nobody is counted in
  uncounted : (p : ℕ) → p < stripes_by key → (stripe_at kept.core.stripes p).counted ≡ []
  uncounted p lt = none_in (stripe_at kept.core.stripes p).counted (λ k m.
      let u = idle_core k (((good_of key s kept).stripes p (there key s kept p lt)).known k m) in
      let w = ((good_of key s kept).passes k u.0 u.1).counts p in
      false≢true (sym (λ i. has (stripes_in (held_in Shared (u.2 i))) p || is_at (u.3 i) p) ∙ w ∙ has_in (stripe_at kept.core.stripes p).counted k m))

  pub closed_home : (p : ℕ) → p < stripes_by key → get_elem? s.homes (slot_place p) ≡ some (some (lodged (spec_by key) (get_or kept.handed p false) (fragment_of (spec_by key) (replay (spec_by key) kept.core.history) p)))
  closed_home p lt = slot_home key s kept p (fragment_of (spec_by key) (replay (spec_by key) kept.core.history) p) lt (unwritten p lt) (no_latch key s kept p (uncounted p lt))

  -- so many passes may go on from the history
  may_go_on : MayGoOn (spec_by key) (length passes) kept.core.history
  may_go_on = subst (λ n. MayGoOn (spec_by key) n kept.core.history) same_many (record {
    some_pass = (good_of key s kept).some_pass;
    few_passes = (good_of key s kept).few_passes;
    good = (good_of key s kept).history;
    few = λ k lt. (let u = idle_core k lt in let g = (good_of key s kept).passes k u.0 u.1 in subst (λ (l : List Placed). length l ≤ 2 ^ 48) g.own g.few);
  })

  pub closed : (slots : List Slot) → length s.homes ≡ length slots → ((k : ℕ) (y : Slot) → get_elem? s.homes k ≡ some (some y) → get_elem? slots k ≡ some y) → AreClosed (spec_by key) (history_by key) passes slots
  closed slots wide homes = record {
    history = kept.core.history;
    begins = begins_with key s kept;
    good = subst (λ n. IsGoodHistory (spec_by key) n kept.core.history) same_many (good_of key s kept).history;
    may = may_go_on;
    own = λ k pass e. ((good_of key s kept).passes k (core_of pass) (is_core k pass e)).own;
    known = λ k pass e. known_at kept.core.history (refusals_of key s kept) passes k pass (kept.views id (passes_view (standings_of passes)) at).histories e;
    short = history_law (spec_by key) kept.core (good_of key s kept);
    small = few_tuples (spec_by key) kept.core (good_of key s kept);
    handed = kept.handed;
    rows = λ p lt. homes (slot_place p) (lodged (spec_by key) (get_or kept.handed p false) (fragment_of (spec_by key) (replay (spec_by key) kept.core.history) p)) (closed_home p lt);
  }

-- the row's table at the end
module _ (a : Inside) (row : RowSeen) (is : row_seen a ≡ row) (passes : List PassSeen) (id : ℕ) (v : View) (words : List ℕ) (slots : List Slot)
    (all : v ≡ passes_view (standings_of passes)) (final : Final (Seen (IsKept a.table.shared.key) id v) words slots) (numbers : numbers_of passes ≡ range_with_len 0 row.key.passes) (idle : All IsIdle passes) where
  closed_slots : AreClosed (spec_of (row_seen a)) (history_by (row_seen a).key) passes slots
  closed_slots = go final
    where
      go : Final (Seen (IsKept a.table.shared.key) id v) words slots → AreClosed (spec_by a.table.shared.key) (history_by a.table.shared.key) passes slots
      go (s, (kept, at), same, wide, homes) =
          closed a.table.shared.key id passes s kept (at ∙ ap some all) (numbers ∙ ap (λ (r : RowSeen). range_with_len 0 r.key.passes) (sym is)) (λ k pass e. all_at IsIdle passes k pass idle e) slots wide homes

  -- the slot of each stripe has a fragment
  pub closed_slot : (n p : ℕ) → n ≡ stripes_of row → p < n → (handed : Bool) × (keep : KeptRows) × (get_elem? slots (slot_place p) ≡ some (kept_in handed keep))
  closed_slot n p count lt =
      let spec : Spec = spec_by a.table.shared.key in
      let same = ap stripes_of is in
      (get_or closed_slots.handed p false, kept_of spec (fragment_of spec (replay spec closed_slots.history) p), closed_slots.rows p (omega arith))

  -- and the fragments that were taken out of them are those of one history
  pub has_history : (n : ℕ) (fragments : List KeptRows) → n ≡ stripes_of row → length fragments ≡ n
      → ((p : ℕ) (handed : Bool) (keep : KeptRows) → p < n → get_elem? slots (slot_place p) ≡ some (kept_in handed keep) → slice_get fragments p ≡ Some keep) → (h : HasHistory (spec_of row) passes fragments) × IsPrefix (history_by row.key) h.history
  has_history n fragments count wide items =
      let spec : Spec = spec_by a.table.shared.key in
      let same = ap stripes_of is in
      subst (λ (r : RowSeen). (h : HasHistory (spec_of r) passes fragments) × IsPrefix (history_by r.key) h.history) is (
        record {
          history = closed_slots.history;
          good = closed_slots.good;
          may = closed_slots.may;
          own = closed_slots.own;
          known = closed_slots.known;
          short = closed_slots.short;
          small = closed_slots.small;
          count = omega arith;
          rows = λ p lt. items p (get_or closed_slots.handed p false) (kept_of spec (fragment_of spec (replay spec closed_slots.history) p)) (omega arith) (closed_slots.rows p (omega arith));
        },
        closed_slots.begins,
      )

-- the history of their entries is the one that the passes made
pub made_is_history : (spec : Spec) (passes : List PassSeen) (fragments : List KeptRows) (h : HasHistory spec passes fragments) → made_by (standings_of passes) ≡ h.history
made_is_history spec passes fragments h =
    own_make_the_history h.history (map (λ (s : Standing). s.core.own) (standings_of passes))
    (λ k own e. let p = own_at passes k own e in sym p.2 ∙ h.own k p.0 p.1)
    (λ e m. subst (λ n. e.pass < n) (sym (length-map (standings_of passes) (λ (s : Standing). s.core.own) ∙ length-map passes (λ (pass : PassSeen). pass.standing))) (h.good.entries e m).pass)
  where
    own_at : (all : List PassSeen) (k : ℕ) (own : List Placed) → slice_get (map (λ (s : Standing). s.core.own) (standings_of all)) k ≡ Some own
        → (pass : PassSeen) × (slice_get all k ≡ Some pass) × ((core_of pass).own ≡ own)
    own_at [] k own e = cc
    own_at (pass ∷ all) zero own e = let is : (core_of pass).own ≡ own = cc in (pass, refl, is)
    own_at (pass ∷ all) (suc k) own e = own_at all k own e

-- the fragments that were taken, and one more
pub taken_more : (slots : List Slot) (taken : List KeptRows) (handed : Bool) (keep : KeptRows) → get_elem? slots (slot_place (length taken)) ≡ some (kept_in handed keep)
    → ((p : ℕ) (h : Bool) (k : KeptRows) → p < length taken → get_elem? slots (slot_place p) ≡ some (kept_in h k) → slice_get taken p ≡ Some k)
    → (p : ℕ) (h : Bool) (k : KeptRows) → p < length taken + 1 → get_elem? slots (slot_place p) ≡ some (kept_in h k) → slice_get (taken ++ keep ∷ []) p ≡ Some k
taken_more slots taken handed keep here before p h k lt at = elim (cases_eq p (length taken)) [
  | inl e ↦ ap (slice_get (taken ++ keep ∷ [])) e ∙ get_last taken keep
      ∙ ap Some (same_kept handed h keep k (some-injective (kept_in handed keep) (kept_in h k) (sym here ∙ ap (λ (i : ℕ). get_elem? slots (slot_place i)) (sym e) ∙ at)))
  | inr apart ↦ get_before taken (keep ∷ []) p k (before p h k (omega (arith, lt, apart)) at)
]
