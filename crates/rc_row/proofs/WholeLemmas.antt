-- What a whole pass shows, and when a pass is whole after a change of what it holds.
use Rattle.std.proofs.Common.{◌≡◌, ℕ, suc, ◌+◌, ◌*◌, ◌<◌, ◌≤◌, List, [], ◌∷◌, length, sym, refl, ap, ◌∙◌, subst, inl, inr, arith}
use Rattle.rc_row.proofs.Imports.{length-map, length-rising, Vec, All, vec_capacity, vec_len, Result, Ok, Err, OnOk, OnErr, nat_cmp, In, IsRising, Hold, hold, stripes_in, writes_of, shares_of, IsAbove, IsHigh, writes_held, shares_held, TableId, HeldFragment, Inside, HeldRows, standing_of, hands_out, IsWholePass, pass_seen, IsWholeRow, row_seen, passes_in, ArePartlyAddedOn, IsPassOf, OfHeld, PassSeen, RowSeen, core_of, held_with, holds_taken, stripes_of, Pairs, FragmentRows, changed_by}
use Rattle.rc_row.specs.declared.row.Row.TheInside.{Inside as RowInside}
use Rattle.rc_row.proofs.AgreeLemmas.{agrees_same, few_held, high_at}
use Rattle.rc_row.proofs.ChangeLemmas.{hands-held_with, taken-held_with}

-- how many passes a row has, by its slots
pub passes_seen : (b : RowInside) (row : RowSeen) → row_seen b ≡ row → IsWholeRow b → passes_in b.table.shared.table_id.slots ≡ row.key.passes
passes_seen b row is whole = (let n = whole.slots in omega arith) ∙ ap (λ (r : RowSeen). r.key.passes) is

-- each stripe that is held is one of the row's
all_inside : (n : ℕ) (held : List HeldRows) → All (λ (h : HeldRows). h.stripe < n) held → (q : ℕ) → In q (stripes_in (holds_taken held)) → q < n
all_inside n [] all q m = absurd m
all_inside n (h ∷ held) all q (inl e) = let first = all 0 h (omega arith) in subst (λ (k : ℕ). k < n) (sym e) first
all_inside n (h ∷ held) all q (inr m) = all_inside n held (λ k d lt. all (suc k) d (omega arith)) q m

module _ (a : Inside) (whole : IsWholePass a) (seen : PassSeen) (is : pass_seen a ≡ seen) where
  pub taken_seen : holds_taken a.held.items ≡ (core_of seen).held
  taken_seen = whole.agrees.taken ∙ ap (λ (s : PassSeen). (core_of s).held) is

  pub held_there : (p : ℕ) → In p (stripes_in (core_of seen).held) → In p (stripes_in (holds_taken a.held.items))
  held_there p m = subst (λ (hs : List Hold). In p (stripes_in hs)) (sym taken_seen) m

  pub written_there : (p : ℕ) → In p (writes_of (core_of seen)) → In p (stripes_in (holds_taken a.held.items))
  written_there p m = held_there p (writes_held (core_of seen) p m)

  pub fact_there : (p : ℕ) (fact : FragmentRows → Type 0) → OfHeld seen.held p fact → OfHeld a.held.items p fact
  fact_there p fact h = subst (λ (s : PassSeen). OfHeld s.held p fact) (sym is) h

  pub shared_there : (p : ℕ) → In p (shares_of (core_of seen)) → In p (stripes_in (holds_taken a.held.items))
  shared_there p m = held_there p (shares_held (core_of seen) p m)

  pub above_there : (p : ℕ) → IsAbove (core_of seen) p → IsAbove (standing_of a.seat.me.0).core p
  above_there p above = subst (λ (s : PassSeen). IsAbove (core_of s) p) (sym is) above

  pub high_there : (p : ℕ) → IsAbove (core_of seen) p → IsHigh (standing_of a.seat.me.0).core p
  high_there p above = high_at a.number a.seat.me a.held.items p whole.agrees (above_there p above)

  -- where the table has words for so many stripes, there is room for the fragment of a stripe above all that is held
  pub room_there : (p n : ℕ) (table : TableId) → IsAbove (core_of seen) p → p < n → seen.table ≡ table → table.words ≡ 8 * suc (n + n) → vec_len a.held < vec_capacity a.held
  room_there p n table above lt same words =
      let few = few_held a.number a.seat.me a.held.items p whole.agrees (above_there p above) in
      let room = whole.room in
      let e = ap (λ (t : TableId). t.words) (ap (λ (s : PassSeen). s.table) is ∙ same) in
      omega arith

  module _ (b : RowInside) (row : RowSeen) (whole_row : IsWholeRow b) (row_is : row_seen b ≡ row) (of : IsPassOf row seen) where
    -- how many passes its row has, by the slots of its table
    pub passes_there : passes_in a.seat.table_id.slots ≡ row.key.passes
    passes_there = ap (λ (t : TableId). passes_in t.slots) (ap (λ (s : PassSeen). s.table) is ∙ of.table ∙ sym (ap (λ (r : RowSeen). r.table) row_is)) ∙ passes_seen b row row_is whole_row

    -- the slots that it has out
    pub out_there : a.seat.me.1 ≡ hands_out row.key.passes a.number a.held.items
    out_there = whole.hands_are ∙ ap (λ (m : ℕ). hands_out m a.number a.held.items) passes_there

    pub few_all : length a.held.items ≤ 256
    few_all =
        let low = subst (λ (r : RowSeen). stripes_of r ≤ 256) row_is whole_row.stripes in
        let inside = subst (λ (s : PassSeen). All (λ (h : HeldRows). h.stripe < stripes_of row) s.held) (sym is) of.inside in
        let n = length-rising 0 (stripes_of row) (stripes_in (holds_taken a.held.items)) (omega arith) (subst (λ (hs : List Hold). IsRising nat_cmp (stripes_in hs)) (sym whole.agrees.taken) whole.agrees.rising)
        (λ q m. (omega arith, all_inside (stripes_of row) a.held.items inside q m)) in
        let k = length-map (holds_taken a.held.items) (λ (h : Hold). h.stripe) in
        let m = length-map a.held.items (λ (h : HeldRows). hold h.stripe h.mode h.fragment.taken) in
        omega arith

pub rising_there : (a : Inside) → IsWholePass a → IsRising nat_cmp (stripes_in (holds_taken a.held.items))
rising_there a whole = subst (λ (hs : List Hold). IsRising nat_cmp (stripes_in hs)) (sym whole.agrees.taken) whole.agrees.rising

-- other fragments, of the same stripes with the same rows as taken
pub whole_with : (a : Inside) (held : Vec HeldFragment) (items : List HeldRows) → IsWholePass a → held.items ≡ items → ((n k : ℕ) → hands_out n k items ≡ hands_out n k a.held.items) → holds_taken items ≡ holds_taken a.held.items
    → held.cap ≡ a.held.cap → IsWholePass record a { held = held }
whole_with a held items whole is same taken room = record {
  agrees = agrees_same a.number a.seat.me a.held.items whole.agrees (standing_of a.seat.me.0) a.seat.me held.items whole.agrees.view_is refl whole.agrees.ahead
      (ap holds_taken is ∙ taken ∙ whole.agrees.taken) whole.agrees.rising;
  hands_are = whole.hands_are ∙ sym (ap (hands_out (passes_in a.seat.table_id.slots) a.number) is ∙ same (passes_in a.seat.table_id.slots) a.number);
  seen = whole.seen;
  made = whole.made;
  entries = whole.entries;
  room = let r = whole.room in omega arith;
}

-- the same, where it may have failed and changed nothing
pub whole_if : {T E : Type 0} (r : Result T E) (a : Inside) (held : Vec HeldFragment) (items : List HeldRows) → IsWholePass a → OnOk r (held.items ≡ items) → OnErr r (held.items ≡ a.held.items)
    → ((n k : ℕ) → hands_out n k items ≡ hands_out n k a.held.items) → holds_taken items ≡ holds_taken a.held.items → held.cap ≡ a.held.cap → IsWholePass record a { held = held }
whole_if (Ok x) a held items whole is not same taken room = whole_with a held items whole is same taken room
whole_if (Err e) a held items whole is not same taken room = whole_with a held a.held.items whole not (λ n k. refl) refl room

-- the same, where it may have failed with some of a tuple's rows of a stripe added
pub whole_partly : {T E : Type 0} (r : Result T E) (a : Inside) (held : Vec HeldFragment) (p class : ℕ) (t : Pairs) (change : FragmentRows → FragmentRows) → ((f : FragmentRows) → (change f).taken ≡ f.taken) → IsWholePass a
    → OnOk r (held.items ≡ held_with p change a.held.items) → OnErr r (ArePartlyAddedOn p class t a.held.items held.items) → held.cap ≡ a.held.cap → IsWholePass record a { held = held }
whole_partly (Ok x) a held p class t change same whole is partly room = whole_with a held (held_with p change a.held.items) whole is (hands-held_with p change a.held.items) (taken-held_with p change same a.held.items) room
whole_partly (Err e) a held p class t change same whole is partly room =
    let some = changed_by partly.changes (λ _. partly.rows) in
    whole_with a held (held_with p some a.held.items) whole partly.value (hands-held_with p some a.held.items) (taken-held_with p some (λ f. refl) a.held.items) room
