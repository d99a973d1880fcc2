-- What is known of the fragment of a stripe that is given back.
use Rattle.std.proofs.Common.{◌≡◌, ℕ, suc, Bool, List, [], ◌∷◌, ◌++◌, Option, Some, None, true, length, drop, if◌then◌else◌, sym, refl, ap, ◌∙◌, subst, inl, inr}
use Rattle.rc_row.proofs.Imports.{IfSome, remove, nat_cmp, eq-eqb, ne_eqb, map-append, All-get_or, In, IsRising, in_append, Mode, EdgeRow, Spec, edge_table, FragmentRows, IsAtRest, KeptRows, at_rest, kept_rows, Hold, PassState, hold, held_in, shares_of, stripes_in, writes_of, rows_of_hold, in_stripes_in, stripes_have, Exclusive, Shared, rest, View, Inside, HeldRows, Key, Empty, IsOwn, Slot, kept_of, own_place, slot_place, spec_by, standing_of, hand_out, hands_out, own_hands, pointer_in, turned_times, IsWholePass, pass_seen, OfHeld, PassSeen, core_of, held_without, holds_taken, MayLeave, IsHeldAt}
use Rattle.std.specs.List.{All}
use Rattle.rc_row.proofs.OwnLemmas.{behind_owns}
use Rattle.rc_row.proofs.TurnLemmas.{place_inside, read_here, turned_first}
use Rattle.rc_row.proofs.ChangeLemmas.{gone_here, not_after, removed_here}
use Rattle.rc_row.proofs.WholeLemmas.{rising_there, taken_seen}

rows_else : (before more : List HeldRows) (p : ℕ) → (In p (stripes_in (holds_taken before)) → ⊥) → rows_of_hold (holds_taken (before ++ more)) p ≡ rows_of_hold (holds_taken more) p
rows_else [] more p none = refl
rows_else (h ∷ before) more p none =
    ap (λ (b : Bool). if b then h.fragment.taken else rows_of_hold (holds_taken (before ++ more)) p) (ne_eqb h.stripe p (λ e. none (inl (sym e)))) ∙ rows_else before more p (λ m. none (inr m))

module _ (held : List HeldRows) (p at : ℕ) (h : IsHeldAt held p at) where
  -- the core has the stripe with the rows as taken
  pub rows_here : rows_of_hold (holds_taken held) p ≡ h.here.fragment.taken
  rows_here =
      ap (λ (hs : List HeldRows). rows_of_hold (holds_taken hs) p) h.is ∙ rows_else h.before (h.here ∷ h.after) p h.first
      ∙ ap (λ (b : Bool). if b then h.here.fragment.taken else rows_of_hold (holds_taken h.after) p) (eq-eqb h.here.stripe p h.stripe)

  -- what is true of each is true of it
  pub each_here : (P : HeldRows → Type 0) → All P held → P h.here
  each_here P all = subst P (read_here held p at h h.here) (All-get_or P held at h.here (place_inside held p at h) all)

  -- the mode in which the core has it
  pub mode_here : (mode : Mode) → IsRising nat_cmp (stripes_in (holds_taken held)) → In p (stripes_in (held_in mode (holds_taken held))) → h.here.mode ≡ mode
  mode_here mode up m =
      let w = in_stripes_in mode p (holds_taken held) m in
      let among : In w.0 (holds_taken h.before ++ holds_taken (h.here ∷ h.after)) = subst (In w.0) (ap holds_taken h.is ∙ map-append (λ (x : HeldRows). hold x.stripe x.mode x.fragment.taken) h.before (h.here ∷ h.after)) w.1 in
      elim (in_append w.0 (holds_taken h.before) (holds_taken (h.here ∷ h.after)) among) [
        | inl x ↦ absurd (h.first (subst (λ (q : ℕ). In q (stripes_in (holds_taken h.before))) (sym w.3) (stripes_have w.0 (holds_taken h.before) x)))
        | inr (inl e) ↦ ap (λ (x : Hold). x.mode) (sym e) ∙ w.2
        | inr (inr x) ↦ absurd (not_after held p at h up (subst (λ (q : ℕ). In q (stripes_in (holds_taken h.after))) (sym w.3) (stripes_have w.0 (holds_taken h.after) x)))
      ]

  -- at rest, it goes home as the rows that the core has
  pub kept_here : (spec : Spec) → All (λ (x : HeldRows). x.fragment.table ≡ edge_table spec) held → All (λ (x : HeldRows). x.stripe ≡ p → IsAtRest x.fragment) held
      → kept_rows h.here.fragment ≡ kept_of spec (rows_of_hold (holds_taken held) p)
  kept_here spec shapes rest =
      let shape = each_here (λ (x : HeldRows). x.fragment.table ≡ edge_table spec) shapes in
      let still = each_here (λ (x : HeldRows). x.stripe ≡ p → IsAtRest x.fragment) rest h.stripe in
      λ i. record { table = shape i; rows = (sym still.taken ∙ sym rows_here) i }

-- ---- of a pass

module _ (a : Inside) (whole : IsWholePass a) (seen : PassSeen) (is : pass_seen a ≡ seen) (p at : ℕ) (h : IsHeldAt a.held.items p at) where
  pub writes_here : In p (writes_of (core_of seen)) → h.here.mode ≡ Exclusive
  writes_here m = mode_here a.held.items p at h Exclusive (rising_there a whole) (subst (λ (hs : List Hold). In p (stripes_in (held_in Exclusive hs))) (sym (taken_seen a whole seen is)) m)

  pub shares_here : In p (shares_of (core_of seen)) → h.here.mode ≡ Shared
  shares_here m = mode_here a.held.items p at h Shared (rising_there a whole) (subst (λ (hs : List Hold). In p (stripes_in (held_in Shared hs))) (sym (taken_seen a whole seen is)) m)

  -- what is left of it without the stripe
  pub left_here : (items : List HeldRows) → items ≡ remove a.held.items at → (items ≡ h.before ++ h.after) × (items ≡ held_without a.held.items p)
  left_here items e =
      let gone = e ∙ removed_here a.held.items p at h in
      (gone, gone ∙ sym (gone_here a.held.items p at h (rising_there a whole)))

  -- the fragment, as a slot keeps it, has the rows that the core has
  pub home_here : (spec : Spec) (f : FragmentRows) (v : View) → f ≡ h.here.fragment → All (λ (x : HeldRows). x.fragment.table ≡ edge_table spec) seen.held → OfHeld seen.held p IsAtRest → v ≡ a.seat.me.0
      → kept_rows f ≡ kept_of spec (rows_of_hold (standing_of v).core.held p)
  home_here spec f v same shapes rest e =
      let items = sym (ap (λ (s : PassSeen). s.held) is) in
      ap kept_rows same ∙ kept_here a.held.items p at h spec (subst (All (λ (x : HeldRows). x.fragment.table ≡ edge_table spec)) items shapes) (subst (λ (hs : List HeldRows). OfHeld hs p IsAtRest) items rest)
      ∙ ap (λ (hs : List Hold). kept_of spec (rows_of_hold hs p)) (whole.agrees.taken ∙ ap (λ (w : View). (standing_of w).core.held) (sym e))

  -- a reader's pointer has the rows that the core has
  pub lent_here : (spec : Spec) (f : FragmentRows) (v : View) (keep : KeptRows) → f ≡ h.here.fragment → f ≡ at_rest keep → All (λ (x : HeldRows). x.fragment.table ≡ edge_table spec) seen.held → v ≡ a.seat.me.0
      → keep ≡ kept_of spec (rows_of_hold (standing_of v).core.held p)
  lent_here spec f v keep same lent shapes e =
      let items = sym (ap (λ (s : PassSeen). s.held) is) in
      let here : h.here.fragment ≡ at_rest keep = sym same ∙ lent in
      let shape = each_here a.held.items p at h (λ (x : HeldRows). x.fragment.table ≡ edge_table spec) (subst (All (λ (x : HeldRows). x.fragment.table ≡ edge_table spec)) items shapes) in
      (λ i. record {
        table = (sym (ap (λ (g : FragmentRows). g.table) here) ∙ shape) i;
        rows = (sym (ap (λ (g : FragmentRows). g.taken) here) ∙ sym (rows_here a.held.items p at h)) i;
      })
      ∙ ap (λ (hs : List Hold). kept_of spec (rows_of_hold hs p)) (whole.agrees.taken ∙ ap (λ (w : View). (standing_of w).core.held) (sym e))

  -- turned by those above it, what the stripe has out is in front: of n passes, whose slots the pass has out
  module _ (n : ℕ) (out : a.seat.me.1 ≡ hands_out n a.number a.held.items) (above : ℕ) (count : above ≡ length (hands_out n a.number (drop (suc at) a.held.items))) (slots : List (ℕ × Slot))
      (turned : slots ≡ turned_times above a.seat.me.1) where
    abbrev others : List (ℕ × Slot)
    others = hands_out n a.number h.before ++ hands_out n a.number h.after

    front_here : slots ≡ hand_out n a.number h.here.mode p ++ (hands_out n a.number h.before ++ hands_out n a.number h.after)
    front_here = turned ∙ turned_first a.held.items p at h n a.number above a.seat.me.1 count out

    pub front_written : In p (writes_of (core_of seen)) → slots ≡ (slot_place p, Empty) ∷ own_hands n p (λ j. Empty) ++ (hands_out n a.number h.before ++ hands_out n a.number h.after)
    front_written m = front_here ∙ ap (λ (mode : Mode). hand_out n a.number mode p ++ others) (writes_here m)

    pub front_shared : In p (shares_of (core_of seen)) → slots ≡ (own_place a.number p, Empty) ∷ (hands_out n a.number h.before ++ hands_out n a.number h.after)
    front_shared m = front_here ∙ ap (λ (mode : Mode). hand_out n a.number mode p ++ others) (shares_here m)

-- a pass leaves a stripe of which it lacks no pointer
pub may_leave : (key : Key) (u : PassState) (p : ℕ) (own : Slot) (slots : List (ℕ × Slot)) → slots ≡ (own_place u.number p, own) ∷ rest slots → IsOwn (spec_by key) true (rows_of_hold u.held p) own → MayLeave key u p None slots
may_leave key u p own slots front is_own = record { only = λ q apart. refl; own = own; front = front; is_own = is_own }

-- a pointer to these rows, or nothing, may lie in an own slot
pub own_of : (spec : Spec) (rows : List EdgeRow) (f : FragmentRows) (pointer : Option KeptRows) → ((keep : KeptRows) → f ≡ at_rest keep → keep ≡ kept_of spec rows) → IfSome pointer (λ keep. f ≡ at_rest keep)
    → IsOwn spec true rows (pointer_in pointer)
own_of spec rows f None lent is = tt
own_of spec rows f (Some keep) lent is = (refl, lent keep is)

-- what lies in front, and the rest
pub front_of : (slots more : List (ℕ × Slot)) (x : ℕ × Slot) → slots ≡ x ∷ more → slots ≡ x ∷ rest slots
front_of slots more x e = e ∙ ap (λ (xs : List (ℕ × Slot)). x ∷ xs) (sym (ap rest e))

-- what lies behind a stripe's slot and the own slots there
pub behind_front : (n p : ℕ) (x : Slot) (slots more : List (ℕ × Slot)) → slots ≡ (slot_place p, x) ∷ own_hands n p (λ j. Empty) ++ more → slots ≡ (slot_place p, x) ∷ own_hands n p (λ j. Empty) ++ drop (suc n) slots
behind_front n p x slots more e = e ∙ ap (λ (xs : List (ℕ × Slot)). (slot_place p, x) ∷ own_hands n p (λ j. Empty) ++ xs) (sym (ap (drop (suc n)) e ∙ behind_owns n p (λ j. Empty) more))
