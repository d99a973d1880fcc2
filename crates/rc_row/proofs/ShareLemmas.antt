-- What a reader's steps come to.
use Rattle.std.proofs.Common.{◌≡◌, ℕ, suc, List, [], ◌∷◌, ◌++◌, Option, Some, None, true, sym, refl, ap, ◌∙◌, subst, inl}
use Rattle.rc_row.proofs.Imports.{In, append_in_right, Latch, Shared, EdgeRow, ne_eqb, PassState, hold, shares_of, IsAbove, released, rows_of_hold, shared, other-end, rows-end, stripes_in_have, Standing, View, IsOwn, Slot, kept_in, kept_of, lodged, own_place, pass_view, slot_place, spec_by, standing_of, view_of, Key, Empty, Handed, HasEntered, HasLatched, HasLeft, HasUnlatched, IsLatchedOut, MayLeave, found_in_latch, lacking, HasInFront, KeptRows, Me, rest, HaveOneRelation, latched_out, turned_away, with_core, without_wish}
use Rattle.rc_row.proofs.AloneLemmas.{in_front, same_kept}
use Rattle.rc_row.proofs.GiveLemmas.{may_leave}

-- a pass that has just come to share the stripe
module _ (s : Standing) (p : ℕ) (rows : List EdgeRow) (above : IsAbove s.core p) (v : View) (lacks : Option ℕ) (view : v ≡ view_of (with_core s (shared s.core p rows)) None lacks) where
  is_counted : standing_of v ≡ with_core s (shared s.core p rows)
  is_counted = ap standing_of view

  pub shares_it : In p (shares_of (standing_of v).core)
  shares_it = subst (λ (t : Standing). In p (shares_of t.core)) (sym is_counted)
      (stripes_in_have Shared (hold p Shared rows) (s.core.held ++ hold p Shared rows ∷ []) (append_in_right (hold p Shared rows) s.core.held (hold p Shared rows ∷ []) (inl refl)) refl)

  pub rows_got : rows_of_hold (standing_of v).core.held p ≡ rows
  rows_got = ap (λ (t : Standing). rows_of_hold t.core.held p) is_counted ∙ rows-end s.core.held p Shared rows above

  -- out again, where another pass has the latch
  pub out_for_latch : (k : ℕ) → pass_view (with_core (latched_out (standing_of v) p (Latch k)) (released (standing_of v).core p)) ≡ pass_view (turned_away Shared s p (Latch k))
  out_for_latch k =
      let same = other-end s.core.held p Shared rows above in
      ap (λ (t : Standing). pass_view (with_core (latched_out t p (Latch k)) (released t.core p))) is_counted
      ∙ (λ i. pass_view (record s {
        core = record s.core { held = same i; wish = None };
        refusals = suc s.refusals;
        last_refusal = Some (record { stripe = p; mode = Shared; found = Latch k; held = same i });
      }))

  -- out again, where memory was wanted
  pub out_for_memory : pass_view (with_core (standing_of v) (released (standing_of v).core p)) ≡ pass_view (without_wish s)
  out_for_memory =
      let same = other-end s.core.held p Shared rows above in
      ap (λ (t : Standing). pass_view (with_core t (released t.core p))) is_counted ∙ (λ i. pass_view (with_core s (record s.core { held = same i; wish = None })))

-- ---- a pass that has no pointer yet

-- what lies in front of the slots that it has out, by its number
pub bare_front : (slots old : List (ℕ × Slot)) (k j p : ℕ) → slots ≡ old → old ≡ (own_place k p, Empty) ∷ rest old → k ≡ j → slots ≡ (own_place j p, Empty) ∷ rest slots
bare_front slots old k j p same front e = same ∙ front ∙ (λ i. (own_place (e i) p, Empty) ∷ rest (sym same i))

-- it may leave
pub may_leave_bare : (key : Key) (u : PassState) (p : ℕ) (slots : List (ℕ × Slot)) → slots ≡ (own_place u.number p, Empty) ∷ rest slots → MayLeave key u p (Some p) slots
may_leave_bare key u p slots front = record { only = λ q apart. ne_eqb p q (λ e. apart (sym e)); own = Empty; front = front; is_own = tt }

module _ (key : Key) (m mid : Me Slot View) (p number : ℕ) (front : m.1 ≡ (own_place number p, Empty) ∷ rest m.1) (is : number ≡ (standing_of m.0).core.number) (shares : In p (shares_of (standing_of m.0).core)) where
  -- ---- another pass has the latch

  module _ (found : ℕ) (out : IsLatchedOut key m p found mid) where
    out_standing : standing_of mid.0 ≡ latched_out (standing_of m.0) p (found_in_latch found)
    out_standing = ap standing_of out.view

    pub out_may_leave : (lacks : Option ℕ) × (mid.0 ≡ view_of (standing_of mid.0) None lacks) × MayLeave key (standing_of mid.0).core p lacks mid.1
    out_may_leave = (
      Some p,
      out.view ∙ ap (λ (s : Standing). view_of s None (Some p)) (sym out_standing),
      may_leave_bare key (standing_of mid.0).core p mid.1 (bare_front mid.1 m.1 number (standing_of mid.0).core.number p out.slots front (is ∙ sym (ap (λ (s : Standing). s.core.number) out_standing))),
    )

    pub out_shares : In p (shares_of (standing_of mid.0).core)
    out_shares = subst (λ (s : Standing). In p (shares_of s.core)) (sym out_standing) shares

    pub out_left : (now : Me Slot View) → HasLeft mid p now
        → (now.0 ≡ pass_view (with_core (latched_out (standing_of m.0) p (found_in_latch found)) (released (standing_of m.0).core p))) × (now.1 ≡ rest m.1)
    out_left now left = (left.0 ∙ ap (λ (s : Standing). pass_view (with_core s (released s.core p))) out_standing, left.1 ∙ ap rest out.slots)

  -- ---- the latch is the pass's

  module _ (told : HasLatched key m p mid) where
    abbrev its_rows : Standing → KeptRows
    its_rows s = kept_of (spec_by key) (rows_of_hold s.core.held p)

    lies : HasInFront p (kept_of (spec_by key) (rows_of_hold (standing_of m.0).core.held p)) mid.1
    lies = record { handed = told.handed; is = told.slots ∙ ap (λ (xs : List (ℕ × Slot)). (slot_place p, lodged (spec_by key) told.handed (rows_of_hold (standing_of m.0).core.held p)) ∷ xs) (sym (ap rest told.slots)) }

    pub lies_there : (keep : KeptRows) × HasInFront p keep mid.1
    lies_there = (its_rows (standing_of m.0), lies)

    -- a copy of what lies there has the rows that the pass shares
    pub lent_copy : (copy : KeptRows) → HasInFront p copy mid.1 → copy ≡ kept_of (spec_by key) (rows_of_hold (standing_of m.0).core.held p)
    lent_copy copy h = same_kept h.handed told.handed copy (its_rows (standing_of m.0))
        (in_front mid.1 m.1 (slot_place p) (slot_place p) (kept_in h.handed copy) (lodged (spec_by key) told.handed (rows_of_hold (standing_of m.0).core.held p)) h.is told.slots)

    module _ (after : Me Slot View) (same : after.0 ≡ mid.0) (gave : (keep : KeptRows) → HasInFront p keep mid.1 → after.1 ≡ (slot_place p, Handed keep) ∷ rest mid.1) where
      after_standing : standing_of after.0 ≡ standing_of m.0
      after_standing = ap standing_of (same ∙ told.view)

      slots : after.1 ≡ (slot_place p, Handed (kept_of (spec_by key) (rows_of_hold (standing_of m.0).core.held p))) ∷ m.1
      slots = gave (its_rows (standing_of m.0)) lies ∙ ap (λ (xs : List (ℕ × Slot)). (slot_place p, Handed (its_rows (standing_of m.0))) ∷ xs) (ap rest told.slots)

      pub latch_there : after.0 ≡ view_of (standing_of after.0) (Some p) (Some p)
      latch_there = same ∙ told.view ∙ ap (λ (s : Standing). view_of s (Some p) (Some p)) (sym after_standing)

      pub slot_there : after.1 ≡ (slot_place p, Handed (kept_of (spec_by key) (rows_of_hold (standing_of after.0).core.held p))) ∷ rest after.1
      slot_there = slots ∙ (λ i. (slot_place p, Handed (its_rows (sym after_standing i))) ∷ sym (ap rest slots) i)

      module _ (free : Me Slot View) (t : HasUnlatched after free) where
        pub free_view : free.0 ≡ pass_view (standing_of m.0)
        free_view = t.0 ∙ ap pass_view after_standing

        pub free_slots : free.1 ≡ m.1
        free_slots = t.1 ∙ ap rest slots

        pub free_may_leave : (lacks : Option ℕ) × (free.0 ≡ view_of (standing_of free.0) None lacks) × MayLeave key (standing_of free.0).core p lacks free.1
        free_may_leave = (
          None,
          free_view ∙ ap pass_view (sym (ap standing_of free_view)),
          may_leave key (standing_of free.0).core p Empty free.1 (bare_front free.1 m.1 number (standing_of free.0).core.number p free_slots front (is ∙ sym (ap (λ (v : View). (standing_of v).core.number) free_view))) tt,
        )

        pub free_shares : In p (shares_of (standing_of free.0).core)
        free_shares = subst (λ (s : Standing). In p (shares_of s.core)) (sym (ap standing_of free_view)) shares

        pub free_left : (now : Me Slot View) → HasLeft free p now → (now.0 ≡ pass_view (with_core (standing_of m.0) (released (standing_of m.0).core p))) × (now.1 ≡ rest m.1)
        free_left now left = (left.0 ∙ ap (λ (s : Standing). pass_view (with_core s (released s.core p))) (ap standing_of free_view), left.1 ∙ ap rest free_slots)

-- ---- a pass that has just entered

module _ (key : Key) (m mid : Me Slot View) (p number : ℕ) (is : number ≡ (standing_of m.0).core.number) (told : HasEntered key m p mid) (i : ℕ) (place : i ≡ own_place number p) where
  at : own_place (standing_of m.0).core.number p ≡ i
  at = ap (λ (k : ℕ). own_place k p) (sym is) ∙ sym place

  pub own_there : (own : Slot) × (mid.1 ≡ (i, own) ∷ rest mid.1)
  own_there = (told.own, told.slots ∙ (λ j. (at j, told.own) ∷ sym (ap rest told.slots) j))

  module _ (x : Slot) (read : mid.1 ≡ (i, x) ∷ rest mid.1) where
    own_read : told.own ≡ x
    own_read = sym (in_front mid.1 m.1 i (own_place (standing_of m.0).core.number p) x told.own read told.slots)

    pub own_is : IsOwn (spec_by key) true told.rows x
    own_is = subst (IsOwn (spec_by key) true told.rows) own_read told.is_own

    module _ (after : Me Slot View) (then : after ≡ (mid.0, (i, Empty) ∷ rest mid.1)) where
      pub view_after : (lacks : Option ℕ) → lacking p x ≡ lacks → after.0 ≡ view_of (with_core (standing_of m.0) (shared (standing_of m.0).core p told.rows)) None lacks
      view_after lacks e = ap (λ (y : Me Slot View). y.0) then ∙ told.view ∙ ap (view_of (with_core (standing_of m.0) (shared (standing_of m.0).core p told.rows)) None) (ap (lacking p) own_read ∙ e)

      pub slots_after : after.1 ≡ (own_place number p, Empty) ∷ m.1
      slots_after = ap (λ (y : Me Slot View). y.1) then ∙ (λ j. (place j, Empty) ∷ ap rest told.slots j)

  -- what it holds has one relation
  pub one_entered : (lacks : Option ℕ) (v : View) → v ≡ view_of (with_core (standing_of m.0) (shared (standing_of m.0).core p told.rows)) None lacks → HaveOneRelation (spec_by key) (standing_of v).core.held
  one_entered lacks v e = subst (λ (s : Standing). HaveOneRelation (spec_by key) s.core.held) (sym (ap standing_of e)) told.one
