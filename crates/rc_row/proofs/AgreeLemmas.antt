-- A pass and its seat agree after each step.
use Rattle.std.proofs.Common.{◌≡◌, ℕ, ◌<◌, ◌≤◌, List, [], ◌∷◌, ◌++◌, length, None, sym, ap, ◌∙◌, subst, arith}
use Rattle.rc_row.proofs.Imports.{Less, nat_cmp, nat_cmp_is, map-append, length-map, IsRising, Mode, Spec, EdgeRow, Hold, hold, stripes_in, IsAbove, IsHigh, took, rising_end, length-rising, Me, Standing, View, HeldRows, just_held, Slot, kept_of, pass_view, standing_of, Agrees, holds_taken, with_core}

-- ---- what is held, as the core has it

-- a pass that is asked for a stripe above all that it holds has room for the fragment
pub few_held : (number : ℕ) (me : Me Slot View) (held : List HeldRows) (p : ℕ) → Agrees number me held → IsAbove (standing_of me.0).core p → length held ≤ p
few_held number me held p a above =
    let n = length-rising 0 p (stripes_in (standing_of me.0).core.held) (omega arith) a.rising (λ q m. (omega arith, above q m)) in
    let k = length-map (standing_of me.0).core.held (λ (h : Hold). h.stripe) in
    let m = length-map held (λ (h : HeldRows). hold h.stripe h.mode h.fragment.taken) in
    let e = ap (λ (hs : List Hold). length hs) a.taken in
    omega arith

pub high_at : (number : ℕ) (me : Me Slot View) (held : List HeldRows) (p : ℕ) → Agrees number me held → IsAbove (standing_of me.0).core p → IsHigh (standing_of me.0).core p
high_at number me held p a above = record { above = above; ahead = a.ahead }

-- ---- a pass and its seat

pub agrees_as : (number : ℕ) (s : Standing) (now : Me Slot View) (held : List HeldRows) → now.0 ≡ pass_view s → number ≡ s.core.number → number < 255 → s.core.turning ≡ None
    → holds_taken held ≡ s.core.held → IsRising nat_cmp (stripes_in s.core.held) → Agrees number now held
agrees_as number s now held view number_is small ahead taken rising =
    let is : standing_of now.0 ≡ s = ap standing_of view in
    record {
      view_is = view ∙ ap pass_view (sym is);
      number_is = number_is ∙ sym (ap (λ (t : Standing). t.core.number) is);
      small = small;
      ahead = ap (λ (t : Standing). t.core.turning) is ∙ ahead;
      taken = taken ∙ sym (ap (λ (t : Standing). t.core.held) is);
      rising = subst (λ (t : Standing). IsRising nat_cmp (stripes_in t.core.held)) (sym is) rising;
    }

module _ (number : ℕ) (me : Me Slot View) (held : List HeldRows) (a : Agrees number me held) where
  -- a stripe more, written or shared
  pub agrees_taken : (spec : Spec) (mode : Mode) (p : ℕ) (rows : List EdgeRow) (now : Me Slot View) → IsAbove (standing_of me.0).core p
      → now.0 ≡ pass_view (with_core (standing_of me.0) (took mode (standing_of me.0).core p rows))
      → Agrees number now (held ++ just_held p mode (kept_of spec rows) ∷ [])
  agrees_taken spec mode p rows now above view =
      agrees_as number (with_core (standing_of me.0) (took mode (standing_of me.0).core p rows)) now (held ++ just_held p mode (kept_of spec rows) ∷ []) view a.number_is a.small a.ahead
      (map-append (λ (h : HeldRows). hold h.stripe h.mode h.fragment.taken) held (just_held p mode (kept_of spec rows) ∷ []) ∙ ap (λ (hs : List Hold). hs ++ hold p mode rows ∷ []) a.taken)
      (subst (IsRising nat_cmp) (sym (map-append (λ (h : Hold). h.stripe) (standing_of me.0).core.held (hold p mode rows ∷ [])))
      (rising_end nat_cmp (stripes_in (standing_of me.0).core.held) p a.rising (λ q m. sym (nat_cmp_is q p Less (above q m)))))

  -- all that agreement speaks of is as it was
  pub agrees_same : (s : Standing) (now : Me Slot View) (held' : List HeldRows) → now.0 ≡ pass_view s → s.core.number ≡ (standing_of me.0).core.number → s.core.turning ≡ None
      → holds_taken held' ≡ s.core.held → IsRising nat_cmp (stripes_in s.core.held) → Agrees number now held'
  agrees_same s now held' view number_is ahead taken rising =
      agrees_as number s now held' view (a.number_is ∙ sym number_is) a.small ahead taken rising
