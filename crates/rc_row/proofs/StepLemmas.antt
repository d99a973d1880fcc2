-- A pass after a step: it is whole again, and is of its row.
use Rattle.std.proofs.Common.{◌≡◌, ℕ, ◌<◌, ◌==◌, List, [], ◌∷◌, ◌++◌, length, not, Option, None, sym, refl, ap, ◌∙◌, subst, arith}
use Rattle.rc_row.proofs.Imports.{vec_capacity, nat_cmp, All-filter, All-push, IsRising, rising_filter, Mode, Spec, EdgeRow, edge_table, PartEntries, Placed, Hold, stripes_in, IsAbove, other_holds, took, released, stripes-other, TableId, Standing, Inside, HeldRows, just_held, kept_of, pass_view, standing_of, AreOwnKept, IsWholePass, pass_seen, hand_out, hands_out, passes_in, IsPassOf, PassSeen, RowSeen, held_without, holds_taken, spec_of, stripes_of, with_taken, without_stripe, with_core}
use Rattle.rc_row.proofs.AgreeLemmas.{agrees_as, agrees_taken}
use Rattle.rc_row.proofs.ChangeLemmas.{taken-without}
use Rattle.rc_row.proofs.OwnHandsLemmas.{hands_out-append}

-- a pass keeps its number, what it has seen and its entries
pub record KeepsOwn (a b : Inside) : Type 0 where
  pub number : b.number ≡ a.number
  pub seen : b.seen ≡ a.seen
  pub made : b.made ≡ a.made
  pub entries : b.entries ≡ a.entries
  pub table : b.seat.table_id ≡ a.seat.table_id
  pub room : vec_capacity b.held ≡ vec_capacity a.held

module _ (a b : Inside) (whole : IsWholePass a) (keeps : KeepsOwn a b) {n : ℕ} (many : passes_in a.seat.table_id.slots ≡ n) where
  -- the rest of a pass is whole where its own entries and what it has seen are as they were
  pub whole_as : (s : Standing) → b.seat.me.0 ≡ pass_view s → s.core.seen ≡ (standing_of a.seat.me.0).core.seen → s.core.own ≡ (standing_of a.seat.me.0).core.own
      → s.core.number ≡ (standing_of a.seat.me.0).core.number → s.core.turning ≡ None → b.seat.me.1 ≡ hands_out n a.number b.held.items → holds_taken b.held.items ≡ s.core.held
      → IsRising nat_cmp (stripes_in s.core.held) → IsWholePass b
  whole_as s view seen own number ahead slots taken rising =
      let is : standing_of b.seat.me.0 ≡ s = ap standing_of view in
      let count : passes_in b.seat.table_id.slots ≡ n = ap (λ (t : TableId). passes_in t.slots) keeps.table ∙ many in
      let same_own : (standing_of b.seat.me.0).core.own ≡ (standing_of a.seat.me.0).core.own = ap (λ (t : Standing). t.core.own) is ∙ own in
      record {
        agrees = agrees_as b.number s b.seat.me b.held.items view (keeps.number ∙ whole.agrees.number_is ∙ sym number) (let m = keeps.number in let l = whole.agrees.small in omega arith) ahead taken rising;
        hands_are = slots ∙ (λ i. hands_out (sym count i) (sym keeps.number i) b.held.items);
        seen = keeps.seen ∙ whole.seen ∙ sym seen ∙ sym (ap (λ (t : Standing). t.core.seen) is);
        made = keeps.made ∙ whole.made ∙ ap (λ (xs : List Placed). length xs) (sym same_own);
        entries = subst (λ (z : Option PartEntries × List Placed). AreOwnKept z.0 z.1) (λ i. (sym keeps.entries i, sym same_own i)) whole.entries;
        room = let r = whole.room in let c = keeps.room in let t = ap (λ (t : TableId). t.words) keeps.table in omega arith;
      }

  pub whole_taken : (spec : Spec) (mode : Mode) (p : ℕ) (rows : List EdgeRow) → IsAbove (standing_of a.seat.me.0).core p
      → b.seat.me.0 ≡ pass_view (with_core (standing_of a.seat.me.0) (took mode (standing_of a.seat.me.0).core p rows)) → b.seat.me.1 ≡ hand_out n a.number mode p ++ a.seat.me.1
      → b.held.items ≡ a.held.items ++ just_held p mode (kept_of spec rows) ∷ [] → IsWholePass b
  whole_taken spec mode p rows above view slots held =
      let g = agrees_taken a.number a.seat.me a.held.items whole.agrees spec mode p rows b.seat.me above view in
      let is : standing_of b.seat.me.0 ≡ with_core (standing_of a.seat.me.0) (took mode (standing_of a.seat.me.0).core p rows) = ap standing_of view in
      whole_as (with_core (standing_of a.seat.me.0) (took mode (standing_of a.seat.me.0).core p rows)) view refl refl refl whole.agrees.ahead
      (slots ∙ (λ i. hand_out n a.number mode p ++ (whole.hands_are ∙ ap (λ (m : ℕ). hands_out m a.number a.held.items) many) i)
      ∙ sym (hands_out-append n a.number a.held.items (just_held p mode (kept_of spec rows) ∷ [])) ∙ ap (hands_out n a.number) (sym held)) (ap holds_taken held ∙ g.taken ∙ ap (λ (t : Standing). t.core.held) is)
      (subst (λ (t : Standing). IsRising nat_cmp (stripes_in t.core.held)) is g.rising)

  pub seen_taken : (spec : Spec) (mode : Mode) (p : ℕ) (rows : List EdgeRow) (seen : PassSeen) → pass_seen a ≡ seen
      → b.seat.me.0 ≡ pass_view (with_core (standing_of a.seat.me.0) (took mode (standing_of a.seat.me.0).core p rows))
      → b.held.items ≡ a.held.items ++ just_held p mode (kept_of spec rows) ∷ [] → pass_seen b ≡ with_taken spec mode p rows seen
  seen_taken spec mode p rows seen is view held =
      (λ i. record { table = keeps.table i; standing = standing_of (view i); held = held i; kept = keeps.entries i }) ∙ ap (with_taken spec mode p rows) is

  -- a stripe given back
  pub whole_without : (p : ℕ) → b.seat.me.0 ≡ pass_view (with_core (standing_of a.seat.me.0) (released (standing_of a.seat.me.0).core p)) → b.seat.me.1 ≡ hands_out n a.number b.held.items
      → b.held.items ≡ held_without a.held.items p → IsWholePass b
  whole_without p view slots held =
      whole_as (with_core (standing_of a.seat.me.0) (released (standing_of a.seat.me.0).core p)) view refl refl refl whole.agrees.ahead slots
      (ap holds_taken held ∙ taken-without p a.held.items ∙ ap (λ (hs : List Hold). other_holds hs p) whole.agrees.taken)
      (subst (IsRising nat_cmp) (sym (stripes-other (standing_of a.seat.me.0).core.held p)) (rising_filter nat_cmp (λ (q : ℕ). not (q == p)) (stripes_in (standing_of a.seat.me.0).core.held) whole.agrees.rising))

  pub seen_without : (p : ℕ) (seen : PassSeen) → pass_seen a ≡ seen → b.seat.me.0 ≡ pass_view (with_core (standing_of a.seat.me.0) (released (standing_of a.seat.me.0).core p))
      → b.held.items ≡ held_without a.held.items p → pass_seen b ≡ without_stripe p seen
  seen_without p seen is view held =
      (λ i. record { table = keeps.table i; standing = standing_of (view i); held = held i; kept = keeps.entries i }) ∙ ap (without_stripe p) is

-- ---- whose a pass is

pub pass_of_taken : (row : RowSeen) (pass : PassSeen) (mode : Mode) (p : ℕ) (rows : List EdgeRow) → IsPassOf row pass → p < stripes_of row → IsPassOf row (with_taken (spec_of row) mode p rows pass)
pass_of_taken row pass mode p rows of lt = record {
  table = of.table;
  inside = All-push (λ (h : HeldRows). h.stripe < stripes_of row) pass.held (just_held p mode (kept_of (spec_of row) rows)) of.inside lt;
  shapes = All-push (λ (h : HeldRows). h.fragment.table ≡ edge_table (spec_of row)) pass.held (just_held p mode (kept_of (spec_of row) rows)) of.shapes refl;
  keeps = of.keeps;
}

pub pass_of_without : (row : RowSeen) (pass : PassSeen) (p : ℕ) → IsPassOf row pass → IsPassOf row (without_stripe p pass)
pass_of_without row pass p of = record {
  table = of.table;
  inside = All-filter (λ (h : HeldRows). not (h.stripe == p)) (λ (h : HeldRows). h.stripe < stripes_of row) pass.held of.inside;
  shapes = All-filter (λ (h : HeldRows). not (h.stripe == p)) (λ (h : HeldRows). h.fragment.table ≡ edge_table (spec_of row)) pass.held of.shapes;
  keeps = of.keeps;
}
