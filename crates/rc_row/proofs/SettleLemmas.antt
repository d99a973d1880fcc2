-- A pass after a commit: it is whole again, and is of its row.
use Rattle.std.proofs.Common.{◌≡◌, ℕ, ◌+◌, ◌<◌, List, [], ◌∷◌, ◌++◌, length, map, Option, Some, None, sym, refl, ap, ◌∙◌, subst, arith, add-one, length-append}
use Rattle.rc_row.proofs.Imports.{nat_cmp, All-map, IsRising, Mode, Shared, Exclusive, Spec, EdgeRow, SpecWithPlans, edge_table, settled, PartEntries, Entry, Placed, placed, Hold, hold, stripes_in, IsOfHistory, committed, renewed, renewed_as, rows_then, TableId, Me, Keeping, Entries, Counts, Standing, Inside, HeldRows, View, Slot, pass_view, standing_of, hands_out, AreOwnKept, IsWholePass, pass_seen, HasAdded, IsPassOf, compiled_of, KeepsAs, PassSeen, RowSeen, all_with, core_of, holds_now, holds_taken, spec_of, stripes_of, with_commit, with_entry, with_fragment, HaveOneRelation, IsAtHistory, after_entry, HasCommitted, passes_in}
use Rattle.rc_row.proofs.AgreeLemmas.{agrees_as}
use Rattle.rc_row.proofs.ChangeLemmas.{hands-with}

taken-settled : (held : List HeldRows) → holds_taken (all_with settled held) ≡ holds_now held
taken-settled [] = refl
taken-settled (h ∷ held) = ap (λ (hs : List Hold). hold h.stripe h.mode h.fragment.now ∷ hs) (taken-settled held)

stripe-renewed : (mode : Mode) (spec : Spec) (rows : List EdgeRow) (h : Hold) → (renewed_as mode spec rows h).stripe ≡ h.stripe
stripe-renewed Exclusive spec rows h = refl
stripe-renewed Shared spec rows h = refl

stripes-renewed : (spec : Spec) (rows : List EdgeRow) (holds : List Hold) → stripes_in (map (renewed spec rows) holds) ≡ stripes_in holds
stripes-renewed spec rows [] = refl
stripes-renewed spec rows (h ∷ holds) = λ i. stripe-renewed h.mode spec rows h i ∷ stripes-renewed spec rows holds i

own_kept : (kept : Option PartEntries) (own : List Placed) (w : Placed) → AreOwnKept kept own → AreOwnKept (with_entry kept w) (own ++ w ∷ [])
own_kept None own w e = tt
own_kept (Some part) own w e = ap (λ (xs : List Placed). xs ++ w ∷ []) e

keeps_as : (keeping : Keeping) (kept : Option PartEntries) (w : Placed) → KeepsAs keeping kept → KeepsAs keeping (with_entry kept w)
keeps_as Entries None w k = k
keeps_as Entries (Some part) w k = tt
keeps_as Counts None w k = tt
keeps_as Counts (Some part) w k = k

-- what a commit makes of a pass
pub record HasSettled (compiled : SpecWithPlans) (before : List Entry) (e : Entry) (a b : Inside) : Type 0 where
  pub number : b.number ≡ a.number
  pub seen : b.seen ≡ length before + 1
  pub made : b.made ≡ a.made + 1
  pub entries : b.entries ≡ with_entry a.entries (placed (length before) e)
  pub view : b.seat.me.0 ≡ pass_view (after_entry compiled before e (standing_of a.seat.me.0))
  pub slots : b.seat.me.1 ≡ a.seat.me.1
  pub table : b.seat.table_id ≡ a.seat.table_id
  pub held : b.held.items ≡ all_with settled a.held.items
  pub room : b.held.cap ≡ a.held.cap

module _ (compiled : SpecWithPlans) (before : List Entry) (e : Entry) (a b : Inside) (whole : IsWholePass a) (h : HasSettled compiled before e a b) (pass : PassSeen) (is : pass_seen a ≡ pass) where
  pub whole_committed : holds_now pass.held ≡ (committed compiled (core_of pass) 0 e).held → IsWholePass b
  whole_committed left =
      let s : Standing = after_entry compiled before e (standing_of a.seat.me.0) in
      let now : standing_of b.seat.me.0 ≡ s = ap standing_of h.view in
      let own : (standing_of b.seat.me.0).core.own ≡ (standing_of a.seat.me.0).core.own ++ placed (length before) e ∷ [] = ap (λ (t : Standing). t.core.own) now in
      record {
        agrees = agrees_as b.number s b.seat.me b.held.items h.view (h.number ∙ whole.agrees.number_is) (let n = h.number in let l = whole.agrees.small in omega arith) whole.agrees.ahead
            (ap holds_taken h.held ∙ taken-settled a.held.items ∙ ap (λ (t : PassSeen). holds_now t.held) is ∙ left ∙ ap (λ (t : PassSeen). (committed compiled (core_of t) 0 e).held) (sym is))
            (subst (IsRising nat_cmp) (sym (stripes-renewed compiled.spec (rows_then compiled (standing_of a.seat.me.0).core e.steps) (standing_of a.seat.me.0).core.held)) whole.agrees.rising);
        hands_are = h.slots ∙ whole.hands_are ∙ sym (hands-with (λ (x : HeldRows). settled x.fragment) a.held.items (passes_in a.seat.table_id.slots) a.number)
            ∙ (λ i. hands_out (passes_in (sym h.table i).slots) (sym h.number i) (sym h.held i));
        seen = h.seen ∙ add-one (length before) ∙ sym (ap (λ (t : Standing). t.core.seen) now);
        made = h.made ∙ ap (λ (n : ℕ). n + 1) whole.made ∙ sym (ap (λ (xs : List Placed). length xs) own ∙ length-append (standing_of a.seat.me.0).core.own (placed (length before) e ∷ []));
        entries = subst (λ (z : Option PartEntries × List Placed). AreOwnKept z.0 z.1) (λ i. (sym h.entries i, sym own i)) (own_kept a.entries (standing_of a.seat.me.0).core.own (placed (length before) e) whole.entries);
        room = let r = whole.room in let c = h.room in let t = ap (λ (t : TableId). t.words) h.table in omega arith;
      }

  pub seen_committed : pass_seen b ≡ with_commit compiled before e pass
  seen_committed = (λ i. record { table = h.table i; standing = standing_of (h.view i); held = h.held i; kept = h.entries i }) ∙ ap (with_commit compiled before e) is

-- what the step told is so of the pass
pub has_added : (row : RowSeen) (e : Entry) (a b : Inside) (place : ℕ) (m : Me Slot View) (told : HasCommitted row.key e a.seat.me place m) → IsWholePass a
    → HasSettled (compiled_of row) told.before e a b → (pass : PassSeen) → pass_seen a ≡ pass → HasAdded row e pass (pass_seen b) place
has_added row e a b place m told whole h pass is =
    let now : standing_of b.seat.me.0 ≡ after_entry (compiled_of row) told.before e (standing_of a.seat.me.0) = ap standing_of h.view in
    record {
      before = told.before;
      place_is = told.place;
      small = told.small;
      at = subst (λ (s : PassSeen). IsAtHistory (spec_of row) row.key.passes told.before s.standing) is told.at;
      after = subst (λ (s : Standing). IsOfHistory (spec_of row) row.key.passes (told.before ++ e ∷ []) s.core) (sym now) told.after;
      one = subst (λ (s : Standing). HaveOneRelation (spec_of row) s.core.held) (sym now) told.one;
      is = seen_committed (compiled_of row) told.before e a b whole h pass is;
    }

pub pass_of_commit : (row : RowSeen) (compiled : SpecWithPlans) (before : List Entry) (e : Entry) (pass : PassSeen) → IsPassOf row pass → IsPassOf row (with_commit compiled before e pass)
pass_of_commit row compiled before e pass of = record {
  table = of.table;
  inside = All-map (λ (h : HeldRows). h.stripe < stripes_of row) (with_fragment (λ (h : HeldRows). settled h.fragment)) pass.held of.inside;
  shapes = All-map (λ (h : HeldRows). h.fragment.table ≡ edge_table (spec_of row)) (with_fragment (λ (h : HeldRows). settled h.fragment)) pass.held of.shapes;
  keeps = keeps_as row.keeping pass.kept (placed (length before) e) of.keeps;
}
