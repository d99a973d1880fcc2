use Rattle.std.proofs.Common.{◌≡◌, ◌≤◌, ℕ, suc, List, ◌∷◌, ◌++◌, drop, take, sym, refl, ap, ◌∙◌, subst, arith}
use Rattle.rc_row.proofs.Imports.{released, rows_of_hold, Me, rest, View, Inside, Apart, Empty, HeldRows, Slot, kept_of, pass_view, slot_place, standing_of, hands_out, own_hands, turned_times, IsPassOf, RowSeen, spec_of, with_core, passes_in}
use Rattle.rc_row.proofs.OwnLemmas.{behind_owns}
use Rattle.rc_row.proofs.TurnLemmas.{back_as, count_as, place_inside, read_here, turned_last}
use Rattle.rc_row.proofs.GiveLemmas.{behind_front, front_of, front_written, home_here, left_here}
use Rattle.rc_row.proofs.StepLemmas.{KeepsOwn, pass_of_without, seen_without, whole_without}
use Rattle.rc_row.proofs.WholeLemmas.{few_all, out_there, passes_there, rising_there, written_there}
use Rattle.rc_row.proofs.row.Row.unlock.Goals as goal

pub place_of-at-requires-clause-there : goal.place_of-at-requires-clause-there
place_of-at-requires-clause-there c = written_there c.pass.inside c.pass.invariant c.args.pass.now c.pass.view_is c.args.stripe c.requires.held

pub place_of-at-requires-clause-rising : goal.place_of-at-requires-clause-rising
place_of-at-requires-clause-rising c = rising_there c.pass.inside c.pass.invariant

pub turns_for-above-requires-clause-there : goal.turns_for-above-requires-clause-there
turns_for-above-requires-clause-there c = place_inside c.pass.inside.held.items c.args.stripe c.place_of-at.result c.place_of-at.ensures

pub turns_for-above-requires-clause-few : goal.turns_for-above-requires-clause-few
turns_for-above-requires-clause-few c =
    let few = subst (λ (r : RowSeen). r.key.passes ≤ 255) c.self.view_is c.self.invariant.passes in
    (few_all c.pass.inside c.pass.invariant c.args.pass.now c.pass.view_is c.self.inside c.args.self.now c.self.invariant c.self.view_is c.requires.pass, omega arith)

-- ---- once its slots are in front

pub put_in-requires-clause-slot : goal.put_in-requires-clause-slot
put_in-requires-clause-slot c =
    let n = c.args.self.now.key.passes in
    let h = c.place_of-at.ensures in
    let others = hands_out n c.pass.inside.number h.before ++ hands_out n c.pass.inside.number h.after in
    front_of c.turn_by.new.seat.me.1 (own_hands n c.args.stripe (λ j. Empty) ++ others) (slot_place c.args.stripe, Empty)
    (front_written c.pass.inside c.pass.invariant c.args.pass.now c.pass.view_is c.args.stripe c.place_of-at.result c.place_of-at.ensures c.args.self.now.key.passes (out_there c.pass.inside c.pass.invariant c.args.pass.now c.pass.view_is c.self.inside c.args.self.now c.self.invariant c.self.view_is c.requires.pass) c.turns_for-above.result.0 (count_as c.pass_count.result c.args.self.now.key.passes c.pass.inside.number c.turns_for-above.result.0 (drop (suc c.place_of-at.result) c.pass.inside.held.items) c.pass_count.ensures (c.turns_for-above.ensures.front c.pass.inside.number)) c.turn_by.new.seat.me.1 (ap (λ (m : Me Slot View). m.1) c.turn_by.ensures.2) c.requires.held)
    ∙ ap (λ (i : ℕ). (i, Empty) ∷ rest c.turn_by.new.seat.me.1) (sym c.slot_place.ensures)

pub unlock_step-requires-clause-slots : goal.unlock_step-requires-clause-slots
unlock_step-requires-clause-slots c =
    let p = c.args.stripe in
    let spec = spec_of c.args.self.now in
    let held = c.pass.inside.held.items in
    let at = c.place_of-at.result in
    let h = c.place_of-at.ensures in
    let n = c.args.self.now.key.passes in
    let others = hands_out n c.pass.inside.number h.before ++ hands_out n c.pass.inside.number h.after in
    let front = front_written c.pass.inside c.pass.invariant c.args.pass.now c.pass.view_is c.args.stripe c.place_of-at.result c.place_of-at.ensures c.args.self.now.key.passes (out_there c.pass.inside c.pass.invariant c.args.pass.now c.pass.view_is c.self.inside c.args.self.now c.self.invariant c.self.view_is c.requires.pass) c.turns_for-above.result.0 (count_as c.pass_count.result c.args.self.now.key.passes c.pass.inside.number c.turns_for-above.result.0 (drop (suc c.place_of-at.result) c.pass.inside.held.items) c.pass_count.ensures (c.turns_for-above.ensures.front c.pass.inside.number)) c.turn_by.new.seat.me.1 (ap (λ (m : Me Slot View). m.1) c.turn_by.ensures.2) c.requires.held in
    let fragment = ap (λ (x : HeldRows). x.fragment) (c.take_at-held.ensures.value ∙ read_here held p at h c.take_at-held.result) in
    let view = ap (λ (m : Me Slot View). m.0) (c.put_in.ensures.2) ∙ ap (λ (m : Me Slot View). m.0) c.turn_by.ensures.2 in
    let kept = c.into_keep.ensures ∙ home_here c.pass.inside c.pass.invariant c.args.pass.now c.pass.view_is p at h spec c.take_at-held.result.fragment c.put_in.new.seat.me.0 fragment c.requires.pass.shapes c.requires.rest view in
    behind_front c.args.self.now.key.passes p (Apart (kept_of spec (rows_of_hold (standing_of c.put_in.new.seat.me.0).core.held p))) c.put_in.new.seat.me.1 others
    (ap (λ (m : Me Slot View). m.1) c.put_in.ensures.2 ∙ (λ i. (c.slot_place.ensures i, Apart (kept i)) ∷ rest (front i)))

-- ---- once the stripe is given back

abbrev new : goal.After-turn_by-2 → Inside
new c = record c.pass.inside { held = c.take_at-held.new.held; seat = c.turn_by-2.new.seat }

keeps : (c : goal.After-turn_by-2) → KeepsOwn c.pass.inside (new c)
keeps c = record {
  number = refl;
  seen = refl;
  made = refl;
  entries = refl;
  table = c.turn_by-2.ensures.0 ∙ c.unlock_step.ensures.seat.0 ∙ c.put_in.ensures.0 ∙ c.turn_by.ensures.0;
  room = c.take_at-held.ensures.capacity;
}

many : (c : goal.After-turn_by-2) → passes_in c.pass.inside.seat.table_id.slots ≡ c.args.self.now.key.passes
many c = passes_there c.pass.inside c.pass.invariant c.args.pass.now c.pass.view_is c.self.inside c.args.self.now c.self.invariant c.self.view_is c.requires.pass

view : (c : goal.After-turn_by-2) → (new c).seat.me.0 ≡ pass_view (with_core (standing_of c.pass.inside.seat.me.0) (released (standing_of c.pass.inside.seat.me.0).core c.args.stripe))
view c =
    let same = ap (λ (m : Me Slot View). m.0) c.put_in.ensures.2 ∙ ap (λ (m : Me Slot View). m.0) c.turn_by.ensures.2 in
    ap (λ (m : Me Slot View). m.0) c.turn_by-2.ensures.2 ∙ c.unlock_step.ensures.told.0 ∙ ap (λ (v : View). pass_view (with_core (standing_of v) (released (standing_of v).core c.args.stripe))) same

slots : (c : goal.After-turn_by-2) → (new c).seat.me.1 ≡ hands_out c.args.self.now.key.passes c.pass.inside.number (new c).held.items
slots c =
    let n = c.args.self.now.key.passes in
    let k = c.pass.inside.number in
    let p = c.args.stripe in
    let at = c.place_of-at.result in
    let h = c.place_of-at.ensures in
    let more = hands_out n k h.before ++ hands_out n k h.after in
    let front = front_written c.pass.inside c.pass.invariant c.args.pass.now c.pass.view_is p at h n (out_there c.pass.inside c.pass.invariant c.args.pass.now c.pass.view_is c.self.inside c.args.self.now c.self.invariant c.self.view_is c.requires.pass)
    c.turns_for-above.result.0 (count_as c.pass_count.result c.args.self.now.key.passes c.pass.inside.number c.turns_for-above.result.0 (drop (suc c.place_of-at.result) c.pass.inside.held.items) c.pass_count.ensures (c.turns_for-above.ensures.front c.pass.inside.number)) c.turn_by.new.seat.me.1 (ap (λ (m : Me Slot View). m.1) c.turn_by.ensures.2) c.requires.held in
    ap (λ (m : Me Slot View). m.1) c.turn_by-2.ensures.2
    ∙ ap (turned_times c.turns_for-above.result.1) (c.unlock_step.ensures.told.1 ∙ ap (λ (m : Me Slot View). drop (suc n) m.1) c.put_in.ensures.2 ∙ ap (λ (xs : List (ℕ × Slot)). drop n (rest xs)) front ∙ behind_owns n p (λ j. Empty) more)
    ∙ turned_last c.pass.inside.held.items p at h n k c.turns_for-above.result.0 c.turns_for-above.result.1 (count_as c.pass_count.result c.args.self.now.key.passes c.pass.inside.number c.turns_for-above.result.0 (drop (suc c.place_of-at.result) c.pass.inside.held.items) c.pass_count.ensures (c.turns_for-above.ensures.front c.pass.inside.number)) (back_as c.pass_count.result c.args.self.now.key.passes c.pass.inside.number c.turns_for-above.result.0 c.turns_for-above.result.1 (take c.place_of-at.result c.pass.inside.held.items) c.pass_count.ensures (c.turns_for-above.ensures.back c.pass.inside.number))
    ∙ ap (hands_out n k) (sym (left_here c.pass.inside c.pass.invariant c.args.pass.now c.pass.view_is p at h c.take_at-held.new.held.items c.take_at-held.ensures.items).0)

pub invariant_of-pass : goal.invariant_of-pass
invariant_of-pass c =
    whole_without c.pass.inside (new c) c.pass.invariant (keeps c) (many c) c.args.stripe (view c) (slots c)
    (left_here c.pass.inside c.pass.invariant c.args.pass.now c.pass.view_is c.args.stripe c.place_of-at.result c.place_of-at.ensures c.take_at-held.new.held.items c.take_at-held.ensures.items).1

pub returns-clause-value : goal.returns-clause-value
returns-clause-value c =
    seen_without c.pass.inside (new c) c.pass.invariant (keeps c) (many c) c.args.stripe c.args.pass.now c.pass.view_is (view c)
    (left_here c.pass.inside c.pass.invariant c.args.pass.now c.pass.view_is c.args.stripe c.place_of-at.result c.place_of-at.ensures c.take_at-held.new.held.items c.take_at-held.ensures.items).1

pub returns-clause-pass : goal.returns-clause-pass
returns-clause-pass c =
    subst (IsPassOf c.args.self.now) (sym (returns-clause-value c)) (pass_of_without c.args.self.now c.args.pass.now c.args.stripe c.requires.pass)
